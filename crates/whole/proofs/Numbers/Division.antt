-- Division of ℤ toward zero, as the code's `/` does it (lib.Signed.quot_z), where the divisor divides.
--   exact-up, exact-down    by a positive and by a negative divisor: divisor times quotient is the number again
--   quot-of                 the quotient of a product
--   abs-quot, within-quot   a quotient is no larger
--   bits-nonzero            a divisor other than 0 is not 0 as bits
--   size-quot               the size of a quotient is the quotient of sizes
use mathlib.Core.Path.{◌≡◌, refl, sym, ◌∙◌, ap}
use mathlib.Core.Logic.{◌≢◌}
use Prim.Native.Nat.{ℕ, zero, suc, ◌*◌, ◌/◌, ◌%◌, ◌≤◌, ◌<◌, ◌∣◌}
use native.Mathlib.Omega.{arith}
use native.Mathlib.Nat.{mul-div_cancel, mod-eq-zero_of_dvd, div-add-mod, div-le_self, le_trans, zero-div}
use lib.IntN.{ℤ, pos, negsuc, neg_ℤ, nat_abs, ◌*ℤ◌, neg_ℤ-neg_ℤ}
use lib.Signed.{quot_z}
use mir.Facts.{to_z-of_z}
use mir.Syntax.{Width}
use mir.Val.{SFits, of_z, to_z}
use Rattle.whole.proofs.Ring.Laws.{*ℤ-neg}
use Rattle.whole.specs.Numbers.{Within}
use Rattle.whole.proofs.Numbers.Sizes.{abs_neg}

exact-nat : (g a : ℕ) → g ∣ a → g * (a / g) ≡ a
exact-nat g a d = let z : a % g ≡ 0 = mod-eq-zero_of_dvd g d in omega (arith, div-add-mod a g)

pub exact-up : (g : ℕ) (z : ℤ) → g ∣ nat_abs z → pos g *ℤ quot_z z (pos g) ≡ z
exact-up g (pos a) d = ap pos (exact-nat g a d)
exact-up g (negsuc a) d = *ℤ-neg (pos g) (pos (suc a / g)) ∙ ap (λ n. neg_ℤ (pos n)) (exact-nat g (suc a) d)

pub exact-down : (g : ℕ) (z : ℤ) → suc g ∣ nat_abs z → negsuc g *ℤ quot_z z (negsuc g) ≡ z
exact-down g (pos a) d =
    *ℤ-neg (negsuc g) (pos (a / suc g)) ∙ neg_ℤ-neg_ℤ (pos (suc g * (a / suc g))) ∙ ap pos (exact-nat (suc g) a d)
exact-down g (negsuc a) d = ap (λ n. neg_ℤ (pos n)) (exact-nat (suc g) (suc a) d)

quot-neg : (m g : ℕ) → quot_z (neg_ℤ (pos m)) (pos g) ≡ neg_ℤ (pos (m / g))
quot-neg zero g = ap (λ x. pos x) (zero-div g) ∙ sym (ap (λ x. neg_ℤ (pos x)) (zero-div g))
quot-neg (suc m) g = refl

pub quot-of : (a : ℤ) (g : ℕ) → zero < g → quot_z (a *ℤ pos g) (pos g) ≡ a
quot-of (pos n) g h = ap pos (mul-div_cancel n h)
quot-of (negsuc n) g h = quot-neg (suc n * g) g ∙ ap (λ x. neg_ℤ (pos x)) (mul-div_cancel (suc n) h)

pub size-quot : (z g : ℤ) → nat_abs (quot_z z g) ≡ nat_abs z / nat_abs g
size-quot (pos a) (pos g) = refl
size-quot (pos a) (negsuc g) = abs_neg (pos (a / suc g))
size-quot (negsuc a) (pos g) = abs_neg (pos (suc a / g))
size-quot (negsuc a) (negsuc g) = refl

abs-quot : (z g : ℤ) → nat_abs (quot_z z g) ≤ nat_abs z
abs-quot z g = rw (size-quot z g) (div-le_self (nat_abs z) (nat_abs g))

pub within-quot : {z : ℤ} {n : ℕ} (g : ℤ) → Within z n → Within (quot_z z g) n
within-quot {z} g h = record { within = le_trans (abs-quot z g) h.within }

pub bits-nonzero : (w : Width) (g : ℤ) → SFits w g → g ≢ to_z w 0 → 0 < of_z w g
bits-nonzero w g f n = go (of_z w g) (to_z-of_z f)
  where
    go : (b : ℕ) → to_z w b ≡ g → 0 < b
    go zero e = absurd (n (sym e))
    go (suc b) e = omega arith
