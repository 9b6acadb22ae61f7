-- A size with the sign of a number.
--   signed-down, signed_up, signed-nonzero   of a number below 0, of another, and that it is not 0
--   size-signed, signed-again, signed-size   its size, its sign, and a number's own size
--   signed-quotient-up                       a number over a divisor with its sign is not below 0
use Prim.Native.Nat.{ℕ, zero, suc, ◌/◌, ◌<◌}
use native.Mathlib.Omega.{arith}
use mathlib.Core.Path.{◌≡◌, refl, ap, sym, subst}
use mathlib.Core.Logic.{◌≢◌}
use mathlib.Core.Bool.{Bool, true, false, cond}
use lib.Dec.{ltb, le→leb}
use lib.IntN.{ℤ, pos, negsuc, neg_ℤ, nat_abs}
use lib.Signed.{quot_z, ◌≤ℤ◌}
use mir.Facts.{no_ltb}
use Rattle.whole.specs.Numbers.{is_neg}
use Rattle.whole.proofs.Bools.{T→false}
use Rattle.whole.proofs.Numbers.Sizes.{abs_neg}
use Rattle.divisor.specs.Signs.{signed_by}

signed-down : (s : ℤ) (g : ℕ) → is_neg s ≡ true → signed_by s g ≡ neg_ℤ (pos g)
unfolding signed_by
signed-down s g e = ap (λ b. cond b (neg_ℤ (pos g)) (pos g)) e

signed_up : (s : ℤ) (g : ℕ) → is_neg s ≡ false → signed_by s g ≡ pos g
unfolding signed_by
signed_up s g e = ap (λ b. cond b (neg_ℤ (pos g)) (pos g)) e

pub signed-nonzero : (s : ℤ) (g : ℕ) → 0 < g → signed_by s g ≢ pos 0
unfolding signed_by
signed-nonzero s zero h = omega arith
signed-nonzero s (suc g) h = go (is_neg s)
  where
    go : (b : Bool) → cond b (negsuc g) (pos (suc g)) ≢ pos 0
    go true e = let z : ◌≡◌ {A = ℕ} (suc g) 0 = ap nat_abs e in omega arith
    go false e = let z : ◌≡◌ {A = ℕ} (suc g) 0 = ap nat_abs e in omega arith

not-below : (a : ℕ) → is_neg (pos a) ≡ false
not-below a = T→false (ltb a 0) (no_ltb {a = a} {b = 0} (omega arith))

pub size-signed : (s : ℤ) (g : ℕ) → nat_abs (signed_by s g) ≡ g
unfolding signed_by
size-signed s g = go (is_neg s)
  where
    go : (b : Bool) → nat_abs (cond b (neg_ℤ (pos g)) (pos g)) ≡ g
    go true = abs_neg (pos g)
    go false = refl

pub signed-again : (s : ℤ) (g k : ℕ) → 0 < g → signed_by (signed_by s g) k ≡ signed_by s k
unfolding signed_by
signed-again s zero k h = let z : ⊥ = omega arith in absurd z
signed-again s (suc g) k h = go (is_neg s)
  where
    go : (b : Bool) →
        cond (is_neg (cond b (negsuc g) (pos (suc g)))) (neg_ℤ (pos k)) (pos k) ≡ cond b (neg_ℤ (pos k)) (pos k)
    go true = refl
    go false = ap (λ t. cond t (neg_ℤ (pos k)) (pos k)) (not-below (suc g))

pub signed-size : (z : ℤ) → signed_by z (nat_abs z) ≡ z
signed-size (pos a) = signed_up (pos a) a (not-below a)
signed-size (negsuc a) = signed-down (negsuc a) (suc a) refl

up : (k : ℕ) → pos 0 ≤ℤ pos k
up k = record { le = le→leb 0 k (omega arith) }

pub signed-quotient-up : (s : ℤ) (g : ℕ) → 0 < g → pos 0 ≤ℤ quot_z s (signed_by s g)
signed-quotient-up s zero h = let z : ⊥ = omega arith in absurd z
signed-quotient-up (pos a) (suc g) h =
    subst (λ z. pos 0 ≤ℤ quot_z (pos a) z) (sym (signed_up (pos a) (suc g) (not-below a))) (up (a / suc g))
signed-quotient-up (negsuc a) (suc g) h =
    subst (λ z. pos 0 ≤ℤ quot_z (negsuc a) z) (sym (signed-down (negsuc a) (suc g) refl)) (up (suc a / suc g))
