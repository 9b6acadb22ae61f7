-- Sizes: what bounds an intermediate result, so that it fits a signed width. `Within z n` says that z is from -n to n.
--   within-+ -- -* -neg -le        sums, differences, products, negation, a larger bound
--   within_of, within-hi, -lo      between a bound on the size and bounds on either side
--   fits-by h tt, fits-abs         it fits the width, from a bound that is written out, or any
--   quot_fits, divisor-bits         a quotient by a positive number fits; that divisor's bits are not 0
--   abs_neg, abs-*, abs-+          the size of a negation, a product, a sum
--   product-nonzero                a product of numbers other than 0 is not 0
--   all-within-filled              every number of a filled array, where what fills it is
use mathlib.Core.Path.{◌≡◌, refl, sym, ◌∙◌, ap}
use mathlib.Core.Logic.{◌≢◌}
use mathlib.Core.Bool.{Bool, true, false, not, cond}
use Prim.Native.Nat.{ℕ, zero, suc, ◌+◌, ◌*◌, ◌-◌, ◌^◌, ◌/◌, ◌≤◌, ◌<◌}
use native.Mathlib.Omega.{arith}
use native.Mathlib.Nat.{mul-pos, mul-le-mul, lt_of_le_of_lt, div-le_self, le_refl}
use lib.Dec.{T, ltb, ltb→lt, nltb→le, lit<, leb→le, le→leb}
use lib.Signed.{mag, quot_z, le_z, ◌<ℤ◌, ◌≤ℤ◌}
use lib.IntN.{ℤ, pos, negsuc, neg_ℤ, nat_abs, sub_ℕ, ◌+ℤ◌, ◌-ℤ◌, ◌*ℤ◌}
use Rattle.whole.specs.Numbers.{Within, AllWithin}
use Rattle.whole.specs.Tables.{filled}
use Rattle.whole.proofs.Lists.Tables.{filled-each}
use mir.Syntax.{Width}
use mir.Val.{SFits, hbits, of_z}

pub abs_neg : (a : ℤ) → nat_abs (neg_ℤ a) ≡ nat_abs a
abs_neg (pos zero) = refl
abs_neg (pos (suc n)) = refl
abs_neg (negsuc n) = refl

-- a number other than 0 has a size above 0
pub size-pos : (z : ℤ) → z ≢ pos 0 → 0 < nat_abs z
size-pos (pos zero) n = absurd (n refl)
size-pos (pos (suc a)) n = omega arith
size-pos (negsuc a) n = omega arith

pub abs-* : (a b : ℤ) → nat_abs (a *ℤ b) ≡ nat_abs a * nat_abs b
abs-* (pos a) (pos b) = refl
abs-* (pos a) (negsuc b) = abs_neg (pos (a * suc b))
abs-* (negsuc a) (pos b) = abs_neg (pos (suc a * b))
abs-* (negsuc a) (negsuc b) = refl

cond-le : (c : Bool) (x y : ℤ) (n : ℕ) → (T c → nat_abs x ≤ n) → (T (not c) → nat_abs y ≤ n) → nat_abs (cond c x y) ≤ n
cond-le true x y n f g = f tt
cond-le false x y n f g = g tt

abs-sub : (a b n : ℕ) → a + b ≤ n → nat_abs (sub_ℕ a b) ≤ n
abs-sub a b n h = cond-le (ltb a b) (negsuc (b - suc a)) (pos (a - b)) n
    (λ t. lo (ltb→lt a b t)) (λ t. hi (nltb→le a b t))
  where
    lo : a < b → suc (b - suc a) ≤ n
    lo k = omega arith

    hi : b ≤ a → a - b ≤ n
    hi k = omega arith

pub abs-+ : (a b : ℤ) → nat_abs (a +ℤ b) ≤ nat_abs a + nat_abs b
abs-+ (pos a) (pos b) = le_refl (a + b)
abs-+ (pos a) (negsuc b) = abs-sub a (suc b) (a + suc b) (omega arith)
abs-+ (negsuc a) (pos b) = abs-sub b (suc a) (suc a + b) (omega arith)
abs-+ (negsuc a) (negsuc b) = omega arith

pub within-+ : {a b : ℤ} {m n : ℕ} → Within a m → Within b n → Within (a +ℤ b) (m + n)
within-+ {a} {b} {m} {n} h k = record { within = omega (arith, abs-+ a b) }

pub within-- : {a b : ℤ} {m n : ℕ} → Within a m → Within b n → Within (a -ℤ b) (m + n)
within-- {a} {b} {m} {n} h k = record { within = omega (arith, abs-+ a (neg_ℤ b), abs_neg b) }

pub within-* : {a b : ℤ} {m n : ℕ} → Within a m → Within b n → Within (a *ℤ b) (m * n)
within-* {a} {b} {m} {n} h k = record { within = omega (arith, abs-* a b, mul-le-mul h.within k.within) }

pub within-neg : {a : ℤ} {n : ℕ} → Within a n → Within (neg_ℤ a) n
within-neg {a} h = record { within = rw (abs_neg a) h.within }

pub within-le : {z : ℤ} {m n : ℕ} → Within z m → m ≤ n → Within z n
within-le h k = record { within = omega arith }

mag-le : (z : ℤ) → mag z ≤ nat_abs z
mag-le (pos n) = le_refl n
mag-le (negsuc n) = omega arith

pub fits-abs : {w : Width} {z : ℤ} → nat_abs z < 2 ^ hbits w → SFits w z
fits-abs {w} {z} h = record { sfits = lt_of_le_of_lt (mag-le z) h }

-- a bound that is written out: `fits-by (within-* h k) tt`
pub fits-by : {w : Width} {z : ℤ} {n : ℕ} → Within z n → T (ltb n (2 ^ hbits w)) → SFits w z
fits-by h t = fits-abs (lt_of_le_of_lt h.within (lit< t))

-- the quotient by a positive number fits, and that divisor's bits are not 0
mag-quot : (z : ℤ) (g : ℕ) → mag (quot_z z (pos g)) ≤ mag z
mag-quot (pos a) g = div-le_self a g
mag-quot (negsuc a) g = mag-neg (suc a / g) (div-le_self (suc a) g)
  where
    mag-neg : (r : ℕ) → r ≤ suc a → mag (neg_ℤ (pos r)) ≤ a
    mag-neg zero h = omega arith
    mag-neg (suc r) h = omega arith

pub quot_fits : {w : Width} (z g : ℤ) → pos 0 <ℤ g → SFits w z → SFits w (quot_z z g)
quot_fits z (pos g) h f = record { sfits = lt_of_le_of_lt (mag-quot z g) f.sfits }
quot_fits z (negsuc g) h f = absurd h.lt

pub divisor-bits : (w : Width) (g : ℤ) → pos 0 <ℤ g → 0 < of_z w g
divisor-bits w (pos g) h = ltb→lt 0 g h.lt
divisor-bits w (negsuc g) h = absurd h.lt

-- ---- a bound of the magnitude is a bound on either side
within-of' : (z : ℤ) (n : ℕ) → T (le_z (neg_ℤ (pos n)) z) → T (le_z z (pos n)) → nat_abs z ≤ n
within-of' (pos a) n s t = leb→le a n t
within-of' (negsuc a) zero s t = absurd s
within-of' (negsuc a) (suc n) s t = le' (leb→le a n s)
  where
    le' : a ≤ n → suc a ≤ suc n
    le' h = omega arith

pub within_of : {z : ℤ} {n : ℕ} → neg_ℤ (pos n) ≤ℤ z → z ≤ℤ pos n → Within z n
within_of {z} {n} h k = record { within = within-of' z n h.le k.le }

hi' : (z : ℤ) (n : ℕ) → nat_abs z ≤ n → T (le_z z (pos n))
hi' (pos a) n h = le→leb a n h
hi' (negsuc a) n h = tt

lo' : (z : ℤ) (n : ℕ) → nat_abs z ≤ n → T (le_z (neg_ℤ (pos n)) z)
lo' (pos a) zero h = le→leb 0 a (omega arith)
lo' (pos a) (suc n) h = tt
lo' (negsuc a) zero h = absurd (no' h)
  where
    no' : suc a ≤ zero → ⊥
    no' h = omega arith
lo' (negsuc a) (suc n) h = le→leb a n (omega arith)

pub within-hi : {z : ℤ} {n : ℕ} → Within z n → z ≤ℤ pos n
within-hi {z} {n} h = record { le = hi' z n h.within }

pub within-lo : {z : ℤ} {n : ℕ} → Within z n → neg_ℤ (pos n) ≤ℤ z
within-lo {z} {n} h = record { le = lo' z n h.within }

pub product-nonzero : {a b : ℤ} → a ≢ pos 0 → b ≢ pos 0 → a *ℤ b ≢ pos 0
product-nonzero {a} {b} m n e =
    let z : nat_abs a * nat_abs b ≡ 0 = sym (abs-* a b) ∙ ap nat_abs e in
    let h : 0 < nat_abs a * nat_abs b = mul-pos (size-pos a m) (size-pos b n) in
    let y : ⊥ = omega arith in absurd y

pub all-within-filled : {n : ℕ} (size k : ℕ) (f : ℕ → ℤ) → ((i : ℕ) → i < k → Within (f i) n) →
    AllWithin (filled size (pos 0) k f) n
all-within-filled {n} size k f h = record {
  each = filled-each size (pos 0) k f (λ z. Within z n) (record { within = omega arith }) h;
}
