-- Numbers of half the width, and remainders by 2^32.
--   half-most, half_product        the size of such a number; the product of two fits
--   wide, widened                  it fits the full width, and read there it is the same
--   rem-most, rem-up, raised-up    a remainder's size, and its sign
--   half_down                      a low half less 2^31 fits half the width
--   not_least                      a number that is not the least one is within the largest number
use Prim.Native.Nat.{ℕ, suc, ◌-◌, ◌%◌, ◌<◌, ◌≤◌}
use native.Mathlib.Nat.{mod-lt}
use native.Mathlib.Omega.{arith}
use mathlib.Core.Path.{◌≡◌, ap, ◌∙◌}
use mathlib.Core.Bool.{Bool, true, false, not, cond}
use mathlib.Core.Logic.{◌≢◌}
use native.Mathlib.Decide.{ℕ_discrete}
use mathlib.Core.List.{[], ◌∷◌}
use lib.Dec.{T, ltb, ltb→lt, nltb→le, lit<}
use lib.IntN.{ℤ, pos, negsuc, nat_abs, ◌+ℤ◌, ◌-ℤ◌, ◌*ℤ◌}
use lib.Signed.{rem_z, non_neg, ◌≤ℤ◌}
use mir.Facts.{to_z-of_z, sfits_widen}
use mir.Syntax.{w32, w64}
use mir.Val.{SFits, to_z, of_z}
use Rattle.whole.specs.Numbers.{Within}
use Rattle.whole.proofs.Numbers.Sizes.{abs_neg, fits-by, within-*, within-lo}
use Rattle.whole.proofs.Ring.Reify.{reify}
use Rattle.whole.proofs.Ring.Tools.{le-at}
use Rattle.whole.proofs.Ring.Nonneg.{of_le, slk}

most-at : (z : ℤ) → SFits w32 z → nat_abs z ≤ 2147483648
most-at (pos a) f = let h : a < 2147483648 = f.sfits in omega arith
most-at (negsuc a) f = let h : a < 2147483648 = f.sfits in omega arith

pub half-most : {z : ℤ} → SFits w32 z → Within z 2147483648
half-most {z} f = record { within = most-at z f }

pub half_product : {a b : ℤ} → SFits w32 a → SFits w32 b → SFits w64 (a *ℤ b)
half_product f g = fits-by (within-* (half-most f) (half-most g)) tt

pub wide : {z : ℤ} → SFits w32 z → SFits w64 z
wide f = sfits_widen {w = w32} {w' = w64} tt f

pub widened : {z : ℤ} → SFits w32 z → to_z w64 (of_z w64 (to_z w32 (of_z w32 z))) ≡ z
widened f = ap (λ y. to_z w64 (of_z w64 y)) (to_z-of_z f) ∙ to_z-of_z (wide f)

abbrev turn : ℕ
turn = 4294967296

pub rem-most : (z : ℤ) → Within (rem_z z (pos turn)) 4294967295
rem-most (pos a) = record { within = let h : a % turn < turn = mod-lt a (lit< tt) in omega arith }
rem-most (negsuc a) = record {
  within = rw (abs_neg (pos (suc a % turn))) (let h : suc a % turn < turn = mod-lt (suc a) (lit< tt) in omega arith);
}

pub rem-up : (z : ℤ) → pos 0 ≤ℤ z → T (non_neg (rem_z z (pos turn)))
rem-up (pos a) h = tt
rem-up (negsuc a) h = absurd h.le

pub raised-up : (x : ℤ) → Within x 4294967295 → pos 0 ≤ℤ (x +ℤ pos turn)
raised-up x h = le-at (x ∷ []) (of_le (within-lo h)) (search reify depth 30) slk

cond-half : (c : Bool) (x y : ℤ) → (T c → SFits w32 x) → (T (not c) → SFits w32 y) → SFits w32 (cond c x y)
cond-half true x y f g = f tt
cond-half false x y f g = g tt

pub half_down : (r : ℕ) → r < turn → SFits w32 (pos r -ℤ pos 2147483648)
half_down r h = cond-half (ltb r 2147483648) (negsuc (2147483648 - suc r)) (pos (r - 2147483648))
    (λ t. record { sfits = low (ltb→lt r 2147483648 t) }) (λ t. record { sfits = high (nltb→le r 2147483648 t) })
  where
    low : r < 2147483648 → 2147483648 - suc r < 2147483648
    low k = omega arith

    high : 2147483648 ≤ r → r - 2147483648 < 2147483648
    high k = omega arith

-- the least one alone is beyond the largest number
pub not_least : (z : ℤ) → SFits w32 z → z ≢ negsuc 2147483647 → Within z 2147483647
not_least (pos a) f n = record { within = let h : a < 2147483648 = f.sfits in omega arith }
not_least (negsuc a) f n = record { within = let h : a < 2147483648 = f.sfits in go (ℕ_discrete a 2147483647) h }
  where
    go : Dec (a ≡ 2147483647) → a < 2147483648 → suc a ≤ 2147483647
    go (yes e) h = absurd (n (ap negsuc e))
    go (no m) h = omega arith
