-- Comparisons by the signs of differences.
--   gap-zero           two numbers are equal where their difference is 0
--   clears-signs       one pair against another
use mathlib.Core.Bool.{Bool, false, true, not}
use mathlib.Core.List.{[], ◌∷◌}
use mathlib.Core.Path.{ap, ap₂, refl, ◌∙◌, ◌≡◌}
use lib.IntN.{pos, ℤ, ◌-ℤ◌, ◌+ℤ◌}
use lib.Signed.{lt_z, ◌<ℤ◌}
use Rattle.whole.proofs.Bools.{same_tests}
use Rattle.whole.proofs.Numbers.Order.{lt→true, true→lt}
use Rattle.whole.proofs.Ring.Nonneg.{of_lt, slk}
use Rattle.whole.proofs.Ring.Reify.{reify}
use Rattle.whole.proofs.Ring.Tools.{lt_at, ring-at}
use Rattle.whole.proofs.Tells.{tells-eq_z, tells-true}
use Rattle.whole.specs.Numbers.{eq_z}
use Rattle.whole.specs.Values.{lexicographic}
use Rattle.rules.specs.Evidence.{clears}
use Rattle.limbs.proofs.Laws.Signs.{sign_above, sign_below}
use Rattle.limbs.specs.Limbs.{sign_of}

pub gap-zero : (x y : ℤ) → eq_z (x -ℤ y) (pos 0) ≡ eq_z x y
gap-zero x y = same_tests _ _
    (λ e. tells-true (tells-eq_z x y) (back ((tells-eq_z (x -ℤ y) (pos 0)).if-true e)))
    (λ e. tells-true (tells-eq_z (x -ℤ y) (pos 0)) (rw ((tells-eq_z x y).if-true e) (none y)))
  where
    none : (y : ℤ) → y -ℤ y ≡ pos 0
    none y = ring-at (y ∷ []) (search reify depth 30) refl

    again : (x y : ℤ) → x ≡ (x -ℤ y) +ℤ y
    again x y = ring-at (x ∷ y ∷ []) (search reify depth 30) refl

    plain : (y : ℤ) → pos 0 +ℤ y ≡ y
    plain y = ring-at (y ∷ []) (search reify depth 30) refl

    back : x -ℤ y ≡ pos 0 → x ≡ y
    back e = again x y ∙ ap (λ z. z +ℤ y) e ∙ plain y

-- a difference is above 0 where the first number is above the second
gap-above : (a c : ℤ) → lt_z (pos 0) (c -ℤ a) ≡ lt_z a c
gap-above a c = same_tests _ _ (λ e. lt→true (over a c (true→lt e))) (λ e. lt→true (under a c (true→lt e)))
  where
    over : (a c : ℤ) → pos 0 <ℤ (c -ℤ a) → a <ℤ c
    over a c h = lt_at (a ∷ c ∷ []) (of_lt h) (search reify depth 30) slk

    under : (a c : ℤ) → a <ℤ c → pos 0 <ℤ (c -ℤ a)
    under a c h = lt_at (a ∷ c ∷ []) (of_lt h) (search reify depth 30) slk

gap_below : (a c : ℤ) → lt_z (c -ℤ a) (pos 0) ≡ lt_z c a
gap_below a c = same_tests _ _ (λ e. lt→true (over a c (true→lt e))) (λ e. lt→true (under a c (true→lt e)))
  where
    over : (a c : ℤ) → (c -ℤ a) <ℤ pos 0 → c <ℤ a
    over a c h = lt_at (a ∷ c ∷ []) (of_lt h) (search reify depth 30) slk

    under : (a c : ℤ) → c <ℤ a → (c -ℤ a) <ℤ pos 0
    under a c h = lt_at (a ∷ c ∷ []) (of_lt h) (search reify depth 30) slk

module _ (a b c d : ℤ) where
  up : lt_z (pos 0) (sign_of (c -ℤ a)) ≡ lt_z a c
  up = sign_above (c -ℤ a) ∙ gap-above a c

  down : lt_z (sign_of (c -ℤ a)) (pos 0) ≡ lt_z c a
  down = sign_below (c -ℤ a) ∙ gap_below a c

  small-up : lt_z (pos 0) (sign_of (d -ℤ b)) ≡ lt_z b d
  small-up = sign_above (d -ℤ b) ∙ gap-above b d

  small-down : lt_z (sign_of (d -ℤ b)) (pos 0) ≡ lt_z d b
  small-down = sign_below (d -ℤ b) ∙ gap_below b d

  pub clears-signs : (strict : Bool) →
      clears strict (pos 0, pos 0) (sign_of (c -ℤ a), sign_of (d -ℤ b)) ≡ clears strict (a, b) (c, d)
  clears-signs true = ap₂ (λ p q. lexicographic p q (lt_z (pos 0) (sign_of (d -ℤ b)))) up down
      ∙ ap (lexicographic (lt_z a c) (lt_z c a)) small-up
  clears-signs false = ap₂ (λ p q. not (lexicographic p q (lt_z (sign_of (d -ℤ b)) (pos 0)))) down up
      ∙ ap (λ r. not (lexicographic (lt_z c a) (lt_z a c) r)) small-down
