-- Times over denominators of their own reduce to one: where such fractions meet every row, whole numbers over one
-- denominator do.
--   rows-fractions     so where none of those meet the rows, no fractions do
--   cycle-fractions    a bad cycle leaves no fractions at all
use mathlib.Core.Bool.{Bool, false, true}
use mathlib.Core.List.{List, [], ◌∷◌}
use mathlib.Core.Path.{subst₂}
use Prim.Native.Nat.{ℕ, ◌<◌}
use lib.IntN.{nat_abs, negsuc, pos, ℤ, ◌*ℤ◌, ◌+ℤ◌, ◌-ℤ◌}
use lib.Signed.{◌<ℤ◌, ◌≤ℤ◌}
use Rattle.whole.proofs.Numbers.Order.{*ℤ-pos-pos, false→le, true→lt}
use Rattle.whole.proofs.Ring.Nonneg.{of_le, of_lt, slk, ◌⊞◌, ◌⊠◌}
use Rattle.whole.proofs.Ring.Reify.{reify}
use Rattle.whole.proofs.Ring.Tools.{le-at, lt_at}
use Rattle.whole.specs.Numbers.{eq_z}
use Rattle.whole.specs.Values.{pairs}
use Rattle.rules.proofs.Evidence.Separate.{Shared, shared}
use Rattle.rules.proofs.Times.Means.{cycle-no-fractions}
use Rattle.rules.proofs.Times.Refused.{accepted-ends}
use Rattle.rules.specs.Facts.Fractions.{Fraction, InOrder, fractions, over_one}
use Rattle.rules.specs.Problem.{n_of}
use Rattle.rules.specs.Times.Answer.{FractionsMeetRows, MeetsRows, NoFractions, RowSays}
use Rattle.rules.specs.Times.Cycle.{BadCycle}
use Rattle.rules.specs.Times.Words.{AcceptedTimes, from_word, length_word, strict_word, time_edges, to_word}

-- ---- the algebra: f u and g w are the one denominator

weakly : (f g a u b w c : ℤ) → pos 0 <ℤ f → pos 0 <ℤ g →
    ((a *ℤ w +ℤ (negsuc 0 *ℤ b) *ℤ u) *ℤ pos 1) ≤ℤ (c *ℤ (u *ℤ w)) →
    ((g *ℤ w) *ℤ (f *ℤ a) -ℤ (f *ℤ u) *ℤ (g *ℤ b)) ≤ℤ (((f *ℤ u) *ℤ (g *ℤ w)) *ℤ c)
weakly f g a u b w c p q h =
    le-at (f ∷ g ∷ a ∷ u ∷ b ∷ w ∷ c ∷ []) (of_lt (*ℤ-pos-pos p q) ⊠ of_le h ⊞ of_le h)
    (search reify depth 30 fits 20000) slk

strictly : (f g a u b w c : ℤ) → pos 0 <ℤ f → pos 0 <ℤ g →
    ((a *ℤ w +ℤ (negsuc 0 *ℤ b) *ℤ u) *ℤ pos 1) <ℤ (c *ℤ (u *ℤ w)) →
    ((g *ℤ w) *ℤ (f *ℤ a) -ℤ (f *ℤ u) *ℤ (g *ℤ b)) <ℤ (((f *ℤ u) *ℤ (g *ℤ w)) *ℤ c)
strictly f g a u b w c p q h =
    lt_at (f ∷ g ∷ a ∷ u ∷ b ∷ w ∷ c ∷ []) (of_lt (*ℤ-pos-pos p q) ⊠ of_lt h ⊞ of_lt h ⊞ of_lt (*ℤ-pos-pos p q))
    (search reify depth 30 fits 20000) slk

row-over : (b : Bool) (f g c : ℤ) (x y : Fraction) → pos 0 <ℤ f → pos 0 <ℤ g →
    InOrder b (fractions.plus x (fractions.scale (negsuc 0) y)) (over_one c) →
    RowSays b ((g *ℤ y.under) *ℤ (f *ℤ x.top) -ℤ (f *ℤ x.under) *ℤ (g *ℤ y.top))
    (((f *ℤ x.under) *ℤ (g *ℤ y.under)) *ℤ c)
row-over true f g c x y p q h = strictly f g x.top x.under y.top y.under c p q (true→lt h)
row-over false f g c x y p q h = weakly f g x.top x.under y.top y.under c p q (false→le h)

module _ {ws : List ℤ} {room : ℕ} (A : AcceptedTimes ws room) where
  module _ (t : ℕ → Fraction) (M : FractionsMeetRows ws t) where
    S : Shared (n_of ws) (λ v. (t v).under)
    S = shared (n_of ws) (λ v. (t v).under) M.positive

    abbrev d : ℤ
    d = S.common

    one-denominator : MeetsRows ws (d *ℤ d) (λ v. d *ℤ (S.factor v *ℤ (t v).top))
    one-denominator i h =
        let x : ℕ = nat_abs (from_word ws i) in
        let y : ℕ = nat_abs (to_word ws i) in
        let k : x < n_of ws = (accepted-ends A).tail-in i h in
        let l : y < n_of ws = (accepted-ends A).head_in i h in
        subst₂ (λ e f. RowSays (eq_z (strict_word ws i) (pos 1))
        (f *ℤ (S.factor x *ℤ (t x).top) -ℤ e *ℤ (S.factor y *ℤ (t y).top)) ((e *ℤ f) *ℤ length_word ws i))
        (S.is-common x k) (S.is-common y l)
        (row-over (eq_z (strict_word ws i) (pos 1)) (S.factor x) (S.factor y) (length_word ws i) (t x) (t y)
        (S.factor-pos x k) (S.factor-pos y l) (M.rows i h))

  rows-fractions : NoFractions ws → (t : ℕ → Fraction) → ¬ FractionsMeetRows ws t
  rows-fractions N t M = N (d t M *ℤ d t M) (*ℤ-pos-pos (S t M).common-pos (S t M).common-pos)
      (λ v. d t M *ℤ ((S t M).factor v *ℤ (t v).top)) (one-denominator t M)

  pub cycle-fractions : (rows : List ℕ) → BadCycle pairs (time_edges ws) rows → (t : ℕ → Fraction) →
      ¬ FractionsMeetRows ws t
  cycle-fractions rows b = rows-fractions (cycle-no-fractions A rows b)
