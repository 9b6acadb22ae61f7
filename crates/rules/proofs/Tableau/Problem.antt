-- A state holds its problem: two problems of one size whose rows the same entries keep have the same coefficients.
--   rows-only
use mathlib.Core.Logic.{inl}
use mathlib.Core.Option.{Option}
use mathlib.Core.Path.{ap, sym, ◌∙◌, ◌≡◌}
use Prim.Native.Nat.{ℕ, ◌+◌, ◌<◌}
use native.Mathlib.Omega.{arith}
use lib.IntN.{*ℤ_comm, *ℤ-zero, ℤ, ◌*ℤ◌}
use Rattle.whole.proofs.Ring.Laws.{*ℤ-idr}
use Rattle.whole.proofs.Values.Instances.{whole-laws}
use Rattle.whole.proofs.Numbers.Order.{cancel}
use Rattle.whole.proofs.Numbers.Sums.{sum_one}
use Rattle.whole.proofs.Values.Laws.{scale-total, sum-scale, total-same, total-swap}
use Rattle.whole.specs.Sums.{sum}
use Rattle.whole.specs.Values.{Values}
use Rattle.rules.proofs.Tableau.Units.{problem-row, row-row, same-off, same_self, unit-solves}
use Rattle.rules.specs.Problem.{Problem}
use Rattle.rules.specs.Facts.State.{Rowed}
use Rattle.rules.specs.Step.{State, common, start_entry}
use Rattle.rules.specs.Tableau.{entry}

module _ {X : Type 0} (𝓥 : Values X) (n m : ℕ) (a b : ℕ → ℕ → ℤ) (l u l' u' : ℕ → Option X) where
  abbrev P : Problem X
  P = record { n = n; m = m; coefficient = a; lower = l; upper = u }

  abbrev Q : Problem X
  Q = record { n = n; m = m; coefficient = b; lower = l'; upper = u' }

  -- the same entries, in two states or in one
  module _ (s t : State X) (same_entries : (v w : ℕ) → v < n + m → w < n + m →
      entry s.tableau v w ≡ entry t.tableau v w)
      (R : Rowed 𝓥 P s) (S : Rowed 𝓥 Q t) (i j : ℕ) (h : i < m) (k : j < n) where
    N : ℕ
    N = n + m

    x : ℕ → ℤ
    x v = start_entry P v j

    e : ℕ → ℕ → ℤ
    e v w = entry s.tableau v w

    -- the columns of the one solve the rows of the other
    column-too : (w : ℕ) → w < N → e (n + i) w ≡ sum n (λ j. b i j *ℤ e j w)
    unfolding N e
    column-too w q = same_entries (n + i) w (omega arith) q ∙ S.columns w q i h
        ∙ total-same whole-laws n _ _ (λ j g. ap (λ z. b i j *ℤ z) (sym (same_entries j w (omega arith) q)))

    -- D times the unit solution of the one solves the rows of the other
    solved-too : common s *ℤ x (n + i) ≡ sum n (λ j. b i j *ℤ (common s *ℤ x j))
    unfolding N x e
    solved-too = R.holds x (unit-solves P j k) (n + i) (omega arith)
        ∙ total-same whole-laws N _ (λ w. sum n (λ j. b i j *ℤ (e j w *ℤ x w))) each
        ∙ total-swap whole-laws N n (λ w j. b i j *ℤ (e j w *ℤ x w))
        ∙ total-same whole-laws n _ _ (λ j q. sym (scale-total whole-laws (b i j) N (λ w. e j w *ℤ x w))
        ∙ ap (λ z. b i j *ℤ z) (sym (R.holds x (unit-solves P _ k) j (omega arith))))
      where
        each : (w : ℕ) → w < N → e (n + i) w *ℤ x w ≡ sum n (λ j. b i j *ℤ (e j w *ℤ x w))
        each w q = ap (λ z. z *ℤ x w) (column-too w q) ∙ sum-scale whole-laws n (λ j. b i j *ℤ e j w) (x w)
            ∙ total-same whole-laws n _ _ (λ j g. whole-laws.scale-times (b i j) (e j w) (x w))

    pub rows-only : a i j ≡ b i j
    unfolding x
    rows-only = cancel (common s) (a i j) (b i j) (inl R.positive)
        (ap (λ z. common s *ℤ z) (sym (row-row P i j k)) ∙ solved-too
        ∙ sum_one n j (λ v. b i v *ℤ (common s *ℤ x v)) k
        (λ v g d. ap (λ z. b i v *ℤ (common s *ℤ z)) (problem-row P v j g ∙ same-off v j d)
        ∙ ap (λ z. b i v *ℤ z) (*ℤ-zero (common s)) ∙ *ℤ-zero (b i v))
        ∙ ap (λ z. b i j *ℤ (common s *ℤ z)) (problem-row P j j k ∙ same_self j)
        ∙ ap (λ z. b i j *ℤ z) (*ℤ-idr (common s)) ∙ *ℤ_comm (b i j) (common s))
