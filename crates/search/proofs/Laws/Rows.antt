-- The sums of a row are D times the value of its basic variable, and what a search needs holds of a tableau that stands
-- for a state.
--   row_is, searchable
use mathlib.Core.Bool.{false, true}
use mathlib.Core.Logic.{inl, inr, ◌⊎◌}
use mathlib.Core.Option.{Option, none, some}
use mathlib.Core.Path.{◌≡◌, refl, sym, ap, ap₂, ◌∙◌}
use Prim.Native.Nat.{ℕ, ◌+◌, ◌<◌}
use native.Mathlib.Omega.{arith}
use lib.IntN.{ℤ, pos, zero-*ℤ, ◌*ℤ◌}
use Rattle.whole.specs.Sums.{sum}
use Rattle.whole.specs.Values.{pairs}
use Rattle.whole.proofs.Bools.{true-false}
use Rattle.whole.proofs.Values.Mixed.{total-parts}
use Rattle.whole.proofs.Lists.Places.{sum-places}
use Rattle.whole.proofs.Numbers.Sums.{sum_same}
use Rattle.rules.specs.Problem.{Problem, vars}
use Rattle.rules.specs.Step.{State, scaled, seat, seated}
use Rattle.rules.specs.Tableau.{entry}
use Rattle.rules.specs.Facts.State.{Rowed}
use Rattle.tableau.specs.declared.Tableau.{Tableau}
use Rattle.tableau.specs.Parts.{cell_at, nonbasic_at, value_at, seat_at, row_of, column_of}
use Rattle.tableau.specs.Stands.{HasRow, Ranged, Stands}
use Rattle.search.specs.Search.{sum_laid, scaled_at, Searchable}

module _ (P : Problem (ℤ × ℤ)) (t : Tableau) (s : State (ℤ × ℤ)) (St : Stands P t s) where
  -- D times the value of a basic variable is the sum of its row, in both parts
  module _ (R : Rowed pairs P s) (v : ℕ) (h : v < vars P) (e : seat s v ≡ none) where
    its-row : HasRow P t v
    its-row = St.placed.has-row v h e

    module _ (part : ℤ × ℤ → ℤ) where
      term : ℕ → ℤ
      term u = entry s.tableau v u *ℤ part (seated pairs (seat s u))

      term_is : (j : ℕ) → j < P.n → cell_at t (row_of t v) j *ℤ part (value_at t j) ≡ term (nonbasic_at t j)
      unfolding term seated
      term_is j k = ap₂ (λ a b. a *ℤ b)
          (St.numbers.cell-is (row_of t v) j its-row.in_rows k
          ∙ ap (λ u. entry s.tableau u (nonbasic_at t j)) its-row.holds)
          (sym (ap (λ o. part (seated pairs o)) (St.placed.in-column j k).is-seated))

      placed : (u : ℕ) → u < vars P → ((j : ℕ) × (j < P.n) × (nonbasic_at t j ≡ u)) ⊎ (term u ≡ pos 0)
      unfolding term
      placed u k = go (seat s u) refl
        where
          go : (o : Option (ℤ × ℤ)) → seat s u ≡ o →
              ((j : ℕ) × (j < P.n) × (nonbasic_at t j ≡ u)) ⊎ (term u ≡ pos 0)
          go none f = inr (ap (λ z. z *ℤ part (seated pairs (seat s u))) (R.basic-zero v u h k f)
              ∙ zero-*ℤ (part (seated pairs (seat s u))))
          go (some x) f = let a = St.placed.has-column u x k f in inl (column_of t u, a.in-columns, a.holds)

      part-is : sum t.columns (λ j. cell_at t (row_of t v) j *ℤ part (value_at t j)) ≡ sum (vars P) term
      part-is = ap (λ n. sum n (λ j. cell_at t (row_of t v) j *ℤ part (value_at t j))) St.sized.columns-is
          ∙ sum_same P.n (λ j. cell_at t (row_of t v) j *ℤ part (value_at t j)) (λ j. term (nonbasic_at t j)) term_is
          ∙ sym (sum-places (vars P) P.n term (nonbasic_at t) (λ j k. (St.placed.in-column j k).variable-in)
          (λ i j a b z. sym (St.placed.in-column i a).back ∙ ap (column_of t) z ∙ (St.placed.in-column j b).back)
          placed)

    pub row_is : scaled_at t v ≡ scaled pairs P s v
    unfolding sum_laid scaled term
    row_is = ap₂ (λ a b. (a, b)) (part-is (λ x. x.0)) (part-is (λ x. x.1))
        ∙ sym (total-parts (vars P) (λ u. pairs.scale (entry s.tableau v u) (seated pairs (seat s u))))

  in-vars : (v : ℕ) → v < t.rows + t.columns → v < vars P
  in-vars v h = let a : t.rows ≡ P.m = St.sized.rows_is in let b : t.columns ≡ P.n = St.sized.columns-is in
      omega arith

  pub searchable : Ranged t → Searchable t
  searchable G = record {
    few-rows = rw St.sized.rows_is St.sized.few-rows;
    few-columns = rw St.sized.columns-is St.sized.few-columns;
    cells = G.cells;
    values-within = G.values-within;
    smalls-within = G.smalls-within;
    smalls-plain = G.smalls-plain;
    lowers-within = St.serves.lowers-within;
    uppers-within = St.serves.uppers-within;
    row-seats = λ v h e. in_a_row v (in-vars v h) e (seat s v) refl;
    column-seats = λ v h e. in-a-column v (in-vars v h) e (seat s v) refl;
  }
    where
      in_a_row : (v : ℕ) → v < vars P → (seat_at t v).basic ≡ true → (o : Option (ℤ × ℤ)) → seat s v ≡ o →
          row_of t v < t.rows
      in_a_row v h e none f = rw St.sized.rows_is (St.placed.has-row v h f).in_rows
      in_a_row v h e (some x) f = true-false e (St.placed.has-column v x h f).flag

      in-a-column : (v : ℕ) → v < vars P → (seat_at t v).basic ≡ false → (o : Option (ℤ × ℤ)) → seat s v ≡ o →
          column_of t v < t.columns
      in-a-column v h e none f = true-false (St.placed.has-row v h f).flag e
      in-a-column v h e (some x) f = rw St.sized.columns-is (St.placed.has-column v x h f).in-columns
