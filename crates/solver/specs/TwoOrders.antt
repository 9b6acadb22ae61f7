-- The run of the same tableau in two orders of its entries.
use Rattle.std.specs.Prelude.{List, ◌≡◌, ℕ, ℤ}
use Rattle.std.proofs.Math.Option.{none}
use Rattle.whole.specs.Values.{pairs}
use Rattle.rules.specs.Problem.{inner, problem, vars_of}
use Rattle.rules.specs.Run.{conflict}
use Rattle.tableau.specs.declared.Tableau.{Tableau}
use Rattle.layout.specs.Layout.{Order, by_columns, by_rows}
use Rattle.tableau.specs.Start.{start_laid}
use Rattle.tableau.specs.TwoOrders.{SameTableau}
use Rattle.steps.specs.declared.End.{End}
use Rattle.steps.specs.Step.{StepAt, stepped_laid}
use Rattle.solver.specs.Run.{FinishedLaid, GoesOnLaid, after_laid, words_laid}

-- two steps come to the same: both go on, or both end in the same way; and the tableau after them is the same
pub record SameStep (o u : Order) (a b : StepAt) : Type 0 where
  pub same-course : a.course ≡ b.course
  pub same-tableau : SameTableau o u a.tableau b.tableau

-- after k steps the tableau is the same, and the next step comes to the same
pub record SameAfter (o u : Order) (t s : Tableau) (k : ℕ) : Type 0 where
  pub here : SameTableau o u (after_laid o t k) (after_laid u s k)
  pub next : SameStep o u (stepped_laid o (after_laid o t k)) (stepped_laid u (after_laid u s k))

-- ---- the run of some words, by columns and by rows

abbrev pub first_laid : Order → List ℤ → Tableau
first_laid o ws = start_laid o (problem ws)

-- the same tableau at every step; the same end after as many pivots, whichever run ends; and the same words, verdict
-- and count among them, where a run is begun (limits that cross are told without one)
pub record RowsAndColumns (ws : List ℤ) : Type 0 where
  pub each_step : (k : ℕ) → GoesOnLaid by_columns (first_laid by_columns ws) k →
      SameAfter by_columns by_rows (first_laid by_columns ws) (first_laid by_rows ws) k
  pub rows_end : (e : End) (k : ℕ) (t : Tableau) → FinishedLaid by_columns (first_laid by_columns ws) e k t →
      FinishedLaid by_rows (first_laid by_rows ws) e k (after_laid by_rows (first_laid by_rows ws) k)
  pub columns-end : (e : End) (k : ℕ) (s : Tableau) → FinishedLaid by_rows (first_laid by_rows ws) e k s →
      FinishedLaid by_columns (first_laid by_columns ws) e k (after_laid by_columns (first_laid by_columns ws) k)
  pub words-told : conflict pairs (inner (problem ws)) ≡ none → (e : End) (k : ℕ) (t s : Tableau) →
      FinishedLaid by_columns (first_laid by_columns ws) e k t → FinishedLaid by_rows (first_laid by_rows ws) e k s →
      words_laid by_columns e k t (vars_of ws) ≡ words_laid by_rows e k s (vars_of ws)
