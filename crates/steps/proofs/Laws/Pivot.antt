-- The chosen pivot by place is the move of the state: what it needs holds, and what it gives stands for the moved
-- state.   movable, exchangeable, stands-moved, fitting-is, ranged-moved
use mathlib.Core.Bool.{true}
use mathlib.Core.Option.{some}
use mathlib.Core.Path.{◌≡◌, ap, refl, ◌∙◌}
use Prim.Native.Nat.{ℕ}
use lib.IntN.{ℤ}
use Rattle.whole.specs.Values.{pairs}
use Rattle.rules.specs.Problem.{Problem, vars}
use Rattle.rules.specs.Step.{Leaving, Side, State, above, below, entering, leaving, moved}
use Rattle.rules.specs.Tableau.{small}
use Rattle.rules.proofs.Step.Entering.{entered}
use Rattle.rules.proofs.Step.Leaving.{left}
use Rattle.rules.proofs.Tableau.Pivot.{rowed-moved}
use Rattle.rules.specs.Facts.State.{Rowed}
use Rattle.tableau.specs.declared.Limits.{Limits}
use Rattle.tableau.specs.declared.Tableau.{Tableau}
use Rattle.tableau.specs.Parts.{column_of, lower_given, row_of, upper_given}
use Rattle.tableau.specs.Pivot.{Cells, Swappable, pivoted_at, pivoted_laid, swapped_at}
use Rattle.tableau.specs.Stands.{Ranged, Stands}
use Rattle.tableau.proofs.Laws.Stands.Pivot.{stands-next}
use Rattle.tableau.proofs.Laws.Stands.Range.{small_is}
use Rattle.tableau.proofs.Laws.Pivot.Needs.{limit_is, limit_number, pivotable, ranged-next, swappable}
use Rattle.tableau.proofs.Laws.Pivot.Places as turns
use Rattle.tableau.proofs.Laws.Pivot.Places.{Turn, leaving-row}
use Rattle.sides.specs.Sides.{rising}
use Rattle.search.specs.Search.{choice_at}
use Rattle.steps.specs.Step.{Movable, fits_by, violated_pair, moved_at, moved_laid}

limit-by : (σ : Side) (l : Limits) (v : ℕ) →
    violated_pair (rising σ) (lower_given l v) (upper_given l v) ≡ limit_number σ l v
limit-by below l v = refl
limit-by above l v = refl

module _ {P : Problem (ℤ × ℤ)} {t : Tableau} {s : State (ℤ × ℤ)} (St : Stands P t s) (R : Rowed pairs P s)
    (r : Leaving (ℤ × ℤ)) (w : ℕ) (e : leaving pairs P s ≡ some r) (f : entering pairs P s r ≡ some w) where
  turn : Turn P t s r w
  turn = record { stands = St; rowed = R; left = left pairs P s r e; entered = entered pairs P s r w f }

  abbrev next : Tableau
  next = moved_at t (choice_at t r w)

  abbrev p : ℕ
  p = row_of t r.variable

  abbrev q : ℕ
  q = column_of t w

  pub movable : Cells t → Movable t (choice_at t r w)
  movable c = record {
    pivotable = pivotable turn c;
    row-place = (swappable turn).in_rows;
    leaving-seat = (swappable turn).leaving-seat;
  }

  pub exchangeable : Swappable t p q
  exchangeable = swappable turn

  moved-is : next ≡ turns.after_turn turn
  unfolding moved_laid
  moved-is =
      ap (λ v. swapped_at (pivoted_at t p q) p q
      (violated_pair (rising r.side) (lower_given t.limits v) (upper_given t.limits v)))
      (leaving-row turn).holds
      ∙ ap (swapped_at (pivoted_at t p q) p q) (limit-by r.side t.limits r.variable ∙ limit_is turn)

  pub stands-moved : Stands P next (moved pairs P s r w)
  stands-moved = rw moved-is (stands-next turn)

  pub fitting-is : fits_by t (choice_at t r w) ≡ small (vars P) (moved pairs P s r w).tableau
  unfolding moved_laid swapped_at pivoted_laid
  fitting-is = small_is stands-moved (rowed-moved pairs P s R r w turn.left turn.entered)

  pub ranged-moved : Ranged t → fits_by t (choice_at t r w) ≡ true → Ranged next
  unfolding swapped_at pivoted_laid
  ranged-moved g h = rw moved-is (ranged-next turn g h)
