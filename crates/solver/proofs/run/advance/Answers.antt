-- `solver::run::advance` meets its contract. The loop's invariant: the tableau is the first one after as many steps as
-- are counted, all of which go on; not more are counted than there are to spend. The measure is what is left to spend.
-- Assumes nothing.
--   held_at                   a step may be asked for at a turn of the loop
--   comes_to                  what it comes to
--   chosen_by, places_by      .. where it goes on: the pivot that is chosen, whose row, column and variables are places
use mathlib.Core.Path.{◌≡◌, ap, refl, subst, sym, ◌∙◌}
use Prim.Native.Nat.{ℕ, ◌<◌, ◌≤◌}
use native.Mathlib.Omega.{arith}
use lib.IntN.{ℤ}
use mir.Facts.{to_z-of_z}
use Rattle.layout.specs.declared.ColumnPlace.{ColumnPlace}
use Rattle.layout.specs.declared.RowPlace.{RowPlace}
use Rattle.layout.specs.Layout.{most_entries}
use Rattle.pivot.specs.Pivot.{kept_cells}
use Rattle.amounts.specs.declared.Value.{Value}
use Rattle.tableau.specs.declared.Tableau.{Tableau}
use Rattle.tableau.specs.Pivot.{Swappable}
use Rattle.search.specs.declared.View.{View}
use Rattle.search.specs.Search.{next_at, seen, view_of}
use Rattle.steps.specs.declared.Outcome.{Outcome}
use Rattle.steps.specs.declared.Outcome.TheVariants as outcomes
use Rattle.steps.specs.Step.{Held, PutAt, entries_moved, outcome_at}
use Rattle.steps.proofs.Laws.Cases.{Chosen, course-on, exchanged, outcome-goes, put-chosen, read_of}
use Rattle.steps.proofs.Laws.Stands.{common-held, kept-held, live-held, places-held, search-held, small-held}
use Rattle.steps.proofs.Laws.Stands.{steppable-held, value-held}
use Rattle.solver.proofs.Laws.Running.{Running, running-done, running-held}
use Rattle.solver.proofs.Laws.Running.{running-over, running-spent, running-start, running_more}
use Rattle.solver.proofs.run.advance.Goals as goal

pub loop-next-init : goal.loop-next-init
loop-next-init c = (running-start c.args.t.now c.args.most, refl)

-- a step may be asked for at a turn of the loop
held_at : {t u : Tableau} {most k : ℕ} → Held t → Running t most u k → Held u
held_at H R = running-held R H

comes_to : (t : Tableau) {v : View} {r x : Outcome} → v ≡ view_of t → r ≡ outcome_at (seen t.entries v t.limits) →
    r ≡ x → outcome_at (read_of t) ≡ x
comes_to t f e q = ap (λ v. outcome_at (seen t.entries v t.limits)) (sym f) ∙ sym e ∙ q

-- it goes on
module _ {t : Tableau} {row : RowPlace} {column : ColumnPlace} {value : Value} {common : ℤ} {v : View} {r : Outcome}
    (H : Held t) (f : v ≡ view_of t) (e : r ≡ outcome_at (seen t.entries v t.limits))
    (q : r ≡ outcomes.Goes row column value common) where
  chosen_by : Chosen t row column value common (next_at t)
  chosen_by = outcome-goes t row column value common (comes_to t f e q)

  places_by : Swappable t row.0 column.0
  places_by = places-held H chosen_by

pub step-outcome-requires-clause-steppable : goal.step-outcome-requires-clause-steppable
step-outcome-requires-clause-steppable c = let h = held_at c.requires c.loop-next.invariant.0 in
    rw c.of.ensures (steppable-held h)

pub live-live-requires : goal.live-live-requires
live-live-requires c = let S = search-held (held_at c.requires c.loop-next.invariant.0) in
    (S.few-rows, S.few-columns)

pub keep-requires : goal.keep-requires
keep-requires c = let h = held_at c.requires c.loop-next.invariant.0 in
    (subst (λ (k : ℕ). k ≤ most_entries) (sym c.live-live.ensures) (live-held h), h.stands.sized.entries-long)

pub bounds-t-i : goal.bounds-t-i
bounds-t-i c = let h = held_at c.requires c.loop-next.invariant.0 in
    (places_by h c.of.ensures c.step-outcome.ensures.answer c.in-Goes.is).in_rows

pub bounds-t-j : goal.bounds-t-j
bounds-t-j c = let h = held_at c.requires c.loop-next.invariant.0 in
    (places_by h c.of.ensures c.step-outcome.ensures.answer c.in-Goes.is).in-columns

pub bounds-t-i-in-Goes : goal.bounds-t-i-in-Goes
bounds-t-i-in-Goes c = let h = held_at c.requires c.loop-next.invariant.0 in
    (places_by h c.of.ensures c.step-outcome.ensures.answer c.in-Goes.is).in_rows

pub bounds-t-j-in-Goes : goal.bounds-t-j-in-Goes
bounds-t-j-in-Goes c = let h = held_at c.requires c.loop-next.invariant.0 in
    (places_by h c.of.ensures c.step-outcome.ensures.answer c.in-Goes.is).in-columns

pub bounds-t-j-in-Goes-2 : goal.bounds-t-j-in-Goes-2
bounds-t-j-in-Goes-2 c = let h = held_at c.requires c.loop-next.invariant.0 in
    (places_by h c.of.ensures c.step-outcome.ensures.answer c.in-Goes.is).in-columns

pub bounds-t-j-in-Goes-3 : goal.bounds-t-j-in-Goes-3
bounds-t-j-in-Goes-3 c = let h = held_at c.requires c.loop-next.invariant.0 in
    (places_by h c.of.ensures c.step-outcome.ensures.answer c.in-Goes.is).in-columns

pub bounds-t-w : goal.bounds-t-w
bounds-t-w c = let h = held_at c.requires c.loop-next.invariant.0 in
    (places_by h c.of.ensures c.step-outcome.ensures.answer c.in-Goes.is).entering-seat

pub bounds-t-v : goal.bounds-t-v
bounds-t-v c = let h = held_at c.requires c.loop-next.invariant.0 in
    (places_by h c.of.ensures c.step-outcome.ensures.answer c.in-Goes.is).leaving-seat

pub loop-next-preserved : goal.loop-next-preserved
loop-next-preserved c = let t = c.loop-next.t in let g = c.in-Goes in let next = c.step-outcome.new.next in
    let h = held_at c.requires c.loop-next.invariant.0 in
    let k = chosen_by h c.of.ensures c.step-outcome.ensures.answer g.is in
    let put : PutAt (read_of t) next = rw c.of.ensures at c.step-outcome.ensures.numbers in
    let starts = put-chosen t g.row g.column g.value g.common k next put in
    let kept : c.keep.new.entries ≡ entries_moved t k.choice = c.keep.ensures
    ∙ ap (λ n. kept_cells n next t.entries) c.live-live.ensures ∙ kept-held h k next starts in
    let i = c.loop-next.invariant.0.counted in
    let less : c.loop-next.count < c.args.most = omega (arith, c.if-count-most.false, i) in (
      simp (to_z-of_z (common-held h k), to_z-of_z (value-held h k), to_z-of_z (small-held h k))
          (running_more c.loop-next.invariant.0 less (course-on t g.row g.column g.value g.common k)
          (exchanged t g.row g.column g.value g.common k kept refl refl)),
      starts.long,
    )

-- ---- where it came, by which way the loop was left

pub returns-then-is_done : goal.returns-then-is_done
returns-then-is_done c = running-done c.loop-next.invariant.0 c.args.look (sym c.is_done.ensures ∙ c.if-is_done.true)

pub returns-in-Ended : goal.returns-in-Ended
returns-in-Ended c = running-over c.loop-next.invariant.0 c.args.look (sym c.is_done.ensures ∙ c.if-is_done.false) _
    (comes_to c.loop-next.t c.of.ensures c.step-outcome.ensures.answer c.in-Ended.is)

pub returns-then-count-most : goal.returns-then-count-most
returns-then-count-most c = let t = c.loop-next.t in let g = c.in-Goes in
    running-spent c.loop-next.invariant.0 c.args.look (sym c.is_done.ensures ∙ c.if-is_done.false) c.if-count-most.true
    (course-on t g.row g.column g.value g.common
    (chosen_by (held_at c.requires c.loop-next.invariant.0) c.of.ensures c.step-outcome.ensures.answer g.is))
