-- `times::cycle::way_back` meets its contract. The invariant of its loop: the way so far is a trail, and its vertices
-- are marked. The measure is the places left: n different vertices cannot be n + 1. Assumes nothing.
use Rattle.std.proofs.Common.{sym, ◌∙◌, subst, arith}
use Rattle.times.proofs.Laws.Tracing.{Tracing, tracing-start, tracing-more, tracing-left, tracing-closed}
use Rattle.times.proofs.Laws.Tracing.{tracing-ended, tracing-here, tracing-high}
use Rattle.times.proofs.cycle.way_back.Goals as goal

pub loop-last-init : goal.loop-last-init
loop-last-init c p k = subst (Tracing k _ _ _) (sym c.n-left.ensures) (tracing-start k)

pub bounds-seen-here : goal.bounds-seen-here
bounds-seen-here c = tracing-here c.requires.1 _ _ _ _ (c.loop-last.invariant _ c.requires.1)

pub returns-then-mark-ne0 : goal.returns-then-mark-ne0
returns-then-mark-ne0 c p k =
    tracing-closed k _ _ _ _ (c.loop-last.invariant p k) _ (sym c.from-mark.ensures) c.if-mark-ne0.true

pub offset_bounds-last-here : goal.offset_bounds-last-here
offset_bounds-last-here c =
    let low = tracing-here c.requires.1 _ _ _ _ (c.loop-last.invariant _ c.requires.1) in omega arith

pub bounds-last-here : goal.bounds-last-here
bounds-last-here c = tracing-here c.requires.1 _ _ _ _ (c.loop-last.invariant _ c.requires.1)

pub returns-then-i-eq-NO_ROW : goal.returns-then-i-eq-NO_ROW
returns-then-i-eq-NO_ROW c p k =
    tracing-ended k _ _ _ _ (c.loop-last.invariant p k) (sym c.from-mark.ensures ∙ c.if-mark-ne0.false)
    c.if-i-eq-NO_ROW.true

pub overflow_sub-place : goal.overflow_sub-place
overflow_sub-place c =
    tracing-left c.requires.1 _ _ _ _ (c.loop-last.invariant _ c.requires.1)
    (sym c.from-mark.ensures ∙ c.if-mark-ne0.false)

pub overflow_cast-seen : goal.overflow_cast-seen
overflow_cast-seen c =
    let high = tracing-high c.requires.1 _ _ _ _ (c.loop-last.invariant _ c.requires.1) in omega arith

pub bounds-seen-here-in-loop-last : goal.bounds-seen-here-in-loop-last
bounds-seen-here-in-loop-last c = tracing-here c.requires.1 _ _ _ _ (c.loop-last.invariant _ c.requires.1)

pub offset_bounds-path-place : goal.offset_bounds-path-place
offset_bounds-path-place c =
    let high = tracing-high c.requires.1 _ _ _ _ (c.loop-last.invariant _ c.requires.1) in omega arith

pub bounds-path-place : goal.bounds-path-place
bounds-path-place c =
    let high = tracing-high c.requires.1 _ _ _ _ (c.loop-last.invariant _ c.requires.1) in
    let left = tracing-left c.requires.1 _ _ _ _ (c.loop-last.invariant _ c.requires.1)
    (sym c.from-mark.ensures ∙ c.if-mark-ne0.false) in omega arith

pub loop-last-smaller : goal.loop-last-smaller
loop-last-smaller c =
    let left = tracing-left c.requires.1 _ _ _ _ (c.loop-last.invariant _ c.requires.1)
    (sym c.from-mark.ensures ∙ c.if-mark-ne0.false) in omega arith

pub loop-last-preserved : goal.loop-last-preserved
loop-last-preserved c p k =
    rw c.tail-here.ensures
    (tracing-more k _ _ _ _ (c.loop-last.invariant p k) (sym c.from-mark.ensures ∙ c.if-mark-ne0.false)
    c.if-i-eq-NO_ROW.false)
