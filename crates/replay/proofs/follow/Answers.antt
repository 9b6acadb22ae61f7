-- `replay::follow` meets its contract. The loop's invariant: the steps of the trace so far are those of the run, whose
-- tableau, count and basic variables are at hand (`Following`). The measure is the steps left in the trace. Assumes
-- nothing.
use mathlib.Core.Path.{ap, refl, sym, ◌∙◌}
use native.Mathlib.Omega.{arith}
use lib.ListN.{length}
use Rattle.solver.proofs.Laws.Stands.Slices.{few-variables}
use Rattle.replay.proofs.Laws.Following.{following-count, following-early, following-more}
use Rattle.replay.proofs.Laws.Following.{following-out, following-over, following-start, following-wrong}
use Rattle.replay.proofs.follow.Goals as goal

pub overflow_add-variables : goal.overflow_add-variables
overflow_add-variables c = let h = few-variables c.requires.holds in omega (arith, h)

pub mask_of-before-requires : goal.mask_of-before-requires
mask_of-before-requires c = few-variables c.requires.holds

pub loop-spent-init : goal.loop-spent-init
loop-spent-init c = let a = c.args in (
  refl,
  refl,
  following-start a.first a.trace.now c.mask_of-before.result c.requires c.mask_of-before.ensures,
)

-- ---- at a turn

pub spend-spent-requires : goal.spend-spent-requires
spend-spent-requires c =
    let i = c.loop-spent.invariant in let z = i.1 in let h = few-variables i.2.standing.holds in
    record { standing = i.2.standing; columns_in_bounds = omega (arith, h, z) }

-- the pivot that is made
pub returns-then-spent : goal.returns-then-spent
returns-then-spent c = λ P H.
    c.at_end.ensures
    ∙ following-over c.loop-spent.invariant.2 c.spend-spent.ensures.state c.if-spent.true P H

pub returns-then-made-steps : goal.returns-then-made-steps
returns-then-made-steps c =
    following-early c.loop-spent.invariant.2 c.spend-spent.ensures.state c.if-spent.false c.if-made-steps.true

-- ---- the trace has a step more

pub mask_of-after-requires : goal.mask_of-after-requires
mask_of-after-requires c = few-variables c.requires.holds

pub overflow_mul-at : goal.overflow_mul-at
overflow_mul-at c = let h = c.loop-spent.invariant.2.few in omega (arith, h)

pub offset_bounds-trace-at : goal.offset_bounds-trace-at
offset_bounds-trace-at c = let h = c.loop-spent.invariant.2.few in omega (arith, h)

pub bounds-trace-at : goal.bounds-trace-at
bounds-trace-at c = let h = c.loop-spent.invariant.2.few in omega (arith, h)

pub overflow_add-at : goal.overflow_add-at
overflow_add-at c = let h = c.loop-spent.invariant.2.few in omega (arith, h)

pub offset_bounds-trace-at-in-loop-spent : goal.offset_bounds-trace-at-in-loop-spent
offset_bounds-trace-at-in-loop-spent c = let h = c.loop-spent.invariant.2.few in omega (arith, h)

pub bounds-trace-at-in-loop-spent : goal.bounds-trace-at-in-loop-spent
bounds-trace-at-in-loop-spent c = let h = c.loop-spent.invariant.2.few in omega (arith, h)

pub overflow_add-at-in-loop-spent : goal.overflow_add-at-in-loop-spent
overflow_add-at-in-loop-spent c = let h = c.loop-spent.invariant.2.few in omega (arith, h)

pub offset_bounds-trace-at-in-loop-spent-2 : goal.offset_bounds-trace-at-in-loop-spent-2
offset_bounds-trace-at-in-loop-spent-2 c = let h = c.loop-spent.invariant.2.few in omega (arith, h)

pub bounds-trace-at-in-loop-spent-2 : goal.bounds-trace-at-in-loop-spent-2
bounds-trace-at-in-loop-spent-2 c = let h = c.loop-spent.invariant.2.few in omega (arith, h)

-- the step is compared
pub returns-in-Err : goal.returns-in-Err
returns-in-Err c =
    following-wrong c.loop-spent.invariant.2 c.spend-spent.ensures.state c.if-spent.false c.if-made-steps.false
    c.mask_of-after.ensures _ (sym c.compared.ensures ∙ c.in-Err.is)

pub loop-spent-smaller : goal.loop-spent-smaller
loop-spent-smaller c =
    let j = following-count c.loop-spent.invariant.2 c.spend-spent.ensures.state c.if-spent.false in
    let e = c.if-made-steps.false in let h = c.loop-spent.invariant.2.few in omega (arith, j, e, h)

pub loop-spent-preserved : goal.loop-spent-preserved
loop-spent-preserved c = let i = c.loop-spent.invariant in let e = c.spend-spent.ensures in (
  refl,
  ap length (following-out i.2 e.state c.if-spent.false e.output) ∙ i.1,
  following-more i.2 e.state c.if-spent.false c.if-made-steps.false c.mask_of-after.ensures
      (sym c.compared.ensures ∙ c.in-Ok.is),
)
