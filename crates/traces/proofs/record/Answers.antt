-- `traces::record` meets its contract. The loop's invariant: the words so far are those of the run, whose tableau and
-- basic variables are at hand (`Recording`). The measure is the pivots left. Assumes nothing.
use mathlib.Core.Path.{ap, refl, ◌∙◌}
use Prim.Native.Nat.{◌<◌}
use native.Mathlib.Omega.{arith}
use lib.ListN.{length}
use Rattle.traces.proofs.Laws.Recording.{recording-more, recording-out, recording-start}
use Rattle.traces.proofs.record.Goals as goal

pub loop-made-init : goal.loop-made-init
loop-made-init c = let a = c.args in let R = c.requires in (
  refl,
  recording-start a.first a.count a.trace.now _ R.pivots R.count_in_bounds c.mask_of-before.ensures,
)

pub loop-made-preserved : goal.loop-made-preserved
loop-made-preserved c = let R = c.loop-made.invariant.1 in let e = c.spend.ensures in
    let another : c.loop-made.made < c.args.count = omega arith in (
      ap length (recording-out R another e.state e.output) ∙ c.loop-made.invariant.0,
      recording-more R another e.state c.mask_of-after.ensures c.gone.ensures c.gone-in-loop-made.ensures,
    )
