-- `traces::record` meets its contract. The loop's invariant: the words so far are those of the run, whose tableau and
-- basic variables are at hand (`Recording`). The measure is the pivots left. Assumes nothing.
use mathlib.Core.Path.{◌≡◌}
use Prim.Native.Nat.{◌*◌, ◌+◌, ◌-◌}
use lib.ListN.{length}
use Rattle.rules.specs.Sizes.{most_variables}
use Rattle.traces.proofs.Laws.Recording.{Recording}
use Rattle.traces.proofs.record.Given as goal

abbrev pub invariant-loop-made : goal.invariant-loop-made
invariant-loop-made l =
    (length l.out ≡ 3 + 2 * most_variables)
    × Recording l.initial.t l.count l.initial.trace l.variables l.before l.t l.made l.trace

abbrev pub decreases-loop-made : goal.decreases-loop-made
decreases-loop-made l = l.count - l.made
