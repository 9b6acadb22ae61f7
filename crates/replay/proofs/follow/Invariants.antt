-- `replay::follow` meets its contract. The loop's invariant: the steps of the trace so far are those of the run, whose
-- tableau, count and basic variables are at hand (`Following`). The measure is the steps left in the trace. Assumes
-- nothing.
use mathlib.Core.Path.{◌≡◌}
use Prim.Native.Nat.{◌*◌, ◌+◌, ◌-◌}
use lib.ListN.{length}
use Rattle.rules.specs.Runs.Replay.{step_count}
use Rattle.rules.specs.Sizes.{most_variables}
use Rattle.replay.proofs.Laws.Following.{Following}
use Rattle.replay.proofs.follow.Given as goal

abbrev pub invariant-loop-spent : goal.invariant-loop-spent
invariant-loop-spent l =
    (l.steps ≡ step_count l.trace)
    × (length l.out ≡ 3 + 2 * most_variables)
    × Following l.initial.spent.tableau l.trace l.variables l.before l.spent.tableau l.spent.count

abbrev pub decreases-loop-spent : goal.decreases-loop-spent
decreases-loop-spent l = l.steps - l.spent.count
