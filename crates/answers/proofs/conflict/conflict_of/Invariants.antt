-- `answers::conflict::conflict_of` meets its contract. The loop's invariant: the limits of no variable passed cross.
-- Assumes nothing.
use Rattle.std.proofs.Common.{◌≡◌}
use Rattle.std.proofs.Math.Option.{none}
use Rattle.whole.specs.Below.{lowest}
use Rattle.answers.specs.Conflict.{crosses_at}
use Rattle.answers.proofs.conflict.conflict_of.Given as goal

abbrev pub invariant-loop-v : goal.invariant-loop-v
invariant-loop-v l = lowest l.v (crosses_at l.limits) ≡ none
