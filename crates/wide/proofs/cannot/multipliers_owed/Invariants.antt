-- `wide::cannot::multipliers_owed` meets its contract. The invariant: whether the multipliers of the variables
-- passed are owed. Assumes nothing.
use Rattle.std.proofs.Common.{◌≡◌, ◌≤◌}
use Rattle.wide.specs.Reads.{all_owed}
use Rattle.wide.proofs.cannot.multipliers_owed.Given as goal

abbrev pub invariant-loop-v : goal.invariant-loop-v
invariant-loop-v l =
    (l.v ≤ l.variables) × (l.fine ≡ all_owed l.case.limits.now l.case.answer.now l.variables l.v)
