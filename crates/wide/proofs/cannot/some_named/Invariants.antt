-- `wide::cannot::some_named` meets its contract. The invariant: whether a strict limit of a variable passed is named.
-- Assumes nothing.
use Rattle.std.proofs.Common.{◌≡◌, ◌≤◌}
use Rattle.wide.specs.Reads.{some_marked}
use Rattle.wide.proofs.cannot.some_named.Given as goal

abbrev pub invariant-loop-v : goal.invariant-loop-v
invariant-loop-v l =
    (l.v ≤ l.variables) × (l.found ≡ some_marked l.case.limits.now l.case.answer.now l.variables l.v)
