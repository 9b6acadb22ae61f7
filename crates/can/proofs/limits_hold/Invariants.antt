-- `can::limits_hold` meets its contract. The invariant: whether the limits of the variables passed hold. Assumes
-- nothing.
use Rattle.std.proofs.Common.{◌≡◌, ◌≤◌}
use Rattle.parts.specs.Reads.{limits_up_to}
use Rattle.can.proofs.limits_hold.Given as goal

abbrev pub invariant-loop-v : goal.invariant-loop-v
invariant-loop-v l =
    (l.v ≤ l.variables)
    × (l.fine ≡ limits_up_to l.case.limits.now l.case.answer.now l.variables l.denominator l.v)
