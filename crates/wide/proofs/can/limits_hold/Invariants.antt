-- `wide::can::limits_hold` meets its contract. The invariant: whether the limits of the variables passed hold.
-- Assumes nothing.
use Rattle.std.proofs.Common.{◌≡◌, ◌≤◌}
use Rattle.limbs.specs.Limbs.{value}
use Rattle.wide.specs.Reads.{limits_met}
use Rattle.wide.proofs.can.limits_hold.Given as goal

abbrev pub invariant-loop-v : goal.invariant-loop-v
invariant-loop-v l =
    (l.v ≤ l.variables) × (l.fine ≡ limits_met l.case.limits.now l.case.answer.now l.variables (value l.common) l.v)
