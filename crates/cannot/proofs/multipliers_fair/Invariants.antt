-- `cannot::multipliers_fair` meets its contract. The invariant: whether the multipliers of the variables passed are
-- fair. Assumes nothing.
use Rattle.std.proofs.Common.{◌≡◌, ◌≤◌}
use Rattle.whole.specs.Below.{all_below}
use Rattle.parts.specs.Reads.{fair_at}
use Rattle.cannot.proofs.multipliers_fair.Given as goal

abbrev pub invariant-loop-v : goal.invariant-loop-v
invariant-loop-v l =
    (l.v ≤ l.variables) × (l.fine ≡ all_below l.v (fair_at l.case.limits.now l.case.answer.now l.variables))
