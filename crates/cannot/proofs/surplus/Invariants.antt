-- `cannot::surplus` meets its contract. The invariant: the sum is that of the variables passed, each term
-- within twice the largest limit times the largest number. Assumes nothing.
use Rattle.std.proofs.Common.{◌≡◌, ◌≤◌}
use Rattle.parts.specs.Reads.{surplus_up_to}
use Rattle.cannot.proofs.surplus.Given as goal

abbrev pub invariant-loop-v : goal.invariant-loop-v
invariant-loop-v l =
    (l.v ≤ l.variables) × (l.sum ≡ surplus_up_to l.case.limits.now l.case.answer.now l.variables l.v)
