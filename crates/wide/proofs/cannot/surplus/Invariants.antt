-- `wide::cannot::surplus` meets its contract. The invariant: the sum stands for that of the variables passed, and its
-- limbs are within so many times twice the largest limit times 2^32. Assumes nothing.
use Rattle.std.proofs.Common.{◌≤◌, ◌+◌, ◌*◌}
use Rattle.limbs.specs.Limbs.{StandsFor}
use Rattle.wide.specs.Reads.{surplus_in, weight_most}
use Rattle.wide.proofs.cannot.surplus.Given as goal

abbrev pub invariant-loop-v : goal.invariant-loop-v
invariant-loop-v l =
    (l.v ≤ l.variables) × StandsFor l.sum (surplus_in l.case.limits.now l.case.answer.now l.variables l.v)
    (l.v * (weight_most + weight_most))
