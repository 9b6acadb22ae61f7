-- `cannot::some_named` meets its contract. The invariant: whether a strict limit of a variable passed has a
-- multiplier other than 0. Assumes nothing.
use Rattle.std.proofs.Common.{◌≡◌, ◌≤◌}
use Rattle.whole.specs.Below.{some_below}
use Rattle.parts.specs.Reads.{named_at}
use Rattle.cannot.proofs.some_named.Given as goal

abbrev pub invariant-loop-v : goal.invariant-loop-v
invariant-loop-v l =
    (l.v ≤ l.variables) × (l.found ≡ some_below l.v (named_at l.limits l.answer l.variables))
