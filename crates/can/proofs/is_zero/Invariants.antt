-- `can::is_zero` meets its contract. The invariant: whether the numbers passed are 0. Assumes nothing.
use Rattle.std.proofs.Common.{◌≡◌, ◌≤◌}
use Rattle.parts.specs.Reads.{is_zero}
use Rattle.can.proofs.is_zero.Given as goal

abbrev pub invariant-loop-x : goal.invariant-loop-x
invariant-loop-x l = (l.x-index ≤ l.variables) × (l.fine ≡ is_zero l.half l.x-index)
