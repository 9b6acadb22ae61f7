-- `can::numerators_fit` meets its contract. The invariant: whether the numerators passed are in range. Assumes nothing.
use Rattle.std.proofs.Common.{◌≡◌, ◌≤◌, nat_abs}
use Rattle.parts.specs.Reads.{numerators_fit}
use Rattle.can.proofs.numerators_fit.Given as goal

abbrev pub invariant-loop-x : goal.invariant-loop-x
invariant-loop-x l = (l.x-index ≤ l.variables) × (l.fine ≡ numerators_fit (nat_abs l.largest) l.half l.x-index)
