-- `divisor::divisor_of` meets its contract. The invariant: g is the divisor of the number and the cells passed. Once
-- g is 1, so is the divisor of all. Assumes nothing.
use Rattle.std.proofs.Common.{◌≡◌}
use Rattle.divisor.specs.Cells.{divisor_below}
use Rattle.divisor.proofs.divisor_of.Given as goal

abbrev pub invariant-loop-cell : goal.invariant-loop-cell
invariant-loop-cell l = l.g ≡ divisor_below l.cell-index l.cells l.common
