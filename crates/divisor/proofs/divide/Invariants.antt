-- `divisor::divide` meets its contract. The invariant: the cells passed are quotients, the others as they were.
-- Assumes nothing.
use Rattle.std.proofs.Common.{◌≡◌, ◌++◌, drop}
use Rattle.whole.specs.Tables.{table}
use Rattle.divisor.specs.Cells.{quotients}
use Rattle.divisor.proofs.divide.Given as goal

abbrev pub invariant-loop-cell : goal.invariant-loop-cell
invariant-loop-cell l =
    l.cell-items ≡ table l.cell-index (quotients l.fn.cells l.by) ++ drop l.cell-index l.fn.cells
