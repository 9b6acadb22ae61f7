-- `pivot::column::Cells::divisor` meets its contract. The invariant: g is the divisor of the number and the cells
-- passed; where it is 1 it is 1 for all cells (`column-one`). Assumes nothing.
use Rattle.std.proofs.Common.{◌≡◌}
use Rattle.pivot.specs.Trials.{column_divisor}
use Rattle.pivot.proofs.column.Cells.divisor.Given as goal

abbrev pub invariant-loop-i : goal.invariant-loop-i
invariant-loop-i l = l.g ≡ column_divisor l.self.entries.now l.self.besides.now l.self.column l.i l.by
