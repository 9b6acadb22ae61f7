-- `pivot::column::Cells::is_above` meets its contract. The invariant: no cell passed is above the limit.
-- Assumes nothing.
use Rattle.std.proofs.Common.{◌≡◌, false}
use Rattle.pivot.specs.Trials.{some_above}
use Rattle.pivot.proofs.column.Cells.is_above.Given as goal

abbrev pub invariant-loop-i : goal.invariant-loop-i
invariant-loop-i l = some_above l.self.entries.now l.self.besides.now l.self.column l.i l.limit ≡ false
