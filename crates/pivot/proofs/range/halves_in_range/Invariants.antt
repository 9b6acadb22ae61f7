-- `pivot::range::halves_in_range` meets its contract. The invariant: the cells passed are tested. Assumes nothing.
use Rattle.std.proofs.Common.{◌≡◌}
use Rattle.pivot.specs.Pivot.{all_small}
use Rattle.pivot.proofs.range.halves_in_range.Given as goal

abbrev pub invariant-loop-cell : goal.invariant-loop-cell
invariant-loop-cell l = l.fine ≡ all_small l.cell-index l.cells
