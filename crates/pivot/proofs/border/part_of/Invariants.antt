-- `pivot::border::part_of` meets its contract. The invariant: g is the divisor of the start and the numbers passed.
-- Once g is 1, so is the divisor of all. Assumes nothing.
use Rattle.std.proofs.Common.{◌≡◌, pos}
use Rattle.divisor.specs.Cells.{divisor_below}
use Rattle.pivot.proofs.border.part_of.Given as goal

abbrev pub invariant-loop-number : goal.invariant-loop-number
invariant-loop-number l = l.g ≡ divisor_below l.number-index l.numbers (pos l.start)
