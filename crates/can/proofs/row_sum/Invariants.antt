-- `can::row_sum` meets its contract. The invariant: the sum is that of the columns passed, and is within so
-- many times the largest coefficient times the largest numerator. Assumes nothing.
use Rattle.std.proofs.Common.{◌≡◌, ◌≤◌}
use Rattle.parts.specs.Reads.{row_up_to}
use Rattle.can.proofs.row_sum.Given as goal

abbrev pub invariant-loop-j : goal.invariant-loop-j
invariant-loop-j l =
    (l.j ≤ l.case.columns)
    × (l.sum ≡ row_up_to l.case.entries.now l.half l.case.rows l.case.columns l.row.0 l.j)
