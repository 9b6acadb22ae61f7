-- `cannot::column_sum` meets its contract. The invariant: the sum is that of the column's own balance and the rows
-- passed, each term within the largest coefficient times twice the largest number. Assumes nothing.
use Rattle.std.proofs.Common.{◌≡◌, ◌+◌, ◌≤◌}
use Rattle.parts.specs.Reads.{column_up_to}
use Rattle.cannot.proofs.column_sum.Given as goal

abbrev pub invariant-loop-i : goal.invariant-loop-i
invariant-loop-i l =
    (l.i ≤ l.case.rows)
    × (l.sum ≡ column_up_to l.case.entries.now l.case.answer.now l.case.rows l.case.columns
    (l.case.columns + l.case.rows) l.i l.column.0)
