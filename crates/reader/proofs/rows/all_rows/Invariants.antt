-- `reader::rows::all_rows` meets its contract. The invariant of its loop: i rows are read. Assumes nothing.
use Rattle.std.proofs.Common.{◌≡◌, ◌≤◌, Ok}
use Rattle.reader.specs.Course.{RowsAt}
use Rattle.reader.proofs.rows.all_rows.Given as goal

abbrev pub invariant-loop-i : goal.invariant-loop-i
invariant-loop-i l =
    (l.i ≤ l.counts.rows) × (l.i-end ≡ l.counts.rows)
    × RowsAt l.text l.counts.columns l.counts.rows l.i l.words (Ok l.next)
