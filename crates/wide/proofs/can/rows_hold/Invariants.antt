-- `wide::can::rows_hold` meets its contract. The invariant: whether the rows passed hold. Assumes nothing.
use Rattle.std.proofs.Common.{◌≡◌, ◌≤◌}
use Rattle.wide.specs.Reads.{rows_solved}
use Rattle.wide.proofs.can.rows_hold.Given as goal

abbrev pub invariant-loop-i : goal.invariant-loop-i
invariant-loop-i l =
    (l.i ≤ l.case.rows)
    × (l.fine ≡ rows_solved l.case.entries.now l.case.answer.now l.first l.case.rows l.case.columns l.i)
