-- `wide::can::row_sum` meets its contract. The invariant: the sum stands for that of the columns passed, and its
-- limbs are within so many times the largest coefficient times 2^32. Assumes nothing.
use Rattle.std.proofs.Common.{◌≤◌, ◌*◌}
use Rattle.limbs.specs.Limbs.{StandsFor}
use Rattle.wide.specs.Reads.{row_in, term_most}
use Rattle.wide.proofs.can.row_sum.Given as goal

abbrev pub invariant-loop-j : goal.invariant-loop-j
invariant-loop-j l =
    (l.j ≤ l.case.columns) × StandsFor l.sum
    (row_in l.case.entries.now l.case.answer.now l.first l.case.rows l.case.columns l.row.0 l.j) (l.j * term_most)
