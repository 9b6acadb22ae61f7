-- `wide::cannot::column_sum` meets its contract. The invariant: the sum stands for that of the column's own balance
-- and the rows passed, and its limbs are within 2^33 and so many times the largest coefficient times 2^33. Assumes
-- nothing.
use Rattle.std.proofs.Common.{◌≤◌, ◌+◌, ◌*◌}
use Rattle.rules.specs.Sizes.{limb_turn}
use Rattle.limbs.specs.Limbs.{StandsFor}
use Rattle.wide.specs.Reads.{column_in, share_most}
use Rattle.wide.proofs.cannot.column_sum.Given as goal

abbrev pub invariant-loop-i : goal.invariant-loop-i
invariant-loop-i l =
    (l.i ≤ l.case.rows)
    × StandsFor l.sum (column_in l.case.entries.now l.case.answer.now l.case.rows l.case.columns l.i l.column.0)
    ((limb_turn + limb_turn) + l.i * share_most)
