-- `wide::cannot::columns_cancel` meets its contract. The invariant: whether the columns passed cancel. Assumes nothing.
use Rattle.std.proofs.Common.{◌≡◌, ◌≤◌}
use Rattle.wide.specs.Reads.{columns_vanish}
use Rattle.wide.proofs.cannot.columns_cancel.Given as goal

abbrev pub invariant-loop-j : goal.invariant-loop-j
invariant-loop-j l =
    (l.j ≤ l.case.columns)
    × (l.fine ≡ columns_vanish l.case.entries.now l.case.answer.now l.case.rows l.case.columns l.j)
