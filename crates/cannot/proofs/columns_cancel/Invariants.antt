-- `cannot::columns_cancel` meets its contract. The invariant: whether the columns passed cancel. Assumes nothing.
use Rattle.std.proofs.Common.{◌≡◌, ◌≤◌, pos}
use Rattle.whole.specs.Below.{all_below}
use Rattle.whole.specs.Numbers.{eq_z}
use Rattle.parts.specs.Reads.{column_at_entries}
use Rattle.cannot.proofs.columns_cancel.Given as goal

abbrev pub invariant-loop-j : goal.invariant-loop-j
invariant-loop-j l =
    (l.fine ≡ all_below l.j (λ j. eq_z (column_at_entries l.case.entries.now l.case.answer.now l.case.rows
    l.case.columns j) (pos 0)))
    × (l.j ≤ l.case.columns)
