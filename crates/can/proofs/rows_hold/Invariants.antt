-- `can::rows_hold` meets its contract. The invariant: whether the rows passed hold. Assumes nothing.
use Rattle.std.proofs.Common.{◌≡◌, ◌+◌, ◌≤◌}
use Rattle.whole.specs.Below.{all_below}
use Rattle.whole.specs.Numbers.{eq_z}
use Rattle.rules.specs.Evidence.{lower_part}
use Rattle.parts.specs.Reads.{row_sum_at}
use Rattle.can.proofs.rows_hold.Given as goal

abbrev pub invariant-loop-i : goal.invariant-loop-i
invariant-loop-i l =
    (l.i ≤ l.case.rows)
    × (l.fine ≡ all_below l.i (λ i. eq_z (lower_part l.half (l.case.columns + i))
    (row_sum_at l.case.entries.now l.half l.case.rows l.case.columns i)))
