-- `pivot::wide::mixed_entries` meets its contract. The invariant: the lines passed are the definition's, the other
-- cells 0. Assumes nothing.
use Rattle.std.proofs.Common.{◌≡◌}
use Rattle.layout.specs.Layout.{line_at}
use Rattle.pivot.specs.Asked.{cells_for}
use Rattle.pivot.proofs.wide.mixed_entries.Given as goal

abbrev pub invariant-loop-line : goal.invariant-loop-line
invariant-loop-line l = l.out
    ≡ cells_for l.turn.entries.now l.turn.asked (line_at l.turn.asked.rows l.turn.asked.columns l.line)
