-- `pivot::wide::mixed_line` meets its contract. The invariant: the cells before this step of the line are the
-- definition's, the others 0. Assumes nothing.
use Rattle.std.proofs.Common.{◌≡◌, ◌+◌}
use Rattle.layout.specs.Layout.{line_at}
use Rattle.pivot.specs.Asked.{cells_for}
use Rattle.pivot.proofs.wide.mixed_line.Given as goal

abbrev pub invariant-loop-step : goal.invariant-loop-step
invariant-loop-step l = l.out
    ≡ cells_for l.turn.entries.now l.turn.asked (line_at l.turn.asked.rows l.turn.asked.columns l.line + l.step)
