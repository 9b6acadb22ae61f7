-- `tableau::read::start_line` meets its contract. The invariant: the cells before this step of the line are the
-- definition's, the others 0. Assumes nothing.
use Rattle.std.proofs.Common.{◌≡◌, ◌+◌}
use Rattle.rules.specs.Problem.{problem}
use Rattle.layout.specs.Layout.{line_at}
use Rattle.tableau.specs.Start.{start_up_to}
use Rattle.tableau.proofs.read.start_line.Given as goal

abbrev pub invariant-loop-step : goal.invariant-loop-step
invariant-loop-step l =
    l.entries ≡ start_up_to (problem l.words) l.rows l.columns (line_at l.rows l.columns l.line + l.step)
