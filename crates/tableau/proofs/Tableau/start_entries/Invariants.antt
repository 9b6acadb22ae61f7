-- `tableau::Tableau::start_entries` meets its contract. The invariant: the lines passed are the definition's, the other
-- cells 0. Assumes nothing.
use Rattle.std.proofs.Common.{◌≡◌}
use Rattle.rules.specs.Problem.{problem}
use Rattle.layout.specs.Layout.{line_at}
use Rattle.tableau.specs.Start.{start_up_to}
use Rattle.tableau.proofs.Tableau.start_entries.Given as goal

abbrev pub invariant-loop-line : goal.invariant-loop-line
invariant-loop-line l = l.entries ≡ start_up_to (problem l.words) l.rows l.columns (line_at l.rows l.columns l.line)
