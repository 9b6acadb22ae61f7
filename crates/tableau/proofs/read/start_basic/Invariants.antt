-- `tableau::read::start_basic` meets its contract. The invariant: the places passed hold the definition's variables.
-- Assumes nothing.
use Rattle.std.proofs.Common.{◌≡◌, ◌+◌}
use Rattle.whole.specs.Tables.{filled}
use Rattle.rules.specs.Sizes.{most_rows}
use Rattle.tableau.specs.Parts.{variable}
use Rattle.tableau.proofs.read.start_basic.Given as goal

abbrev pub invariant-loop-i : goal.invariant-loop-i
invariant-loop-i l = l.variable-items ≡ filled most_rows (variable 0) l.i (λ i. variable (l.columns + i))
