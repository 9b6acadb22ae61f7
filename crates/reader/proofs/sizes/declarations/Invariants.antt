-- `reader::sizes::declarations` meets its contract. The invariant of its loop: so many columns and rows are declared.
-- The measure is how many more there can be. Assumes nothing.
use Rattle.std.proofs.Common.{suc, ◌+◌, ◌-◌, Ok}
use Rattle.rules.specs.Sizes.{most_variables}
use Rattle.reader.specs.Course.{DeclaredAt}
use Rattle.reader.proofs.sizes.declarations.Given as goal

abbrev pub invariant-loop-shape : goal.invariant-loop-shape
invariant-loop-shape l = DeclaredAt l.text l.shape.counts.columns l.shape.counts.rows (Ok l.shape.at)

abbrev pub decreases-loop-shape : goal.decreases-loop-shape
decreases-loop-shape l = suc most_variables - (l.shape.counts.columns + l.shape.counts.rows)
