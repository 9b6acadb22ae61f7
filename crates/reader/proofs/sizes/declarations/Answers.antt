-- `reader::sizes::declarations` meets its contract. The invariant of its loop: so many columns and rows are declared.
-- The measure is how many more there can be. Assumes nothing.
use Rattle.std.proofs.Common.{sym, ◌∙◌}
use Rattle.reader.proofs.Laws.Course.{declared-all}
use Rattle.reader.proofs.sizes.declarations.Goals as goal

pub returns : goal.returns
returns c = declared-all c.loop-shape.invariant (sym c.is_declaration.ensures ∙ c.loop-shape-test.false)
