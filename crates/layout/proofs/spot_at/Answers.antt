-- `layout::spot_at` meets its contract: lines and steps are few, so a place has 8 bits. Assumes nothing.
use Rattle.std.proofs.Common.{arith}
use Rattle.layout.specs.Layout.{lines_laid, steps_laid}
use Rattle.layout.proofs.Laws.Layout.{spot-along}
use Rattle.layout.proofs.spot_at.Goals as goal

pub overflow_cast-result : goal.overflow_cast-result
unfolding steps_laid
overflow_cast-result c = omega arith

pub overflow_cast-result-2 : goal.overflow_cast-result-2
unfolding lines_laid
overflow_cast-result-2 c = omega arith

pub returns : goal.returns
returns c = spot-along _ _ _ _ c.requires.in-steps
