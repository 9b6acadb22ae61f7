-- `layout::line_at` meets its contract: lines and steps are few, so the product fits. Assumes nothing.
use Rattle.std.proofs.Common.{arith, refl}
use Rattle.layout.specs.Layout.{lines_laid, steps_laid}
use Rattle.layout.proofs.line_at.Goals as goal

pub overflow_mul-result : goal.overflow_mul-result
unfolding lines_laid
overflow_mul-result c = grind arith

pub returns : goal.returns
unfolding steps_laid
returns c = refl
