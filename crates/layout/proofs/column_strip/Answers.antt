-- `layout::column_strip` meets its contract: a place of 8 bits times few rows fits. Assumes nothing.
use Rattle.std.proofs.Common.{refl}
use Rattle.layout.specs.Layout.{column_strip_laid}
use Rattle.layout.proofs.column_strip.Goals as goal

pub returns : goal.returns
unfolding column_strip_laid
returns c = refl
