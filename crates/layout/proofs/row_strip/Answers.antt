-- `layout::row_strip` meets its contract. Assumes nothing.
use Rattle.std.proofs.Common.{refl}
use Rattle.layout.specs.Layout.{row_strip_laid}
use Rattle.layout.proofs.row_strip.Goals as goal

pub returns : goal.returns
unfolding row_strip_laid
returns c = refl
