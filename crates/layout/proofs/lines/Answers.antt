-- `layout::lines` meets its contract. Assumes nothing.
use Rattle.std.proofs.Common.{refl}
use Rattle.layout.specs.Layout.{lines_laid}
use Rattle.layout.proofs.lines.Goals as goal

pub returns : goal.returns
unfolding lines_laid
returns c = refl
