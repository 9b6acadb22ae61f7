-- `layout::place` meets its contract: places and sizes are small, so neither the product nor the sum leaves 64 bits.
-- Assumes nothing.
use Rattle.std.proofs.Common.{refl}
use Rattle.layout.specs.Layout.{flat_laid}
use Rattle.layout.proofs.place.Goals as goal

pub returns : goal.returns
unfolding flat_laid
returns c = refl
