-- `layout::live` meets its contract: rows and columns are few, so the product fits. Assumes nothing.
use Rattle.std.proofs.Common.{refl}
use Rattle.layout.specs.Layout.{live}
use Rattle.layout.proofs.live.Goals as goal

pub returns : goal.returns
unfolding live
returns c = refl
