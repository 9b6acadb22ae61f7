-- `layout::steps` meets its contract. Assumes nothing.
use Rattle.std.proofs.Common.{refl}
use Rattle.layout.specs.Layout.{steps_laid}
use Rattle.layout.proofs.steps.Goals as goal

pub returns : goal.returns
unfolding steps_laid
returns c = refl
