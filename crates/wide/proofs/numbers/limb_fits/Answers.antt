-- `wide::numbers::limb_fits` meets its contract. Assumes nothing.
use mathlib.Core.Bool.{Bool, not}
use mathlib.Core.Path.{ap}
use mir.Facts.{to_z-of_z}
use Rattle.whole.specs.Numbers.{outside}
use Rattle.rules.specs.Wide.{limb_fits}
use Rattle.wide.proofs.numbers.limb_fits.Goals as goal

pub returns : goal.returns
unfolding limb_fits outside
returns c = ap (λ (b : Bool). not b) (simp (to_z-of_z c.ranges.z) at c.is_outside.ensures)
