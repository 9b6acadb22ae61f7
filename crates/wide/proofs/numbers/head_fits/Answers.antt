-- `wide::numbers::head_fits` meets its contract. Assumes nothing.
use mathlib.Core.Bool.{Bool, not}
use mathlib.Core.Path.{ap}
use mir.Facts.{to_z-of_z}
use Rattle.rules.specs.Wide.{head_fits}
use Rattle.wide.proofs.numbers.head_fits.Goals as goal

pub returns : goal.returns
unfolding head_fits
returns c = ap (λ (b : Bool). not b) (simp (to_z-of_z c.ranges.z) at c.is_outside.ensures)
