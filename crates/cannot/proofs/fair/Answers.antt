-- `cannot::fair` meets its contract. Assumes nothing.
use mathlib.Core.Path.{ap₂, ◌∙◌}
use mathlib.Core.Bool.{Bool, not, ◌&&◌, ◌||◌}
use lib.Dec.{lit<}
use lib.IntN.{pos}
use mir.Facts.{to_z-of_z}
use mir.Syntax.{w64}
use mir.Val.{SFits}
use Rattle.whole.specs.Numbers.{outside}
use Rattle.whole.proofs.Tells.{bits-eq}
use Rattle.parts.proofs.Laws.Tests.{fair-joined}
use Rattle.cannot.proofs.fair.Goals as goal

zero-fits : SFits w64 (pos 0)
zero-fits = record { sfits = lit< tt }

pub returns : goal.returns
unfolding outside
returns c =
    ap₂ (λ (a b : Bool). (c.args.limit.on && not a) || b)
    (simp (to_z-of_z c.ranges.k) at c.is_outside.ensures)
    (bits-eq w64 c.ranges.k zero-fits) ∙ fair-joined c.args.limit.on _ c.args.k
