-- `sides::suits` meets its contract: the sign of the entry and the side say which way the variable has to move.
-- Assumes nothing.
use Rattle.std.proofs.Common.{ap, ◌∙◌, pos, lit<, w32, SFits}
use Rattle.std.proofs.Math.Facts.{to_z-of_z}
use Rattle.whole.proofs.Tells.{bits-eq}
use Rattle.amounts.specs.Amounts.{pair_in}
use Rattle.sides.proofs.Laws.Sides.{falls, suits_joined, suits-joined}
use Rattle.sides.proofs.suits.Goals as goal

zero-fits : SFits w32 (pos 0)
zero-fits = record { sfits = lit< tt }

pub returns : goal.returns
returns c = let a = c.args in
    simp (to_z-of_z c.ranges.entry, c.may_fall.ensures, c.may_rise.ensures)
    (ap (λ z. suits_joined (pair_in a.value) a.limits z (falls (pair_in a.value) a.limits a.rises a.entry))
    (bits-eq w32 c.ranges.entry zero-fits)
    ∙ suits-joined (pair_in a.value) a.limits a.rises a.entry)
