-- `wide::cannot::owed` meets its contract: by the multiplier's sign. Assumes nothing.
use mathlib.Core.Path.{ap, ap₂, ◌∙◌}
use mathlib.Core.Bool.{Bool, not, ◌&&◌, ◌||◌}
use borrow.Author.Rules.{rules}
use lib.Dec.{lit<, lit≤}
use lib.IntN.{ℤ, pos}
use mir.Facts.{to_z-of_z}
use mir.Syntax.{w64}
use mir.Val.{SFits}
use Rattle.whole.proofs.Tells.{bits-eq}
use Rattle.whole.specs.Numbers.{eq_z, is_neg}
use Rattle.limbs.proofs.Laws.Sizes.{sized-le}
use Rattle.limbs.specs.Limbs.{value}
use Rattle.wide.proofs.Laws.Signs.{owed-joined}
use Rattle.wide.proofs.cannot.owed.Goals as goal

zero-fits : SFits w64 (pos 0)
zero-fits = record { sfits = lit< tt }

pub sign-sign-requires : goal.sign-sign-requires
sign-sign-requires c = sized-le c.requires (lit≤ tt)

pub returns : goal.returns
returns c =
    let l = c.args.limit in
    let fit : SFits w64 c.sign-sign.result = search rules in
    simp (to_z-of_z fit)
    (ap₂ (λ (z : ℤ) (b : Bool). (l.on && not (is_neg z)) || b) c.sign-sign.ensures
    (bits-eq w64 fit zero-fits ∙ ap (λ (z : ℤ). eq_z z (pos 0)) c.sign-sign.ensures)
    ∙ owed-joined l.on _ (value c.args.k))
