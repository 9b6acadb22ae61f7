-- `limbs::Wide::is_zero` meets its contract. Assumes nothing.
use Rattle.std.proofs.Common.{ap, ◌∙◌, rules, ℤ, pos, w64}
use lib.Dec.{lit<}
use mir.Val.{SFits}
use Rattle.whole.proofs.Tells.{bits-eq}
use Rattle.whole.specs.Numbers.{eq_z}
use Rattle.limbs.proofs.Laws.Signs.{sign_zero}
use Rattle.limbs.proofs.Wide.is_zero.Goals as goal

pub returns : goal.returns
returns c =
    let f : SFits w64 c.sign.result = search rules in
    bits-eq w64 f (record { sfits = lit< tt })
    ∙ ap (λ (z : ℤ). eq_z z (pos 0)) c.sign.ensures ∙ sign_zero _
