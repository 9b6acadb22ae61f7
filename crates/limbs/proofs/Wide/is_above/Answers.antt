-- `limbs::Wide::is_above` meets its contract. Assumes nothing.
use Rattle.std.proofs.Common.{ap, ◌∙◌, rules, pos, w64}
use lib.Signed.{lt_z}
use mir.Facts.{to_z-of_z}
use mir.Val.{SFits}
use Rattle.limbs.proofs.Laws.Signs.{sign_above}
use Rattle.limbs.proofs.Wide.is_above.Goals as goal

pub returns : goal.returns
returns c =
    let f : SFits w64 c.sign.result = search rules in
    simp (to_z-of_z f) (ap (lt_z (pos 0)) c.sign.ensures ∙ sign_above _)
