-- `limbs::Wide::sign` meets its contract: after carries the highest limb that is not 0 has the sign, and carries change
-- no number. Assumes nothing.
use Rattle.std.proofs.Common.{ap, ◌∙◌, rules, w64}
use mir.Facts.{to_z-of_z}
use mir.Val.{SFits}
use Rattle.limbs.proofs.Laws.Numbers.{value-settled}
use Rattle.limbs.proofs.Laws.Signs.{signum-sign}
use Rattle.limbs.proofs.Laws.Sizes.{settled-of}
use Rattle.limbs.specs.Limbs.{sign_of, value}
use Rattle.limbs.proofs.Wide.sign.Goals as goal

pub highest-requires : goal.highest-requires
highest-requires c = rw c.settled.ensures (settled-of c.args.self)

pub returns : goal.returns
returns c =
    let f : SFits w64 c.signum.result = search rules in
    let h : SFits w64 c.highest.result = search rules in
    simp (to_z-of_z f)
    (simp (to_z-of_z h) at c.signum.ensures.value ∙ signum-sign c.highest.result ∙ c.highest.ensures
    ∙ ap (λ w. sign_of (value w)) c.settled.ensures ∙ ap sign_of (value-settled c.args.self))
