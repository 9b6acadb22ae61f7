-- `limbs::Wide::highest` meets its contract. Assumes nothing.
use Rattle.std.proofs.Common.{◌≡◌, ap, sym, ◌∙◌, rules, pos, ℤ, to_z, of_z, w64}
use mir.Facts.{to_z-of_z}
use mir.Val.{SFits}
use Rattle.limbs.proofs.Laws.Signs.{highest-a, highest-b, highest-c, highest-d}
use Rattle.limbs.specs.Limbs.{sign_of}
use Rattle.limbs.proofs.Wide.highest.Goals as goal

-- a limb whose bits are 0
null : {z : ℤ} → SFits w64 z → of_z w64 z ≡ 0 → z ≡ pos 0
null f e = sym (to_z-of_z f) ∙ ap (to_z w64) e

kept : {z y : ℤ} → SFits w64 z → sign_of z ≡ y → sign_of (to_z w64 (of_z w64 z)) ≡ y
kept f e = rw (to_z-of_z f) e

pub returns-then-self-ne0 : goal.returns-then-self-ne0
returns-then-self-ne0 c =
    kept (search rules) (highest-d _ c.requires (λ e. c.if-self-ne0.true (ap (of_z w64) e)))

pub returns-then-self-ne0-2 : goal.returns-then-self-ne0-2
returns-then-self-ne0-2 c =
    kept (search rules) (highest-c _ c.requires (null (search rules) c.if-self-ne0.false)
    (λ e. c.if-self-ne0-2.true (ap (of_z w64) e)))

pub returns-then-self-ne0-3 : goal.returns-then-self-ne0-3
returns-then-self-ne0-3 c =
    kept (search rules) (highest-b _ c.requires (null (search rules) c.if-self-ne0.false)
    (null (search rules) c.if-self-ne0-2.false) (λ e. c.if-self-ne0-3.true (ap (of_z w64) e)))

pub returns-else-self-ne0-3 : goal.returns-else-self-ne0-3
returns-else-self-ne0-3 c =
    kept (search rules) (highest-a _ c.requires (null (search rules) c.if-self-ne0.false)
    (null (search rules) c.if-self-ne0-2.false) (null (search rules) c.if-self-ne0-3.false))
