-- `wide::numbers::number_fits` meets its contract: each word's own test. Assumes nothing.
use Rattle.std.proofs.Common.{ap, ap₂, ◌∙◌, Bool, ◌&&◌, rules, w64}
use mir.Facts.{to_z-of_z}
use mir.Val.{SFits}
use Rattle.rules.specs.Wide.{head_fits, limb_fits, number_fits}
use Rattle.limbs.specs.declared.Wide.{Wide}
use Rattle.wide.proofs.numbers.number_fits.Goals as goal

pub returns : goal.returns
unfolding number_fits
returns c =
    let w : Wide = c.number_at-number.result in
    let fit-a : SFits w64 w.a = search rules in
    let fit-b : SFits w64 w.b = search rules in
    let fit-c : SFits w64 w.c = search rules in
    let fit-d : SFits w64 w.d = search rules in
    ap₂ (λ (p q : Bool). p && q)
    (ap₂ (λ (p q : Bool). p && q)
    (ap₂ (λ (p q : Bool). p && q) (simp (to_z-of_z fit-a) at c.limb_fits.ensures)
    (simp (to_z-of_z fit-b) at c.limb_fits-2.ensures))
    (simp (to_z-of_z fit-c) at c.limb_fits-3.ensures))
    (simp (to_z-of_z fit-d) at c.head_fits.ensures)
    ∙ ap (λ (w : Wide). limb_fits w.a && limb_fits w.b && limb_fits w.c && head_fits w.d) c.number_at-number.ensures
