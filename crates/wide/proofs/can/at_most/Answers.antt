-- `wide::can::at_most` meets its contract: the signs of the difference to the limit and of the small part turned round.
-- Assumes nothing.
use Rattle.std.proofs.Common.{ap, ap₂, refl, ◌∙◌, ℤ, pos, ◌*ℤ◌, ◌-ℤ◌, rules, w32, w64}
use lib.Dec.{lit≤}
use lib.IntN.{*ℤ_comm}
use mir.Facts.{to_z-of_z}
use mir.Val.{SFits}
use Rattle.whole.proofs.Numbers.Sizes.{fits-by}
use Rattle.rules.specs.Evidence.{clears}
use Rattle.rules.specs.Sizes.{limb_turn}
use Rattle.limbs.specs.Limbs.{LimbsWithin, StandsFor, sign_of, value}
use Rattle.limbs.specs.declared.Wide.{Wide}
use Rattle.limbs.proofs.Laws.Gaps.{clears-signs}
use Rattle.limbs.proofs.Laws.Sizes.{sized-le}
use Rattle.limbs.proofs.Laws.Stands.{stands-is, stands-less, stands-times, stands-zero}
use Rattle.parts.proofs.Laws.Tests.{at-most-joined}
use Rattle.wide.proofs.can.at_most.Goals as goal

-- limbs stand for their own number
own : {w : Wide} → LimbsWithin w limb_turn → StandsFor w (value w) limb_turn
own h = record { number = refl; size = h }

pub returns : goal.returns
returns c =
    let fit : SFits w32 c.args.limit.plain = fits-by c.requires.within tt in
    let scaled = stands-is (simp (to_z-of_z fit) at c.times-most.ensures)
    (stands-times c.requires.within (own c.requires.limbs_within.0)) in
    let gap = stands-is c.less-gap.ensures (stands-less scaled (own c.requires.limbs_within.1)) in
    let beside = stands-is c.less-beside.ensures
    (stands-less (stands-is c.zero.ensures (stands-zero 0)) (own c.requires.limbs_within.2)) in
    let x = value c.args.x in
    let small = value c.args.small in
    let d = value c.args.common in
    let l = c.args.limit in
    let fit-gap : SFits w64 c.sign.result = search rules in
    let fit-small : SFits w64 c.sign-2.result = search rules in
    at-most-joined _ d x small refl l.on
    (simp (to_z-of_z fit-gap, to_z-of_z fit-small) at c.clears.ensures
    ∙ ap₂ (λ (g h : ℤ). clears l.strict (pos 0, pos 0) (g, h))
    (c.sign.ensures ∙ ap sign_of (gap.number ∙ ap (λ (z : ℤ). z -ℤ x) (*ℤ_comm l.plain d)))
    (c.sign-2.ensures ∙ ap sign_of beside.number)
    ∙ clears-signs x small (d *ℤ l.plain) (pos 0) l.strict)

pub times-most-requires : goal.times-most-requires
times-most-requires c =
    let fit : SFits w32 c.args.limit.plain = fits-by c.requires.within tt in
    simp (to_z-of_z fit) (sized-le c.requires.limbs_within.0 (lit≤ tt), c.requires.within)

pub less-gap-requires : goal.less-gap-requires
less-gap-requires c =
    let fit : SFits w32 c.args.limit.plain = fits-by c.requires.within tt in
    let scaled = stands-is (simp (to_z-of_z fit) at c.times-most.ensures)
    (stands-times c.requires.within (own c.requires.limbs_within.0)) in
    (sized-le scaled.size (lit≤ tt), sized-le c.requires.limbs_within.1 (lit≤ tt))

pub less-beside-requires : goal.less-beside-requires
less-beside-requires c =
    (sized-le (stands-is c.zero.ensures (stands-zero 0)).size (lit≤ tt), sized-le c.requires.limbs_within.2 (lit≤ tt))

pub sign-requires : goal.sign-requires
sign-requires c =
    let fit : SFits w32 c.args.limit.plain = fits-by c.requires.within tt in
    let scaled = stands-is (simp (to_z-of_z fit) at c.times-most.ensures)
    (stands-times c.requires.within (own c.requires.limbs_within.0)) in
    let gap = stands-is c.less-gap.ensures (stands-less scaled (own c.requires.limbs_within.1)) in
    sized-le gap.size (lit≤ tt)

pub sign-requires-2 : goal.sign-requires-2
sign-requires-2 c =
    let beside = stands-is c.less-beside.ensures
    (stands-less (stands-is c.zero.ensures (stands-zero 0)) (own c.requires.limbs_within.2)) in
    sized-le beside.size (lit≤ tt)
