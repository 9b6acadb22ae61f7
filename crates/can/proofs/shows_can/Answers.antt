-- `can::shows_can` meets its contract: the tests of the rule one after the other, each call giving one of
-- them. What is lent as the second half is the answer from one word for each variable on. Assumes nothing.
use Rattle.std.proofs.Common.{◌≡◌, ap, sym, ◌∙◌, Bool, ◌||◌, List, ℕ, ◌+◌, ◌-◌, ℤ, pos, length, take, drop, rules, of_z}
use Rattle.std.proofs.Common.{to_z, w64}
use lib.Signed.{lt_z}
use mir.Facts.{to_z-of_z}
use mir.Val.{SFits}
use Rattle.whole.specs.Numbers.{outside}
use Rattle.rules.specs.Sizes.{largest_number, largest_small}
use Rattle.rules.specs.Evidence.{denominator_of}
use Rattle.parts.specs.Reads.{half_holds}
use Rattle.parts.proofs.Laws.Halves.{lent-half}
use Rattle.parts.proofs.Laws.Read.{readable-of}
use Rattle.parts.proofs.Laws.Shown.{can-denominator, can-numerators, can-smalls, can-limits}
use Rattle.can.proofs.shows_can.Goals as goal

-- the test of the denominator, and what is lent as the second half
outside-is : (z : ℤ) {b : Bool} → SFits w64 z →
    b ≡ (lt_z (to_z w64 (of_z w64 z)) (pos 1) || lt_z (pos largest_number) (to_z w64 (of_z w64 z))) →
    b ≡ outside 1 largest_number z
unfolding outside
outside-is z f e = simp (to_z-of_z f) at e

smalls-are : (entries a : List ℤ) (rows columns : ℕ) {b : Bool} →
    b ≡ half_holds largest_small entries (take (length a - (columns + rows)) (drop (columns + rows) a)) rows columns →
    b ≡ half_holds largest_small entries (drop (columns + rows) a) rows columns
smalls-are entries a rows columns e =
    e ∙ ap (λ (half : List ℤ). half_holds largest_small entries half rows columns) (lent-half a (columns + rows))

pub returns-then-is_outside : goal.returns-then-is_outside
returns-then-is_outside c =
    let f : SFits w64 (denominator_of c.args.case.now.answer.now) = search rules in
    sym (can-denominator (readable-of c.args.case.now.in_ranges c.requires)
    (sym (outside-is _ f c.is_outside.ensures) ∙ c.if-is_outside.true))

pub returns-then-not-half_holds : goal.returns-then-not-half_holds
returns-then-not-half_holds c =
    let f : SFits w64 (denominator_of c.args.case.now.answer.now) = search rules in
    sym (can-numerators (readable-of c.args.case.now.in_ranges c.requires)
    (sym (outside-is _ f c.is_outside.ensures) ∙ c.if-is_outside.false)
    (sym c.half_holds.ensures ∙ c.if-not-half_holds.true))

pub returns-then-not-smalls_hold : goal.returns-then-not-smalls_hold
returns-then-not-smalls_hold c =
    let case = c.args.case.now in
    let f : SFits w64 (denominator_of case.answer.now) = search rules in
    sym (can-smalls (readable-of case.in_ranges c.requires)
    (sym (outside-is _ f c.is_outside.ensures) ∙ c.if-is_outside.false)
    (sym c.half_holds.ensures ∙ c.if-not-half_holds.false)
    (sym (smalls-are case.entries.now case.answer.now case.rows case.columns c.smalls_hold.ensures)
    ∙ c.if-not-smalls_hold.true))

pub returns : goal.returns
returns c =
    let case = c.args.case.now in
    let f : SFits w64 (denominator_of case.answer.now) = search rules in
    simp (to_z-of_z f) at c.limits_hold.ensures
    ∙ sym (can-limits (readable-of case.in_ranges c.requires)
    (sym (outside-is _ f c.is_outside.ensures) ∙ c.if-is_outside.false)
    (sym c.half_holds.ensures ∙ c.if-not-half_holds.false)
    (sym (smalls-are case.entries.now case.answer.now case.rows case.columns c.smalls_hold.ensures)
    ∙ c.if-not-smalls_hold.false))
