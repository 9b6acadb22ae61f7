-- `cannot::shows_cannot` meets its contract: the tests of the rule one after the other, each call giving one
-- of them. Assumes nothing.
use Rattle.std.proofs.Common.{◌≡◌, ap, sym, ◌∙◌, true, ℤ, pos, rules, of_z, to_z, w64}
use lib.Signed.{lt_z}
use mir.Facts.{to_z-of_z}
use mir.Val.{SFits}
use Rattle.whole.specs.Numbers.{eq_z}
use Rattle.whole.proofs.Tells.{tells-eq_z, tells-true, tells-false}
use Rattle.rules.specs.Evidence.{denominator_of}
use Rattle.parts.proofs.Laws.Read.{readable-of}
use Rattle.parts.proofs.Laws.Shown.{cannot-denominator, cannot-multipliers, cannot-columns, cannot-surplus}
use Rattle.parts.proofs.Laws.Shown.{cannot-plain, cannot-strict}
use Rattle.parts.proofs.Laws.Weights.{multiplied}
use Rattle.cannot.proofs.shows_cannot.Goals as goal

-- a number whose bits are 0
null : (z : ℤ) → SFits w64 z → of_z w64 z ≡ 0 → eq_z z (pos 0) ≡ true
null z f e = tells-true (tells-eq_z z (pos 0)) (sym (to_z-of_z f) ∙ ap (to_z w64) e)

pub returns-then-case-ne0 : goal.returns-then-case-ne0
returns-then-case-ne0 c =
    sym (cannot-denominator (readable-of c.args.case.now.in_ranges c.requires)
    (tells-false (tells-eq_z (denominator_of c.args.case.now.answer.now) (pos 0))
    (λ e. c.if-case-ne0.true (ap (of_z w64) e))))

pub returns-then-not-multipliers_fair : goal.returns-then-not-multipliers_fair
returns-then-not-multipliers_fair c =
    let f : SFits w64 (denominator_of c.args.case.now.answer.now) = search rules in
    sym (cannot-multipliers (readable-of c.args.case.now.in_ranges c.requires) (null _ f c.if-case-ne0.false)
    (sym c.multipliers_fair.ensures ∙ c.if-not-multipliers_fair.true))

pub columns_cancel-requires-clause-multiplied : goal.columns_cancel-requires-clause-multiplied
columns_cancel-requires-clause-multiplied c =
    multiplied _ _ _ (sym c.multipliers_fair.ensures ∙ c.if-not-multipliers_fair.false)

pub returns-then-not-columns_cancel : goal.returns-then-not-columns_cancel
returns-then-not-columns_cancel c =
    let f : SFits w64 (denominator_of c.args.case.now.answer.now) = search rules in
    sym (cannot-columns (readable-of c.args.case.now.in_ranges c.requires) (null _ f c.if-case-ne0.false)
    (sym c.multipliers_fair.ensures ∙ c.if-not-multipliers_fair.false)
    (sym c.columns_cancel.ensures ∙ c.if-not-columns_cancel.true))

pub surplus-total-requires-clause-multiplied : goal.surplus-total-requires-clause-multiplied
surplus-total-requires-clause-multiplied c =
    multiplied _ _ _ (sym c.multipliers_fair.ensures ∙ c.if-not-multipliers_fair.false)

-- ---- the total, which is 0 or not

pub returns-then-total-ne0 : goal.returns-then-total-ne0
returns-then-total-ne0 c =
    let f : SFits w64 (denominator_of c.args.case.now.answer.now) = search rules in
    let total : SFits w64 c.surplus-total.result = search rules in
    rw (to_z-of_z total)
    (ap (lt_z (pos 0)) c.surplus-total.ensures
    ∙ sym (cannot-surplus (readable-of c.args.case.now.in_ranges c.requires) (null _ f c.if-case-ne0.false)
    (sym c.multipliers_fair.ensures ∙ c.if-not-multipliers_fair.false)
    (sym c.columns_cancel.ensures ∙ c.if-not-columns_cancel.false)
    (tells-false (tells-eq_z _ (pos 0)) (λ e. c.if-total-ne0.true (ap (of_z w64) (c.surplus-total.ensures ∙ e))))))

pub returns-then-case : goal.returns-then-case
returns-then-case c =
    let f : SFits w64 (denominator_of c.args.case.now.answer.now) = search rules in
    let total : SFits w64 c.surplus-total.result = search rules in
    c.some_named.ensures
    ∙ sym (cannot-strict (readable-of c.args.case.now.in_ranges c.requires) (null _ f c.if-case-ne0.false)
    (sym c.multipliers_fair.ensures ∙ c.if-not-multipliers_fair.false)
    (sym c.columns_cancel.ensures ∙ c.if-not-columns_cancel.false)
    (ap (λ (z : ℤ). eq_z z (pos 0)) (sym c.surplus-total.ensures) ∙ null _ total c.if-total-ne0.false))

pub returns-else-case : goal.returns-else-case
returns-else-case c =
    let f : SFits w64 (denominator_of c.args.case.now.answer.now) = search rules in
    let total : SFits w64 c.surplus-total.result = search rules in
    c.if-case.false
    ∙ sym (cannot-plain (readable-of c.args.case.now.in_ranges c.requires) (null _ f c.if-case-ne0.false)
    (sym c.multipliers_fair.ensures ∙ c.if-not-multipliers_fair.false)
    (sym c.columns_cancel.ensures ∙ c.if-not-columns_cancel.false)
    (ap (λ (z : ℤ). eq_z z (pos 0)) (sym c.surplus-total.ensures) ∙ null _ total c.if-total-ne0.false) c.if-case.false)
