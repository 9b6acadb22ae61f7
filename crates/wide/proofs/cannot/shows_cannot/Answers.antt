-- `wide::cannot::shows_cannot` meets its contract: the tests of the rule one after the other. Assumes nothing.
use Rattle.std.proofs.Common.{ap, refl, sym, ◌∙◌, ◌+◌, ℤ, pos, arith}
use lib.Dec.{lit≤}
use Rattle.whole.specs.Numbers.{eq_z, is_pos}
use Rattle.limbs.proofs.Laws.Sizes.{sized-le}
use Rattle.limbs.proofs.Laws.Stands.{stands-is}
use Rattle.wide.specs.Reads.{some_marked, surplus_in}
use Rattle.wide.proofs.Laws.Reads.{stands-in}
use Rattle.wide.proofs.Laws.Shown.{cannot-tests, contradicts-above, contradicts-not, contradicts-zero}
use Rattle.wide.proofs.cannot.shows_cannot.Goals as goal

pub is_zero-requires : goal.is_zero-requires
is_zero-requires c =
    let common = stands-is c.number_at-common.ensures (stands-in c.requires.all_formed 0 (omega arith)) in
    sized-le common.size (lit≤ tt)

pub returns-then-not-is_zero : goal.returns-then-not-is_zero
returns-then-not-is_zero c =
    let case = c.args.case.now in
    let common = stands-is c.number_at-common.ensures (stands-in c.requires.all_formed 0 (omega arith)) in
    sym (cannot-tests case.entries.now case.limits.now case.rows case.columns case.answer.now
    ∙ rw (sym (c.is_zero.ensures ∙ ap (λ (z : ℤ). eq_z z (pos 0)) common.number) ∙ c.if-not-is_zero.true) refl)

pub returns-then-not-multipliers_owed : goal.returns-then-not-multipliers_owed
returns-then-not-multipliers_owed c =
    let case = c.args.case.now in
    let common = stands-is c.number_at-common.ensures (stands-in c.requires.all_formed 0 (omega arith)) in
    sym (cannot-tests case.entries.now case.limits.now case.rows case.columns case.answer.now
    ∙ rw (
      sym (c.is_zero.ensures ∙ ap (λ (z : ℤ). eq_z z (pos 0)) common.number) ∙ c.if-not-is_zero.false,
      sym c.multipliers_owed.ensures ∙ c.if-not-multipliers_owed.true,
    ) refl)

pub returns-then-not-columns_cancel : goal.returns-then-not-columns_cancel
returns-then-not-columns_cancel c =
    let case = c.args.case.now in
    let common = stands-is c.number_at-common.ensures (stands-in c.requires.all_formed 0 (omega arith)) in
    sym (cannot-tests case.entries.now case.limits.now case.rows case.columns case.answer.now
    ∙ rw (
      sym (c.is_zero.ensures ∙ ap (λ (z : ℤ). eq_z z (pos 0)) common.number) ∙ c.if-not-is_zero.false,
      sym c.multipliers_owed.ensures ∙ c.if-not-multipliers_owed.false,
      sym c.columns_cancel.ensures ∙ c.if-not-columns_cancel.true,
    ) refl)

pub is_above-requires : goal.is_above-requires
is_above-requires c = sized-le c.surplus-total.ensures.size (lit≤ tt)

pub returns-then-is_above : goal.returns-then-is_above
returns-then-is_above c =
    let case = c.args.case.now in
    let common = stands-is c.number_at-common.ensures (stands-in c.requires.all_formed 0 (omega arith)) in
    let N = case.columns + case.rows in
    let total = surplus_in case.limits.now case.answer.now N N in
    let marked = some_marked case.limits.now case.answer.now N N in
    sym (cannot-tests case.entries.now case.limits.now case.rows case.columns case.answer.now
    ∙ rw (
      sym (c.is_zero.ensures ∙ ap (λ (z : ℤ). eq_z z (pos 0)) common.number) ∙ c.if-not-is_zero.false,
      sym c.multipliers_owed.ensures ∙ c.if-not-multipliers_owed.false,
      sym c.columns_cancel.ensures ∙ c.if-not-columns_cancel.false,
    ) (contradicts-above total marked (sym (c.is_above.ensures ∙ ap is_pos c.surplus-total.ensures.number)
    ∙ c.if-is_above.true)))

pub is_zero-requires-2 : goal.is_zero-requires-2
is_zero-requires-2 c = sized-le c.surplus-total.ensures.size (lit≤ tt)

pub returns-then-not-is_zero-2 : goal.returns-then-not-is_zero-2
returns-then-not-is_zero-2 c =
    let case = c.args.case.now in
    let common = stands-is c.number_at-common.ensures (stands-in c.requires.all_formed 0 (omega arith)) in
    let N = case.columns + case.rows in
    let total = surplus_in case.limits.now case.answer.now N N in
    let marked = some_marked case.limits.now case.answer.now N N in
    sym (cannot-tests case.entries.now case.limits.now case.rows case.columns case.answer.now
    ∙ rw (
      sym (c.is_zero.ensures ∙ ap (λ (z : ℤ). eq_z z (pos 0)) common.number) ∙ c.if-not-is_zero.false,
      sym c.multipliers_owed.ensures ∙ c.if-not-multipliers_owed.false,
      sym c.columns_cancel.ensures ∙ c.if-not-columns_cancel.false,
    ) (contradicts-not total marked (sym (c.is_above.ensures ∙ ap is_pos c.surplus-total.ensures.number)
    ∙ c.if-is_above.false)
    (sym (c.is_zero-2.ensures ∙ ap (λ (z : ℤ). eq_z z (pos 0)) c.surplus-total.ensures.number)
    ∙ c.if-not-is_zero-2.true)))

pub returns : goal.returns
returns c =
    let case = c.args.case.now in
    let common = stands-is c.number_at-common.ensures (stands-in c.requires.all_formed 0 (omega arith)) in
    let N = case.columns + case.rows in
    let total = surplus_in case.limits.now case.answer.now N N in
    let marked = some_marked case.limits.now case.answer.now N N in
    c.some_named.ensures
    ∙ sym (cannot-tests case.entries.now case.limits.now case.rows case.columns case.answer.now
    ∙ rw (
      sym (c.is_zero.ensures ∙ ap (λ (z : ℤ). eq_z z (pos 0)) common.number) ∙ c.if-not-is_zero.false,
      sym c.multipliers_owed.ensures ∙ c.if-not-multipliers_owed.false,
      sym c.columns_cancel.ensures ∙ c.if-not-columns_cancel.false,
    ) (contradicts-zero total marked (sym (c.is_above.ensures ∙ ap is_pos c.surplus-total.ensures.number)
    ∙ c.if-is_above.false)
    (sym (c.is_zero-2.ensures ∙ ap (λ (z : ℤ). eq_z z (pos 0)) c.surplus-total.ensures.number)
    ∙ c.if-not-is_zero-2.false)))
