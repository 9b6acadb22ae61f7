-- `wide::can::shows_can` meets its contract: the tests of the rule one after the other. Assumes nothing.
use Rattle.std.proofs.Common.{ap, refl, sym, ◌∙◌, ◌+◌, ℤ, arith}
use lib.Dec.{lit≤}
use Rattle.whole.specs.Numbers.{is_pos}
use Rattle.limbs.proofs.Laws.Sizes.{sized-le}
use Rattle.limbs.proofs.Laws.Stands.{stands-is}
use Rattle.wide.specs.Reads.{limits_met}
use Rattle.wide.proofs.Laws.Reads.{formed-less, stands-in}
use Rattle.wide.proofs.Laws.Shown.{can-tests}
use Rattle.wide.proofs.can.shows_can.Goals as goal

pub is_above-requires : goal.is_above-requires
is_above-requires c =
    let common = stands-is c.number_at-common.ensures (stands-in c.requires.all_formed 0 (omega arith)) in
    sized-le common.size (lit≤ tt)

pub returns-then-not-is_above : goal.returns-then-not-is_above
returns-then-not-is_above c =
    let case = c.args.case.now in
    let common = stands-is c.number_at-common.ensures (stands-in c.requires.all_formed 0 (omega arith)) in
    sym (can-tests case.entries.now case.limits.now case.rows case.columns case.answer.now
    ∙ rw (sym (c.is_above.ensures ∙ ap is_pos common.number) ∙ c.if-not-is_above.true) refl)

pub rows_hold-requires-clause-all_formed : goal.rows_hold-requires-clause-all_formed
rows_hold-requires-clause-all_formed c =
    formed-less c.requires.all_formed (1 + (c.args.case.now.columns + c.args.case.now.rows)) (omega arith)

pub returns-then-not-rows_hold : goal.returns-then-not-rows_hold
returns-then-not-rows_hold c =
    let case = c.args.case.now in
    let common = stands-is c.number_at-common.ensures (stands-in c.requires.all_formed 0 (omega arith)) in
    sym (can-tests case.entries.now case.limits.now case.rows case.columns case.answer.now
    ∙ rw (
      sym (c.is_above.ensures ∙ ap is_pos common.number) ∙ c.if-not-is_above.false,
      sym c.rows_hold.ensures ∙ c.if-not-rows_hold.true,
    ) refl)

pub rows_hold-requires-2-clause-all_formed : goal.rows_hold-requires-2-clause-all_formed
rows_hold-requires-2-clause-all_formed c =
    let N = c.args.case.now.columns + c.args.case.now.rows in
    formed-less c.requires.all_formed (1 + N + N) (omega arith)

pub returns-then-not-rows_hold-2 : goal.returns-then-not-rows_hold-2
returns-then-not-rows_hold-2 c =
    let case = c.args.case.now in
    let common = stands-is c.number_at-common.ensures (stands-in c.requires.all_formed 0 (omega arith)) in
    sym (can-tests case.entries.now case.limits.now case.rows case.columns case.answer.now
    ∙ rw (
      sym (c.is_above.ensures ∙ ap is_pos common.number) ∙ c.if-not-is_above.false,
      sym c.rows_hold.ensures ∙ c.if-not-rows_hold.false,
      sym c.rows_hold-2.ensures ∙ c.if-not-rows_hold-2.true,
    ) refl)

pub limits_hold-requires-clause-limbs_within : goal.limits_hold-requires-clause-limbs_within
limits_hold-requires-clause-limbs_within c =
    let common = stands-is c.number_at-common.ensures (stands-in c.requires.all_formed 0 (omega arith)) in
    common.size

pub returns : goal.returns
returns c =
    let case = c.args.case.now in
    let common = stands-is c.number_at-common.ensures (stands-in c.requires.all_formed 0 (omega arith)) in
    let N = case.columns + case.rows in
    c.limits_hold.ensures
    ∙ ap (λ (d : ℤ). limits_met case.limits.now case.answer.now N d N) common.number
    ∙ sym (can-tests case.entries.now case.limits.now case.rows case.columns case.answer.now
    ∙ rw (
      sym (c.is_above.ensures ∙ ap is_pos common.number) ∙ c.if-not-is_above.false,
      sym c.rows_hold.ensures ∙ c.if-not-rows_hold.false,
      sym c.rows_hold-2.ensures ∙ c.if-not-rows_hold-2.false,
    ) refl)
