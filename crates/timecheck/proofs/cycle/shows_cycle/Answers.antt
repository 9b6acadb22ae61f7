-- `timecheck::cycle::shows_cycle` meets its contract: the tests of the rule one after the other. Assumes nothing.
use Rattle.std.proofs.Common.{refl, sym, ◌∙◌, ap, ap₂, ◌||◌, suc, ◌+◌, ◌*◌, ◌-◌, pos, ltb}
use Rattle.std.proofs.Common.{w64, rules}
use mir.Facts.{to_z-of_z}
use mir.Val.{SFits}
use Rattle.whole.specs.Below.{all_below}
use Rattle.whole.specs.Numbers.{eq_z}
use Rattle.rules.specs.Problem.{word}
use Rattle.timecheck.specs.Walk.{bad_round, linked_at, new_up_to, word_sum}
use Rattle.timecheck.proofs.Laws.RowsTold.{RowsTold, rows-known, cycle-tests, names-told, outside-told, rows-told}
use Rattle.timecheck.proofs.Laws.Cycles.{by-outside, by_rows_lem, stricts-summed}
use Rattle.timecheck.proofs.cycle.shows_cycle.Goals as goal

pub returns-then-is_outside : goal.returns-then-is_outside
returns-then-is_outside c =
    sym (by-outside _ _ (sym (outside-told c.args.rows.now.fine c.args.answer.now (search rules) c.is_outside.ensures
    c.n-n.ensures) ∙ c.if-is_outside.true))

pub returns-then-not-rows_named : goal.returns-then-not-rows_named
returns-then-not-rows_named c =
    let ws = c.args.rows.now.words.now in
    let a = c.args.answer.now in
    let fit : SFits w64 (word a 1) = search rules in
    let inside =
    sym (outside-told c.args.rows.now.fine a fit c.is_outside.ensures c.n-n.ensures) ∙ c.if-is_outside.false in
    sym (by_rows_lem ws a inside (sym (rows-told c.args.rows.now.fine a fit c.unsigned_abs-count.ensures.value
    c.rows_named.ensures c.m.ensures) ∙ c.if-not-rows_named.true))

pub invariant_of-cycle : goal.invariant_of-cycle
invariant_of-cycle c =
    let ws = c.args.rows.now.words.now in
    let a = c.args.answer.now in
    let b : RowsTold ws a c.unsigned_abs-count.result =
    rows-known c.args.rows.now.fine c.args.answer.now (search rules) c.is_outside.ensures c.n-n.ensures
    c.if-is_outside.false c.unsigned_abs-count.ensures.value c.rows_named.ensures c.m.ensures
    c.if-not-rows_named.false in
    record { named = names-told c.args.rows.now.fine c.requires b }

pub returns-then-not-all_linked : goal.returns-then-not-all_linked
returns-then-not-all_linked c =
    let ws = c.args.rows.now.words.now in
    let a = c.args.answer.now in
    let b : RowsTold ws a c.unsigned_abs-count.result =
    rows-known c.args.rows.now.fine c.args.answer.now (search rules) c.is_outside.ensures c.n-n.ensures
    c.if-is_outside.false c.unsigned_abs-count.ensures.value c.rows_named.ensures c.m.ensures
    c.if-not-rows_named.false in
    sym (cycle-tests c.args.rows.now.fine c.requires b
    ∙ rw (sym (c.all_linked.ensures ∙ ap (λ k. all_below (k - 1) (λ j. linked_at ws a j (suc j))) b.count-is)
    ∙ c.if-not-all_linked.true) refl)

pub returns-then-not-is_linked : goal.returns-then-not-is_linked
returns-then-not-is_linked c =
    let ws = c.args.rows.now.words.now in
    let a = c.args.answer.now in
    let b : RowsTold ws a c.unsigned_abs-count.result =
    rows-known c.args.rows.now.fine c.args.answer.now (search rules) c.is_outside.ensures c.n-n.ensures
    c.if-is_outside.false c.unsigned_abs-count.ensures.value c.rows_named.ensures c.m.ensures
    c.if-not-rows_named.false in
    sym (cycle-tests c.args.rows.now.fine c.requires b
    ∙ rw (
      sym (c.all_linked.ensures ∙ ap (λ k. all_below (k - 1) (λ j. linked_at ws a j (suc j))) b.count-is)
          ∙ c.if-not-all_linked.false,
      sym (c.is_linked.ensures ∙ ap (λ k. linked_at ws a (k - 1) 0) b.count-is) ∙ c.if-not-is_linked.true,
    ) refl)

pub returns-then-not-all_new : goal.returns-then-not-all_new
returns-then-not-all_new c =
    let ws = c.args.rows.now.words.now in
    let a = c.args.answer.now in
    let b : RowsTold ws a c.unsigned_abs-count.result =
    rows-known c.args.rows.now.fine c.args.answer.now (search rules) c.is_outside.ensures c.n-n.ensures
    c.if-is_outside.false c.unsigned_abs-count.ensures.value c.rows_named.ensures c.m.ensures
    c.if-not-rows_named.false in
    sym (cycle-tests c.args.rows.now.fine c.requires b
    ∙ rw (
      sym (c.all_linked.ensures ∙ ap (λ k. all_below (k - 1) (λ j. linked_at ws a j (suc j))) b.count-is)
          ∙ c.if-not-all_linked.false,
      sym (c.is_linked.ensures ∙ ap (λ k. linked_at ws a (k - 1) 0) b.count-is) ∙ c.if-not-is_linked.false,
      sym (c.all_new.ensures ∙ ap (λ k. all_below k (λ j. new_up_to ws a j j)) b.count-is) ∙ c.if-not-all_new.true,
    ) refl)

pub word_sum-requires-2 : goal.word_sum-requires-2
word_sum-requires-2 c = stricts-summed _ c.args.rows.now.fine

pub returns-then-not-is_bad : goal.returns-then-not-is_bad
returns-then-not-is_bad c =
    let ws = c.args.rows.now.words.now in
    let a = c.args.answer.now in
    let b : RowsTold ws a c.unsigned_abs-count.result =
    rows-known c.args.rows.now.fine c.args.answer.now (search rules) c.is_outside.ensures c.n-n.ensures
    c.if-is_outside.false c.unsigned_abs-count.ensures.value c.rows_named.ensures c.m.ensures
    c.if-not-rows_named.false in
    let plain : SFits w64 c.word_sum.result = search rules in
    let strict : SFits w64 c.word_sum-2.result = search rules in
    sym (cycle-tests c.args.rows.now.fine c.requires b
    ∙ rw (
      sym (c.all_linked.ensures ∙ ap (λ k. all_below (k - 1) (λ j. linked_at ws a j (suc j))) b.count-is)
          ∙ c.if-not-all_linked.false,
      sym (c.is_linked.ensures ∙ ap (λ k. linked_at ws a (k - 1) 0) b.count-is) ∙ c.if-not-is_linked.false,
      sym (c.all_new.ensures ∙ ap (λ k. all_below k (λ j. new_up_to ws a j j)) b.count-is) ∙ c.if-not-all_new.false,
      sym (c.is_bad.ensures
          ∙ ap₂ bad_round (to_z-of_z plain ∙ c.word_sum.ensures ∙ ap (word_sum ws a 5) b.count-is)
          (to_z-of_z strict ∙ c.word_sum-2.ensures ∙ ap (word_sum ws a 4) b.count-is)) ∙ c.if-not-is_bad.true,
    ) refl)

pub returns : goal.returns
returns c =
    let ws = c.args.rows.now.words.now in
    let a = c.args.answer.now in
    let b : RowsTold ws a c.unsigned_abs-count.result =
    rows-known c.args.rows.now.fine c.args.answer.now (search rules) c.is_outside.ensures c.n-n.ensures
    c.if-is_outside.false c.unsigned_abs-count.ensures.value c.rows_named.ensures c.m.ensures
    c.if-not-rows_named.false in
    let plain : SFits w64 c.word_sum.result = search rules in
    let strict : SFits w64 c.word_sum-2.result = search rules in
    c.zeros_after.ensures
    ∙ ap₂ (λ n k. all_below (2 * n) (λ j. ltb j k || eq_z (word a (2 + j)) (pos 0))) c.n-n.ensures b.count-is
    ∙ sym (cycle-tests c.args.rows.now.fine c.requires b
    ∙ rw (
      sym (c.all_linked.ensures ∙ ap (λ k. all_below (k - 1) (λ j. linked_at ws a j (suc j))) b.count-is)
          ∙ c.if-not-all_linked.false,
      sym (c.is_linked.ensures ∙ ap (λ k. linked_at ws a (k - 1) 0) b.count-is) ∙ c.if-not-is_linked.false,
      sym (c.all_new.ensures ∙ ap (λ k. all_below k (λ j. new_up_to ws a j j)) b.count-is) ∙ c.if-not-all_new.false,
      sym (c.is_bad.ensures
          ∙ ap₂ bad_round (to_z-of_z plain ∙ c.word_sum.ensures ∙ ap (word_sum ws a 5) b.count-is)
          (to_z-of_z strict ∙ c.word_sum-2.ensures ∙ ap (word_sum ws a 4) b.count-is)) ∙ c.if-not-is_bad.false,
    ) refl)
