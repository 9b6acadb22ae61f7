-- `reader::numbers::numeral` meets its contract: the token is a number that may stand there, or the reading is halted
-- at it. Assumes nothing.
use Rattle.std.proofs.Common.{sym, ◌∙◌, ap, ap₂, arith, ℕ, ℤ, rules, Ok, w32}
use Rattle.std.proofs.lemmas.Result.{err_from_is_err_and}
use mir.Facts.{to_z-of_z}
use mir.Val.{SFits}
use Rattle.tokens.specs.Gaps.{start_at}
use Rattle.reader.specs.Numbers.{numeral_fit, numeral_on}
use Rattle.reader.proofs.Laws.Numbers.{admissible-most, numeral-nothing, numeral-out, numeral-told}
use Rattle.reader.proofs.numbers.numeral.Goals as goal

pub returns-then-text-at : goal.returns-then-text-at
unfolding numeral_on
returns-then-text-at c = sym (numeral-out c.args.text.now c.args.at c.args.below c.args.asked c.if-text-at.true)

pub returns-in_err-value : goal.returns-in_err-value
returns-in_err-value c =
    let a = c.args in
    let p = err_from_is_err_and c.from_residual.result c.from_residual.ensures.1 in
    rw (p.1, p.2)
    (numeral-nothing a.text.now a.at a.below a.asked c.if-text-at.false _ c.stop-end.ensures c.numeral.ensures
    (sym c.ok_or.ensures.value ∙ c.in_err-value.was))

pub returns-then-not-is_admissible : goal.returns-then-not-is_admissible
unfolding numeral_fit
returns-then-not-is_admissible c =
    let a = c.args in
    ap (numeral_fit a.text.now a.at a.below c.in_ok-value.value)
    (sym c.if-not-is_admissible.true ∙ c.is_admissible.ensures)
    ∙ numeral-told a.text.now a.at a.below a.asked c.if-text-at.false _ c.stop-end.ensures c.numeral.ensures
    (sym c.ok_or.ensures.value ∙ c.in_ok-value.was)

pub signed-requires : goal.signed-requires
signed-requires c =
    omega (
      arith,
      admissible-most c.in_ok-value.value c.args.below c.args.asked
          (sym c.is_admissible.ensures ∙ c.if-not-is_admissible.false),
      c.requires,
    )

pub returns : goal.returns
unfolding numeral_fit
returns c =
    let a = c.args in
    let fit : SFits w32 c.signed.result = search rules in
    ap₂ (λ (x : ℕ) (y : ℤ). Ok (record { value = y; at = x }))
    (c.start.ensures ∙ ap (start_at a.text.now) c.stop-end.ensures)
    (to_z-of_z fit ∙ c.signed.ensures)
    ∙ ap (numeral_fit a.text.now a.at a.below c.in_ok-value.value)
    (sym c.if-not-is_admissible.false ∙ c.is_admissible.ensures)
    ∙ numeral-told a.text.now a.at a.below a.asked c.if-text-at.false _ c.stop-end.ensures c.numeral.ensures
    (sym c.ok_or.ensures.value ∙ c.in_ok-value.was)
