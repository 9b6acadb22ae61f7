-- `reader::numbers::number` meets its contract: the next token tells whether the number is below 0. Assumes nothing.
use Rattle.std.proofs.Common.{sym, ◌∙◌, refl, rules, Err, w32}
use Rattle.std.proofs.lemmas.Result.{err_from_is_err_and}
use mir.Facts.{to_z-of_z}
use mir.Val.{SFits}
use Rattle.rules.specs.Program.Text.{ascii}
use Rattle.rules.specs.Exchange.Script.{close, open_minus}
use Rattle.reader.specs.Numbers.{numeral_on}
use Rattle.reader.proofs.Laws.Terms.{number-minus, number-plain, size-stands}
use Rattle.reader.proofs.numbers.number.Goals as goal

pub returns-then-not-is_next : goal.returns-then-not-is_next
unfolding ascii
returns-then-not-is_next c =
    number-plain c.requires.0 c.args.asked c.numeral.ensures
    (sym c.is_next.ensures ∙ c.if-not-is_next.true)

pub returns-in_err-opened : goal.returns-in_err-opened
unfolding open_minus ascii numeral_on
returns-in_err-opened c =
    let p = err_from_is_err_and c.from_residual.result c.from_residual.ensures.1 in
    let x = c.in_err-opened.field-0.0 in
    rw (p.1, p.2)
    (number-minus c.requires.0 c.args.asked {told = Err x} (sym c.in_err-opened.was ∙ c.follow.ensures) refl
    (Err x) refl (λ k q. refl) (sym c.is_next.ensures ∙ c.if-not-is_next.false))

pub returns-in_err-told : goal.returns-in_err-told
unfolding open_minus ascii
returns-in_err-told c =
    let p = err_from_is_err_and c.from_residual-in_err-told.result c.from_residual-in_err-told.ensures.1 in
    let x = c.in_err-told.field-0.0 in
    rw (p.1, p.2)
    (number-minus c.requires.0 c.args.asked (sym c.in_ok-opened.was ∙ c.follow.ensures)
    (sym c.in_err-told.was ∙ c.numeral-2.ensures) (Err x) refl (λ k q. refl)
    (sym c.is_next.ensures ∙ c.if-not-is_next.false))

pub follow-requires-2 : goal.follow-requires-2
unfolding open_minus ascii
follow-requires-2 c =
    let s = size-stands c.requires.0 c.args.asked (sym c.in_ok-opened.was ∙ c.follow.ensures)
    (sym c.in_ok-told.was ∙ c.numeral-2.ensures) in
    (s.inside _ refl, s.starts _ refl)

pub returns-in_err-closed : goal.returns-in_err-closed
unfolding open_minus close ascii
returns-in_err-closed c =
    let p = err_from_is_err_and c.from_residual-in_err-closed.result c.from_residual-in_err-closed.ensures.1 in
    let x = c.in_err-closed.field-0.0 in
    rw (p.1, p.2)
    (number-minus c.requires.0 c.args.asked (sym c.in_ok-opened.was ∙ c.follow.ensures)
    (sym c.in_ok-told.was ∙ c.numeral-2.ensures)
    (Err x) (sym c.in_err-closed.was ∙ c.follow-2.ensures) (λ k q. cc)
    (sym c.is_next.ensures ∙ c.if-not-is_next.false))

pub returns : goal.returns
unfolding open_minus close ascii
returns c =
    let fit : SFits w32 c.in_ok-told.told.value = search rules in
    number-minus c.requires.0 c.args.asked (sym c.in_ok-opened.was ∙ c.follow.ensures)
    (sym c.in_ok-told.was ∙ c.numeral-2.ensures)
    _ (sym c.in_ok-closed.was ∙ c.follow-2.ensures) (λ k q. to_z-of_z fit)
    (sym c.is_next.ensures ∙ c.if-not-is_next.false)
