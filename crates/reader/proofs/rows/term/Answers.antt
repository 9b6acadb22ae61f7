-- `reader::rows::term` meets its contract. Assumes nothing.
use Rattle.std.proofs.Common.{sym, ◌∙◌, refl, rules, Err, w32, arith}
use Rattle.std.proofs.lemmas.Result.{err_from_is_err_and}
use mir.Facts.{to_z-of_z}
use mir.Val.{SFits}
use Rattle.rules.specs.Program.Text.{ascii}
use Rattle.rules.specs.Exchange.Script.{close, column_name, open_term}
use Rattle.reader.specs.Flow.{skip_if}
use Rattle.reader.proofs.Laws.Terms.{number-halted, term-named, term-opened, term_told}
use Rattle.reader.proofs.rows.term.Goals as goal

pub returns-in_err-opened : goal.returns-in_err-opened
unfolding open_term skip_if ascii
returns-in_err-opened c =
    let p = err_from_is_err_and c.from_residual.result c.from_residual.ensures.1 in
    let x = c.in_err-opened.field-0.0 in
    rw (p.1, p.2)
    (term_told c.requires c.args.column c.args.blank
    (sym c.in_err-opened.was ∙ c.follow.ensures) (number-halted _ x _) {named = Err x} refl (Err x) refl (λ k q. refl))

pub number-requires : goal.number-requires
unfolding open_term ascii
number-requires c = (
  term-opened c.requires c.args.column c.args.blank
      (sym c.in_ok-opened.was ∙ c.follow.ensures),
  omega arith,
)

pub returns-in_err-told : goal.returns-in_err-told
unfolding open_term skip_if ascii
returns-in_err-told c =
    let p = err_from_is_err_and c.from_residual-in_err-told.result c.from_residual-in_err-told.ensures.1 in
    let x = c.in_err-told.field-0.0 in
    rw (p.1, p.2)
    (term_told c.requires c.args.column c.args.blank
    (sym c.in_ok-opened.was ∙ c.follow.ensures) c.in_err-told.ensures {named = Err x} refl (Err x) refl
    (λ k q. refl))

pub returns-in_err-named : goal.returns-in_err-named
unfolding open_term column_name ascii
returns-in_err-named c =
    let p = err_from_is_err_and c.from_residual-in_err-named.result c.from_residual-in_err-named.ensures.1 in
    let x = c.in_err-named.field-0.0 in
    rw (p.1, p.2)
    (term_told c.requires c.args.column c.args.blank
    (sym c.in_ok-opened.was ∙ c.follow.ensures) c.in_ok-told.ensures
    (sym c.in_err-named.was ∙ c.pass_name.ensures) (Err x) refl (λ k q. cc))

pub follow-requires-2 : goal.follow-requires-2
unfolding open_term column_name ascii
follow-requires-2 c =
    let s = term-named c.requires c.args.column c.args.blank
    (sym c.in_ok-opened.was ∙ c.follow.ensures) c.in_ok-told.ensures (sym c.in_ok-named.was ∙ c.pass_name.ensures) in
    (s.inside _ refl, s.starts _ refl)

pub returns-in_err-closed : goal.returns-in_err-closed
unfolding open_term column_name close ascii
returns-in_err-closed c =
    let p = err_from_is_err_and c.from_residual-in_err-closed.result c.from_residual-in_err-closed.ensures.1 in
    let x = c.in_err-closed.field-0.0 in
    rw (p.1, p.2)
    (term_told c.requires c.args.column c.args.blank
    (sym c.in_ok-opened.was ∙ c.follow.ensures) c.in_ok-told.ensures
    (sym c.in_ok-named.was ∙ c.pass_name.ensures) (Err x) (sym c.in_err-closed.was ∙ c.follow-2.ensures) (λ k q. cc))

pub returns : goal.returns
unfolding open_term column_name close ascii
returns c =
    let fit : SFits w32 c.in_ok-told.told.value = search rules in
    term_told c.requires c.args.column c.args.blank
    (sym c.in_ok-opened.was ∙ c.follow.ensures) c.in_ok-told.ensures
    (sym c.in_ok-named.was ∙ c.pass_name.ensures) _ (sym c.in_ok-closed.was ∙ c.follow-2.ensures)
    (λ k q. to_z-of_z fit)
