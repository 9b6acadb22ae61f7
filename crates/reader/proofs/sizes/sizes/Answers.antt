-- `reader::sizes::sizes` meets its contract. Assumes nothing.
use Rattle.std.proofs.Common.{sym, ◌∙◌, refl, Err}
use Rattle.std.proofs.lemmas.Result.{err_from_is_err_and}
use Rattle.rules.specs.Program.Text.{ascii}
use Rattle.rules.specs.Exchange.Script.{column_name, declare_const, set_logic}
use Rattle.reader.proofs.Laws.Course.{refused-at}
use Rattle.reader.proofs.Laws.Steps.{first-declared, first_reads, logic-reads, opened-reads}
use Rattle.reader.proofs.sizes.sizes.Goals as goal

pub follow-requires : goal.follow-requires
follow-requires c =
    let s = (first_reads c.start.ensures).stands in
    (s.inside _ refl, s.starts _ refl)

pub returns-in_err-logic : goal.returns-in_err-logic
unfolding set_logic ascii
returns-in_err-logic c =
    let x = c.in_err-logic.field-0.0 in
    let p = err_from_is_err_and c.from_residual.result c.from_residual.ensures.1 in
    rw (p.1, p.2)
    (refused-at
    (logic-reads c.start.ensures {opened = Err x} (sym c.in_err-logic.was ∙ c.follow.ensures) refl)
    refl)

pub follow-requires-2 : goal.follow-requires-2
unfolding set_logic declare_const ascii
follow-requires-2 c =
    let s = (logic-reads c.start.ensures (sym c.in_ok-logic.was ∙ c.follow.ensures) refl).stands in
    (s.inside _ refl, s.starts _ refl)

pub returns-in_err-opened : goal.returns-in_err-opened
unfolding set_logic declare_const ascii
returns-in_err-opened c =
    let p = err_from_is_err_and c.from_residual-in_err-opened.result c.from_residual-in_err-opened.ensures.1 in
    rw (p.1, p.2)
    (refused-at
    (opened-reads c.start.ensures
    (sym c.in_ok-logic.was ∙ c.follow.ensures) (sym c.in_err-opened.was ∙ c.follow-2.ensures)) refl)

pub named_real-requires : goal.named_real-requires
unfolding set_logic declare_const ascii
named_real-requires c =
    (opened-reads c.start.ensures
    (sym c.in_ok-logic.was ∙ c.follow.ensures) (sym c.in_ok-opened.was ∙ c.follow-2.ensures)).stands

pub returns-in_err-at : goal.returns-in_err-at
unfolding set_logic declare_const column_name ascii
returns-in_err-at c =
    let p = err_from_is_err_and c.from_residual-in_err-at.result c.from_residual-in_err-at.ensures.1 in
    rw (p.1, p.2)
    (refused-at
    (first-declared c.start.ensures
    (sym c.in_ok-logic.was ∙ c.follow.ensures) (sym c.in_ok-opened.was ∙ c.follow-2.ensures)
    (sym c.in_err-at.was ∙ c.named_real.ensures)).on-course refl)

pub declarations-requires : goal.declarations-requires
unfolding set_logic declare_const column_name ascii
declarations-requires c =
    first-declared c.start.ensures
    (sym c.in_ok-logic.was ∙ c.follow.ensures) (sym c.in_ok-opened.was ∙ c.follow-2.ensures)
    (sym c.in_ok-at.was ∙ c.named_real.ensures)
