-- `reader::sizes::declaration` meets its contract: a column or a row more. Assumes nothing.
use Rattle.std.proofs.Common.{sym, ◌∙◌, refl, arith}
use Rattle.std.proofs.lemmas.Result.{err_from_is_err_and}
use Rattle.rules.specs.Program.Text.{ascii}
use Rattle.rules.specs.Exchange.Script.{column_name, declare_const, row_name}
use Rattle.reader.proofs.Laws.Course.{refused-at}
use Rattle.reader.proofs.Laws.Steps.{name-reads, one-column, one-row}
use Rattle.reader.proofs.sizes.declaration.Goals as goal

pub returns-in_err-opened-clause-declared : goal.returns-in_err-opened-clause-declared
unfolding declare_const ascii
returns-in_err-opened-clause-declared c =
    let p = err_from_is_err_and c.from_residual.result c.from_residual.ensures.1 in
    rw (p.1, p.2)
    (refused-at
    (name-reads c.requires.0 c.requires.1 (sym c.in_err-opened.was ∙ c.follow.ensures)) refl)

pub named_real-requires : goal.named_real-requires
unfolding declare_const ascii
named_real-requires c =
    (name-reads c.requires.0 c.requires.1 (sym c.in_ok-opened.was ∙ c.follow.ensures)).stands

pub returns-in_err-at-clause-declared : goal.returns-in_err-at-clause-declared
unfolding declare_const column_name ascii
returns-in_err-at-clause-declared c =
    let p = err_from_is_err_and c.from_residual-in_err-at.result c.from_residual-in_err-at.ensures.1 in
    rw (p.1, p.2)
    (refused-at
    (one-column c.requires.0 c.requires.1 (sym c.in_ok-opened.was ∙ c.follow.ensures)
    (sym c.is_column.ensures ∙ c.if-is_column.true) (sym c.in_err-at.was ∙ c.named_real.ensures) _
    refl).on-course refl)

pub returns-then-is_column-clause-declared : goal.returns-then-is_column-clause-declared
unfolding declare_const column_name ascii
returns-then-is_column-clause-declared c =
    one-column c.requires.0 c.requires.1 (sym c.in_ok-opened.was ∙ c.follow.ensures)
    (sym c.is_column.ensures ∙ c.if-is_column.true) (sym c.in_ok-at.was ∙ c.named_real.ensures) _
    (omega arith)

pub named_real-requires-2 : goal.named_real-requires-2
unfolding declare_const ascii
named_real-requires-2 c =
    (name-reads c.requires.0 c.requires.1 (sym c.in_ok-opened.was ∙ c.follow.ensures)).stands

pub returns-in_err-at-2-clause-declared : goal.returns-in_err-at-2-clause-declared
unfolding declare_const column_name row_name ascii
returns-in_err-at-2-clause-declared c =
    let p = err_from_is_err_and c.from_residual-in_err-at-2.result c.from_residual-in_err-at-2.ensures.1 in
    rw (p.1, p.2)
    (refused-at
    (one-row c.requires.0 c.requires.1 (sym c.in_ok-opened.was ∙ c.follow.ensures)
    (sym c.is_column.ensures ∙ c.if-is_column.false) (sym c.in_err-at-2.was ∙ c.named_real-2.ensures) _
    refl).on-course refl)

pub returns-clause-declared : goal.returns-clause-declared
unfolding declare_const column_name row_name ascii
returns-clause-declared c =
    one-row c.requires.0 c.requires.1 (sym c.in_ok-opened.was ∙ c.follow.ensures)
    (sym c.is_column.ensures ∙ c.if-is_column.false)
    (sym c.in_ok-at-2.was ∙ c.named_real-2.ensures) _
    (omega arith)
