-- `reader::rows::row` meets its contract. Assumes nothing.
use Rattle.std.proofs.Common.{sym, ◌∙◌, refl, Err}
use Rattle.std.proofs.lemmas.Result.{err_from_is_err_and}
use Rattle.rules.specs.Program.Text.{ascii}
use Rattle.rules.specs.Exchange.Script.{assert_row, close, end_assert, open_sum, row_name}
use Rattle.reader.specs.Course.{RowsAt}
use Rattle.reader.specs.Flow.{skip_if}
use Rattle.reader.proofs.Laws.Course.{reached, refused-at}
use Rattle.reader.proofs.Laws.Flow.{sum-halted}
use Rattle.reader.proofs.Laws.Steps.{row-begun, row_done, row-stands, sum-stands}
use Rattle.reader.proofs.rows.row.Goals as goal

pub returns-in_err-opened : goal.returns-in_err-opened
unfolding assert_row skip_if ascii
returns-in_err-opened c =
    let x = c.in_err-opened.field-0.0 in
    let p = err_from_is_err_and c.from_residual.result c.from_residual.ensures.1 in
    rw (p.1, p.2)
    (refused-at
    (row-begun c.requires.0 c.requires.1 {named = Err x} (sym c.in_err-opened.was ∙ c.follow.ensures) refl
    (sym (sum-halted c.args.text.now x _ _))).on-course refl)

pub returns-in_err-named : goal.returns-in_err-named
unfolding assert_row row_name ascii
returns-in_err-named c =
    let x = c.in_err-named.field-0.0 in
    let p = err_from_is_err_and c.from_residual-in_err-named.result c.from_residual-in_err-named.ensures.1 in
    rw (p.1, p.2)
    (refused-at
    (row-begun c.requires.0 c.requires.1
    (sym c.in_ok-opened.was ∙ c.follow.ensures) (sym c.in_err-named.was ∙ c.pass_name.ensures)
    (sym (sum-halted c.args.text.now x _ _))).on-course refl)

pub pass_sum-requires : goal.pass_sum-requires
unfolding assert_row row_name ascii
pass_sum-requires c =
    row-stands c.requires.0 c.requires.1
    (sym c.in_ok-opened.was ∙ c.follow.ensures) (sym c.in_ok-named.was ∙ c.pass_name.ensures)

pub returns-in_err-summed : goal.returns-in_err-summed
unfolding assert_row row_name open_sum ascii
returns-in_err-summed c =
    let p = err_from_is_err_and c.from_residual-in_err-summed.result c.from_residual-in_err-summed.ensures.1 in
    rw (p.1, p.2)
    (refused-at
    (row-begun c.requires.0 c.requires.1
    (sym c.in_ok-opened.was ∙ c.follow.ensures) (sym c.in_ok-named.was ∙ c.pass_name.ensures)
    (sym c.in_err-summed.was ∙ c.pass_sum.ensures)).on-course refl)

pub terms-requires : goal.terms-requires
unfolding assert_row row_name open_sum ascii
terms-requires c = (
  row-begun c.requires.0 c.requires.1
      (sym c.in_ok-opened.was ∙ c.follow.ensures) (sym c.in_ok-named.was ∙ c.pass_name.ensures)
      (sym c.in_ok-summed.was ∙ c.pass_sum.ensures),
  c.requires.1,
)

pub returns-in_err-closed : goal.returns-in_err-closed
unfolding close ascii
returns-in_err-closed c =
    let x = c.in_err-closed.field-0.0 in
    let p = err_from_is_err_and c.from_residual-in_err-closed.result c.from_residual-in_err-closed.ensures.1 in
    rw (p.1, p.2)
    (refused-at
    (row_done c.in_ok-told.ensures (sym c.in_err-closed.was ∙ c.pass_sum-2.ensures) {last = Err x} refl).on-course
    refl)

pub follow-requires-2 : goal.follow-requires-2
unfolding close ascii
follow-requires-2 c =
    let s = sum-stands c.in_ok-told.ensures
    (sym c.in_ok-closed.was ∙ c.pass_sum-2.ensures) in
    (s.inside _ refl, s.starts _ refl)

pub returns : goal.returns
unfolding close end_assert ascii
returns c =
    let r = row_done c.in_ok-told.ensures
    (sym c.in_ok-closed.was ∙ c.pass_sum-2.ensures) c.follow-2.ensures in
    reached (RowsAt _ _ _ _ _) c.follow-2.result r r.on-course
