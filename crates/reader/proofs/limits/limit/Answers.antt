-- `reader::limits::limit` meets its contract: a limit is read and its words are set, or its relation, its name, its
-- number or its end is none that may stand there. Assumes nothing.
use Rattle.std.proofs.Common.{◌≡◌, ℕ, Bool, true, false, sym, ◌∙◌, refl, Ok, Err, arith, rules, w32}
use Rattle.std.proofs.lemmas.Result.{err_from_is_err_and}
use mir.Facts.{to_z-of_z}
use mir.Val.{SFits, bool_byte}
use Rattle.rules.specs.Program.Text.{ascii}
use Rattle.rules.specs.Exchange.Script.{assert_limit, end_assert}
use Rattle.reader.specs.Limits.{side_number}
use Rattle.reader.proofs.Laws.Course.{refused-at}
use Rattle.reader.proofs.Laws.Limited.{bound-refused, limit-left, limited-at, limited-more, named-on, opened-on}
use Rattle.reader.proofs.Laws.Limited.{place-room, relation-refused, variable-refused, named-refused}
use Rattle.reader.proofs.limits.limit.Goals as goal

side-is : (upper : Bool) {k : ℕ} → k ≡ bool_byte upper → k ≡ side_number upper
unfolding side_number
side-is true e = e
side-is false e = e

pub returns-in_err-opened-clause-limited : goal.returns-in_err-opened-clause-limited
unfolding assert_limit ascii
returns-in_err-opened-clause-limited c =
    let p = err_from_is_err_and c.from_residual.result c.from_residual.ensures.1 in
    rw (p.1, p.2)
    (refused-at
    (opened-on c.requires.0 c.requires.1 (sym c.in_err-opened.was ∙ c.follow.ensures)) refl)

pub relation-requires : goal.relation-requires
unfolding assert_limit ascii
relation-requires c =
    let f = c.requires.0.held.few in (
      (opened-on c.requires.0 c.requires.1 (sym c.in_ok-opened.was ∙ c.follow.ensures)).stands,
      limit-left c.requires.0 c.requires.1,
      omega (arith, f.n-most, f.m-most),
    )

pub returns-in_err-told-clause-limited : goal.returns-in_err-told-clause-limited
unfolding assert_limit ascii
returns-in_err-told-clause-limited c =
    let p = err_from_is_err_and c.from_residual-in_err-told.result c.from_residual-in_err-told.ensures.1 in
    rw (p.1, p.2)
    (relation-refused c.requires.0 c.requires.1 (sym c.in_ok-opened.was ∙ c.follow.ensures) c.in_err-told.ensures)

pub returns-in_default-clause-limited : goal.returns-in_default-clause-limited
unfolding assert_limit ascii
returns-in_default-clause-limited c =
    variable-refused c.requires.0 c.requires.1 (sym c.in_ok-opened.was ∙ c.follow.ensures) c.in_ok-told.ensures
    (side-is c.in_ok-told.told.upper c.from-side.ensures) c.in_default.ensures

pub returns-in_err-named-clause-limited : goal.returns-in_err-named-clause-limited
unfolding assert_limit ascii
returns-in_err-named-clause-limited c =
    let p = err_from_is_err_and c.from_residual-in_err-named.result c.from_residual-in_err-named.ensures.1 in
    rw (p.1, p.2)
    (named-refused c.requires.0 c.requires.1 (sym c.in_ok-opened.was ∙ c.follow.ensures) c.in_ok-told.ensures
    (side-is c.in_ok-told.told.upper c.from-side.ensures) c.in-Some.ensures.0 c.in-Some.ensures.1
    (sym c.in_err-named.was ∙ c.skip_if.ensures) refl)

pub number-requires : goal.number-requires
unfolding assert_limit ascii
number-requires c = (
  (named-on c.requires.0 c.requires.1 (sym c.in_ok-opened.was ∙ c.follow.ensures) c.in_ok-told.ensures
      (side-is c.in_ok-told.told.upper c.from-side.ensures) c.in-Some.ensures.0 c.in-Some.ensures.1
      (sym c.in_ok-named.was ∙ c.skip_if.ensures)).stands,
  omega arith,
)

pub returns-in_err-bound-clause-limited : goal.returns-in_err-bound-clause-limited
unfolding assert_limit ascii
returns-in_err-bound-clause-limited c =
    let p = err_from_is_err_and c.from_residual-in_err-bound.result c.from_residual-in_err-bound.ensures.1 in
    rw (p.1, p.2)
    (bound-refused c.requires.0 c.requires.1 (sym c.in_ok-opened.was ∙ c.follow.ensures) c.in_ok-told.ensures
    (side-is c.in_ok-told.told.upper c.from-side.ensures) c.in-Some.ensures.0 c.in-Some.ensures.1
    (sym c.in_ok-named.was ∙ c.skip_if.ensures) c.in_err-bound.ensures)

pub set_limit-requires : goal.set_limit-requires
unfolding assert_limit ascii
set_limit-requires c =
    place-room c.requires.0 c.requires.1 (sym c.in_ok-opened.was ∙ c.follow.ensures) c.in_ok-told.ensures
    (side-is c.in_ok-told.told.upper c.from-side.ensures) c.in-Some.ensures.0 c.in-Some.ensures.1
    (sym c.in_ok-named.was ∙ c.skip_if.ensures)

pub returns-in_err-at-clause-limited : goal.returns-in_err-at-clause-limited
unfolding assert_limit end_assert ascii
returns-in_err-at-clause-limited c =
    let fit : SFits w32 c.in_ok-bound.bound.value = search rules in
    let p = err_from_is_err_and c.from_residual-in_err-at.result c.from_residual-in_err-at.ensures.1 in
    rw (p.1, p.2)
    (refused-at
    (limited-at c.requires.0 c.requires.1 (sym c.in_ok-opened.was ∙ c.follow.ensures) c.in_ok-told.ensures
    (side-is c.in_ok-told.told.upper c.from-side.ensures) c.in-Some.ensures.0 c.in-Some.ensures.1
    (sym c.in_ok-named.was ∙ c.skip_if.ensures) c.in_ok-bound.ensures
    _ (to_z-of_z fit) (Err c.in_err-at.field-0.0) (sym c.in_err-at.was ∙ c.follow-2.ensures) _ c.set_limit.ensures _
    refl).on-course refl)

pub returns-clause-limited : goal.returns-clause-limited
unfolding assert_limit end_assert ascii
returns-clause-limited c =
    let fit : SFits w32 c.in_ok-bound.bound.value = search rules in
    limited-at c.requires.0 c.requires.1 (sym c.in_ok-opened.was ∙ c.follow.ensures) c.in_ok-told.ensures
    (side-is c.in_ok-told.told.upper c.from-side.ensures) c.in-Some.ensures.0 c.in-Some.ensures.1
    (sym c.in_ok-named.was ∙ c.skip_if.ensures) c.in_ok-bound.ensures
    _ (to_z-of_z fit) (Ok c.in_ok-at.at) (sym c.in_ok-at.was ∙ c.follow-2.ensures) _ c.set_limit.ensures _ refl

pub returns-clause-more : goal.returns-clause-more
unfolding assert_limit ascii
returns-clause-more c =
    limited-more c.requires.0 c.requires.1 (sym c.in_ok-opened.was ∙ c.follow.ensures) c.in_ok-told.ensures
    (side-is c.in_ok-told.told.upper c.from-side.ensures) c.in-Some.ensures.0 c.in-Some.ensures.1
    (sym c.in_ok-named.was ∙ c.skip_if.ensures)
