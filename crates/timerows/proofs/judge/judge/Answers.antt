-- `timerows::judge::judge` meets its contract: each test that does not apply leaves the list of tests one shorter.
-- Assumes nothing.
use Rattle.std.proofs.Common.{◌≡◌, sym, ◌∙◌, ap, false, List, [], ◌∷◌, ℕ, ◌+◌, ◌*◌, ◌≤◌, ◌<◌, ℤ, length, arith}
use Rattle.std.proofs.lemmas.Result.{err_from_is_err_and}
use borrow.Author.Tests.{le-ltb, lt-ltb}
use Rattle.refusals.specs.Numbers.{number_of}
use Rattle.refusals.proofs.Refused.{number-some}
use Rattle.whole.proofs.Numbers.Order.{≤ℤ-trans}
use Rattle.rules.specs.Problem.{m_of, n_of}
use Rattle.rules.specs.Refusal.{first, too_few}
use Rattle.rules.specs.Times.Words.{bad_time_size, no_room, row_tests, time_refusal, time_tests}
use Rattle.rules.proofs.Refusal.First.{first-hit, first-skip}
use Rattle.timerows.proofs.Laws.Faults.{first-none, framed, m-least, n-least, rows-fit, rows-kept}
use Rattle.timerows.proofs.Laws.Faults.{rows-passed, vertices-fit}
use Rattle.timerows.proofs.Laws.Faults.{to-rows, too-long}
use Rattle.timerows.proofs.judge.judge.Goals as goal

pub returns-then-words-lt2 : goal.returns-then-words-lt2
unfolding time_refusal time_tests too_few
returns-then-words-lt2 c = sym (first-hit 11 _ (lt-ltb _ _ c.if-words-lt2.true))

pub returns-then-is_bad_size : goal.returns-then-is_bad_size
unfolding time_refusal time_tests too_few bad_time_size
returns-then-is_bad_size c =
    sym (first-skip 11 _ (le-ltb _ _ c.if-words-lt2.false)
    ∙ first-hit 12 _ (sym c.is_bad_size.ensures ∙ c.if-is_bad_size.true))

pub count_at-m-requires : goal.count_at-m-requires
unfolding bad_time_size
count_at-m-requires c =
    (omega arith, m-least _ c.if-words-lt2.false (sym c.is_bad_size.ensures ∙ c.if-is_bad_size.false))

pub overflow_mul-m : goal.overflow_mul-m
unfolding bad_time_size
overflow_mul-m c =
    let few = rows-fit _ c.if-words-lt2.false (sym c.is_bad_size.ensures ∙ c.if-is_bad_size.false) in omega arith

pub overflow_add-m : goal.overflow_add-m
unfolding bad_time_size
overflow_add-m c =
    let few = rows-fit _ c.if-words-lt2.false (sym c.is_bad_size.ensures ∙ c.if-is_bad_size.false) in omega arith

pub returns-then-words-m : goal.returns-then-words-m
unfolding bad_time_size
returns-then-words-m c =
    sym (too-long _ c.if-words-lt2.false (sym c.is_bad_size.ensures ∙ c.if-is_bad_size.false) _
    (λ e. c.if-words-m.true (e ∙ ap (λ m. 2 + 4 * m) (sym c.count_at-m.ensures))))

-- the words are as many as they should be
exact : (ws : List ℤ) (m : ℕ) → length ws ≡ 2 + 4 * m → m ≡ m_of ws → length ws ≡ 2 + 4 * m_of ws
exact ws m e f = e ∙ ap (λ m. 2 + 4 * m) f

pub judge_rows-requires : goal.judge_rows-requires
unfolding bad_time_size
judge_rows-requires c = (
  framed _ c.if-words-lt2.false (sym c.is_bad_size.ensures ∙ c.if-is_bad_size.false)
      (exact _ _ c.if-words-m.false c.count_at-m.ensures),
  c.count_at-m.ensures,
)

pub returns-in_err-judge_rows : goal.returns-in_err-judge_rows
unfolding bad_time_size
returns-in_err-judge_rows c =
    let ws = c.args.words.now in
    let p = err_from_is_err_and c.from_residual.result c.from_residual.ensures.1 in
    let told : number_of c.in_err-judge_rows.field-0.0 ≡ first (row_tests ws (m_of ws) []) =
    c.in_err-judge_rows.ensures ∙ ap (λ m. first (row_tests ws m [])) c.count_at-m.ensures in
    rw (p.1, p.2)
    (told ∙ sym (to-rows ws c.if-words-lt2.false (sym c.is_bad_size.ensures ∙ c.if-is_bad_size.false)
    (exact _ _ c.if-words-m.false c.count_at-m.ensures) c.args.room
    ∙ rows-kept ws (m_of ws) _ (λ e. number-some c.in_err-judge_rows.field-0.0 (told ∙ e))))

pub count_at-requires : goal.count_at-requires
unfolding bad_time_size
count_at-requires c = (
  omega arith,
  ≤ℤ-trans (record { le = tt })
      (n-least _ c.if-words-lt2.false (sym c.is_bad_size.ensures ∙ c.if-is_bad_size.false)),
)

pub overflow_mul-count_at : goal.overflow_mul-count_at
unfolding bad_time_size
overflow_mul-count_at c =
    let few = vertices-fit _ c.if-words-lt2.false (sym c.is_bad_size.ensures ∙ c.if-is_bad_size.false) in omega arith

pub overflow_add-count_at : goal.overflow_add-count_at
unfolding bad_time_size
overflow_add-count_at c =
    let few = vertices-fit _ c.if-words-lt2.false (sym c.is_bad_size.ensures ∙ c.if-is_bad_size.false) in omega arith

-- no row is refused
passed : (ws : List ℤ) (room m : ℕ) → 2 ≤ length ws → bad_time_size ws ≡ false → length ws ≡ 2 + 4 * m →
    m ≡ m_of ws → 0 ≡ first (row_tests ws m []) → time_refusal ws room ≡ first ((no_room ws room, 17) ∷ [])
passed ws room m enough sized e f z =
    to-rows ws enough sized (exact ws m e f) room
    ∙ rows-passed ws (m_of ws) _ (sym (z ∙ ap (λ m. first (row_tests ws m [])) f))

pub returns-then-room-count_at : goal.returns-then-room-count_at
unfolding bad_time_size no_room
returns-then-room-count_at c =
    let few : c.args.room < 2 + 2 * n_of c.args.words.now = omega (arith, c.count_at.ensures) in
    sym (passed _ _ _ c.if-words-lt2.false (sym c.is_bad_size.ensures ∙ c.if-is_bad_size.false) c.if-words-m.false
    c.count_at-m.ensures c.in_ok-judge_rows.ensures
    ∙ first-hit 17 [] (lt-ltb _ _ few))

pub returns : goal.returns
unfolding bad_time_size no_room
returns c =
    let enough : 2 + 2 * n_of c.args.words.now ≤ c.args.room = omega (arith, c.count_at.ensures) in
    sym (passed _ _ _ c.if-words-lt2.false (sym c.is_bad_size.ensures ∙ c.if-is_bad_size.false) c.if-words-m.false
    c.count_at-m.ensures c.in_ok-judge_rows.ensures
    ∙ first-skip 17 [] (le-ltb _ _ enough) ∙ first-none)
