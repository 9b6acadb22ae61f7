-- `solver::solve_within` meets its contract: the refusal of the problem, or 7, or the answer of the rules.
-- Assumes nothing.
use mathlib.Core.Bool.{Bool, false}
use mathlib.Core.List.{List}
use mathlib.Core.Path.{◌≡◌, ap, ap₂, sym, ◌∙◌}
use mathlib.Core.Logic.{◌≢◌}
use Prim.Native.Nat.{ℕ, ◌+◌, ◌≤◌}
use native.Mathlib.Nat.{min-le_right}
use native.Mathlib.Omega.{arith}
use borrow.Author.Tests.{ltb-false}
use lib.IntN.{ℤ}
use Rattle.std.proofs.lemmas.Result.{err_from_is_err_and}
use lib.ListN.{length}
use Rattle.whole.proofs.Numbers.Order.{≤ℤ-trans}
use Rattle.rules.specs.Problem.{answer_length, m_of, n_of, vars_of}
use Rattle.rules.specs.Refusal.{problem_refusal, problem_refusal_within, refusal_within, rows_within}
use Rattle.rules.specs.Sizes.{most_columns, most_rows}
use Rattle.rules.proofs.Refusal.Accepted.{m-few, n-few}
use Rattle.answers.specs.Answer.{is_short}
use Rattle.refusals.specs.Numbers.{number_told}
use Rattle.refusals.proofs.Refused.{told-err}
use Rattle.solver.proofs.Laws.Refusals.{accepted-of, answered-is, fine-within, holds-start, start-many}
use Rattle.solver.proofs.Laws.Refusals.{within_none, within-problem, within-short, written-refused}
use Rattle.solver.proofs.solve_within.Goals as goal

-- the rows that are allowed
rows_few : {rows : ℕ} (most : ℕ) → rows ≡ rows_within most → rows ≤ most_rows
rows_few most e = rw e (min-le_right most most_rows)

pub returns-in_err-judge_within : goal.returns-in_err-judge_within
returns-in_err-judge_within c = let a = c.args in let ws = a.words.now in let room = length a.out.now in
    let rows = c.min-rows.result in
    let p = err_from_is_err_and c.from_residual.result c.from_residual.ensures.1 in
    let k : number_told c.from_residual.result ≡ problem_refusal_within rows ws =
    rw (p.1, p.2) c.in_err-judge_within.ensures in
    let some : number_told c.from_residual.result ≢ 0 = told-err c.from_residual.result p.1 in record {
      number = k ∙ within-problem rows ws room (λ z. some (k ∙ z))
          ∙ ap (λ n. refusal_within n ws room) c.min-rows.ensures;
      output = written-refused _ ws a.out.now some;
    }

-- the words are a problem
fine-by : {rows : ℕ} (most : ℕ) (ws : List ℤ) → rows ≡ rows_within most → 0 ≡ problem_refusal_within rows ws →
    problem_refusal ws ≡ 0
fine-by {rows} most ws e f = fine-within rows ws (rows_few most e) (sym f)

pub count_at-requires : goal.count_at-requires
count_at-requires c = let ws = c.args.words.now in let fine = accepted-of ws
    (fine-by c.args.most ws c.min-rows.ensures c.in_ok-judge_within.ensures) in
    (let z = fine.enough in omega arith, ≤ℤ-trans (record { le = tt }) fine.n-least)

pub count_at-requires-2 : goal.count_at-requires-2
count_at-requires-2 c = let ws = c.args.words.now in let fine = accepted-of ws
    (fine-by c.args.most ws c.min-rows.ensures c.in_ok-judge_within.ensures) in
    (let z = fine.enough in omega arith, fine.m-least)

-- n and m
few-together : {n m : ℕ} (ws : List ℤ) → n ≡ n_of ws → m ≡ m_of ws → problem_refusal ws ≡ 0 →
    n + m ≤ most_columns + most_rows
few-together ws d e f = let a = n-few (accepted-of ws f) in let b = m-few (accepted-of ws f) in
    omega (arith, d, e, a, b)

pub overflow_add-variables : goal.overflow_add-variables
overflow_add-variables c = let ws = c.args.words.now in
    let f = fine-by c.args.most ws c.min-rows.ensures c.in_ok-judge_within.ensures in
    let z = few-together ws c.count_at.ensures c.count_at-2.ensures f in omega arith

pub is_short-requires : goal.is_short-requires
is_short-requires c = let ws = c.args.words.now in
    let f = fine-by c.args.most ws c.min-rows.ensures c.in_ok-judge_within.ensures in
    let z = few-together ws c.count_at.ensures c.count_at-2.ensures f in omega arith

-- whether the output is too short
short-is : {n m : ℕ} {b : Bool} (here : ℕ) (ws : List ℤ) → n ≡ n_of ws → m ≡ m_of ws → b ≡ is_short here (n + m) →
    b ≡ is_short here (vars_of ws)
short-is here ws d e f = f ∙ ap₂ (λ n m. is_short here (n + m)) d e

pub returns-then-is_short : goal.returns-then-is_short
returns-then-is_short c = let a = c.args in let ws = a.words.now in let rows = c.min-rows.result in
    let s = short-is (length a.out.now) ws c.count_at.ensures c.count_at-2.ensures c.is_short.ensures in record {
      number = within-short rows ws (length a.out.now) (sym c.in_ok-judge_within.ensures)
          (sym s ∙ c.if-is_short.true)
          ∙ ap (λ n. refusal_within n ws (length a.out.now)) c.min-rows.ensures;
      output = written-refused 7 ws a.out.now (λ z. omega arith);
    }

pub new-t-requires : goal.new-t-requires
new-t-requires c =
    fine-by c.args.most c.args.words.now c.min-rows.ensures c.in_ok-judge_within.ensures

-- the answer fits
room : {n m : ℕ} {b : Bool} (here : ℕ) (ws : List ℤ) → n ≡ n_of ws → m ≡ m_of ws → b ≡ is_short here (n + m) →
    b ≡ false → answer_length ws ≤ here
room here ws d e f g = ltb-false here (answer_length ws) (sym (short-is here ws d e f) ∙ g)

pub spend-requires : goal.spend-requires
spend-requires c = let ws = c.args.words.now in let t = c.new-t.result in
    let f = fine-by c.args.most ws c.min-rows.ensures c.in_ok-judge_within.ensures in record {
      standing = record { slice = _; holds = holds-start ws t c.new-t.ensures f };
      columns_in_bounds =
          let a = room (length c.args.out.now) ws c.count_at.ensures c.count_at-2.ensures c.is_short.ensures
          c.if-is_short.false in
          let b = start-many ws t c.new-t.ensures f in omega arith;
    }

pub returns : goal.returns
returns c = let a = c.args in let ws = a.words.now in let rows = c.min-rows.result in
    let f = fine-by c.args.most ws c.min-rows.ensures c.in_ok-judge_within.ensures in
    let r = room (length c.args.out.now) ws c.count_at.ensures c.count_at-2.ensures c.is_short.ensures
    c.if-is_short.false in record {
      number = within_none rows ws (length a.out.now) (sym c.in_ok-judge_within.ensures) r
          ∙ ap (λ n. refusal_within n ws (length a.out.now)) c.min-rows.ensures;
      output = c.spend.ensures.output
          ∙ answered-is ws c.new-t.result c.new-t.ensures f 18446744073709551615 (omega arith) a.out.now;
    }
