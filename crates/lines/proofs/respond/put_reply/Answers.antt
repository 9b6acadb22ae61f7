-- `lines::respond::put_reply`: the solver's refusal or its output gives the text that the rules ask for. Assumes
-- nothing.
use Rattle.std.proofs.Common.{ap, ap₂, arith, length, refl, replicate, sym, ◌∙◌, ◌≡◌, ◌+◌, ◌*◌, ◌≤◌, ℕ, List, ℤ, pos}
use native.Mathlib.Nat.{min-le_right}
use Rattle.whole.proofs.Numbers.Order.{≤ℤ-trans}
use Rattle.refusals.proofs.Refused.{number-some}
use Rattle.rules.specs.Answer.{written}
use Rattle.rules.specs.Problem.{vars_of}
use Rattle.rules.specs.Program.Reply.{reply_to}
use Rattle.rules.specs.Program.Text.{answer_text}
use Rattle.rules.specs.Refusal.{Accepted, problem_refusal_within, refusal_within, rows_within}
use Rattle.rules.specs.Sizes.{most_answer, most_rows, most_variables}
use Rattle.solver.proofs.Laws.Refusals.{accepted-of, fine-within}
use Rattle.lines.proofs.Replies.{fine-words, put_as, replied-answered, replied-refused, vars-few, written-long}
use Rattle.lines.proofs.respond.put_reply.Goals as goal

few-rows : (most : ℕ) → rows_within most ≤ most_rows
few-rows most = min-le_right most most_rows

-- the room for an answer
abbrev room : List ℤ
room = replicate most_answer (pos 0)

-- words that are not refused, with n and m at hand, and the output afterwards
module _ (most : ℕ) (ws : List ℤ) (fits : 0 ≡ refusal_within (rows_within most) ws most_answer) where
  abbrev rows : ℕ
  rows = rows_within most

  fine : problem_refusal_within rows ws ≡ 0
  fine = fine-words rows (few-rows most) ws 0 fits refl

  accepted : Accepted most_rows ws
  accepted = accepted-of ws (fine-within rows ws (few-rows most) fine)

  few : {N : ℕ} → N ≡ vars_of ws → N ≤ most_variables
  few e = rw e (vars-few rows (few-rows most) ws fine)

  long : {N : ℕ} {out : List ℤ} → N ≡ vars_of ws → out ≡ written 0 ws room → 3 + 2 * N ≤ length out
  long e f = omega (arith, e, ap length f, written-long rows (few-rows most) ws room)

  text-is : {N : ℕ} {out : List ℤ} → N ≡ vars_of ws → out ≡ written 0 ws room →
      answer_text out N ≡ reply_to (problem_refusal_within rows ws) ws
  text-is e f = ap₂ answer_text f e ∙ replied-answered rows (few-rows most) ws room fine

pub count_at-requires : goal.count_at-requires
count_at-requires c = let a = accepted c.args.most c.args.words.now c.in-Ok.ensures.number in
    (omega (arith, a.enough), ≤ℤ-trans (record { le = tt }) a.n-least)

pub count_at-requires-in-Ok : goal.count_at-requires-in-Ok
count_at-requires-in-Ok c = let a = accepted c.args.most c.args.words.now c.in-Ok.ensures.number in
    (omega (arith, a.enough), a.m-least)

pub overflow_add-variables : goal.overflow_add-variables
overflow_add-variables c =
    let e = ap₂ (λ (a b : ℕ). a + b) c.count_at.ensures c.count_at-in-Ok.ensures in
    let h = few c.args.most c.args.words.now c.in-Ok.ensures.number e in omega arith

pub put_answer-requires : goal.put_answer-requires
put_answer-requires c =
    let e = ap₂ (λ (a b : ℕ). a + b) c.count_at.ensures c.count_at-in-Ok.ensures in
    let told = c.in-Ok.ensures in (
      few c.args.most c.args.words.now told.number e,
      long c.args.most c.args.words.now told.number e told.output,
      c.requires,
    )

pub returns-in-Err : goal.returns-in-Err
returns-in-Err c =
    let e = c.number.ensures ∙ c.in-Err.ensures.number in
    let n = number-some c.in-Err.refusal in
    put_as (replied-refused (rows_within c.args.most) (few-rows c.args.most) c.args.words.now c.number.result e
    (λ z. n (sym c.number.ensures ∙ z))) c.put_refusal.ensures

pub returns-in-Ok : goal.returns-in-Ok
returns-in-Ok c =
    let e = ap₂ (λ (a b : ℕ). a + b) c.count_at.ensures c.count_at-in-Ok.ensures in
    let told = c.in-Ok.ensures in
    put_as (text-is c.args.most c.args.words.now told.number e told.output) c.put_answer.ensures
