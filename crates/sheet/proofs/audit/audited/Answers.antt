-- `sheet::audit::audited`: what the solver told makes one body more. Assumes nothing.
use Rattle.std.proofs.Common.{ap₂, arith, List, refl, replicate, subst₂, sym, ◌+◌, ◌≡◌, ◌≤◌, ◌∙◌, ℕ, ℤ, pos}
use native.Mathlib.Nat.{min-le_right}
use Rattle.whole.proofs.Numbers.Order.{≤ℤ-trans}
use Rattle.refusals.proofs.Refused.{number-some}
use Rattle.rules.specs.Problem.{vars_of}
use Rattle.rules.specs.Refusal.{Accepted, problem_refusal_within, refusal_within, rows_within}
use Rattle.rules.specs.Sizes.{most_answer, most_rows, most_variables}
use Rattle.solver.proofs.Laws.Refusals.{accepted-of, fine-within}
use Rattle.lines.proofs.Replies.{fine-words, vars-few}
use Rattle.tally.specs.Counting.{Auditable, counted_at}
use Rattle.sheet.proofs.Laws.Told.{answer-auditable, audited-answered, audited-refused, refusal-most, refused-is}
use Rattle.sheet.proofs.audit.audited.Goals as goal

few-rows : (most : ℕ) → rows_within most ≤ most_rows
few-rows most = min-le_right most most_rows

-- the words are refused
refusal_is : {k : ℕ} (most : ℕ) (ws : List ℤ) → k ≡ refusal_within (rows_within most) ws most_answer → (k ≡ 0 → ⊥) →
    k ≡ problem_refusal_within (rows_within most) ws
refusal_is {k} most ws e n = refused-is (rows_within most) (few-rows most) ws k e n

pub refused-requires : goal.refused-requires
refused-requires c =
    let e = refusal_is c.args.most c.args.words.now (c.number.ensures ∙ c.in-Err.ensures.number)
    (λ z. number-some c.in-Err.refusal (sym c.number.ensures ∙ z)) in
    (c.requires, omega (arith, e, refusal-most (rows_within c.args.most) (few-rows c.args.most) c.args.words.now))

pub returns-in-Err : goal.returns-in-Err
returns-in-Err c =
    let n : c.number.result ≡ 0 → ⊥ = λ z. number-some c.in-Err.refusal (sym c.number.ensures ∙ z) in
    let e = refusal_is c.args.most c.args.words.now (c.number.ensures ∙ c.in-Err.ensures.number) n in
    c.refused.ensures
    ∙ audited-refused (rows_within c.args.most) (few-rows c.args.most) c.args.words.now c.args.totals c.args.body
    c.number.result e n

-- the words are a problem
module _ (most : ℕ) (ws : List ℤ) (fits : 0 ≡ refusal_within (rows_within most) ws most_answer) where
  fine : problem_refusal_within (rows_within most) ws ≡ 0
  fine = fine-words (rows_within most) (few-rows most) ws 0 fits refl

  accepted : Accepted most_rows ws
  accepted = accepted-of ws (fine-within (rows_within most) ws (few-rows most) fine)

  few : {N : ℕ} → N ≡ vars_of ws → N ≤ most_variables
  few e = rw e (vars-few (rows_within most) (few-rows most) ws fine)

pub count_at-requires : goal.count_at-requires
count_at-requires c = let a = accepted c.args.most c.args.words.now c.in-Ok.ensures.number in
    (omega (arith, a.enough), ≤ℤ-trans (record { le = tt }) a.n-least)

pub count_at-requires-in-Ok : goal.count_at-requires-in-Ok
count_at-requires-in-Ok c = let a = accepted c.args.most c.args.words.now c.in-Ok.ensures.number in
    (omega (arith, a.enough), a.m-least)

pub overflow_add-variables : goal.overflow_add-variables
overflow_add-variables c =
    let e = ap₂ (λ (a b : ℕ). a + b) c.count_at.ensures c.count_at-in-Ok.ensures in
    let h = few c.args.most c.args.words.now c.in-Ok.ensures.number e in omega arith

pub counted-requires : goal.counted-requires
counted-requires c =
    let e = ap₂ (λ (a b : ℕ). a + b) c.count_at.ensures c.count_at-in-Ok.ensures in
    let told = c.in-Ok.ensures in (
      c.requires,
      subst₂ Auditable (sym told.output) (sym e)
          (answer-auditable (rows_within c.args.most) (few-rows c.args.most) c.args.words.now
          (fine c.args.most c.args.words.now told.number) (replicate most_answer (pos 0))),
    )

pub returns-in-Ok : goal.returns-in-Ok
returns-in-Ok c =
    let a = c.args in
    let e = ap₂ (λ (a b : ℕ). a + b) c.count_at.ensures c.count_at-in-Ok.ensures in
    let told = c.in-Ok.ensures in
    c.counted.ensures
    ∙ ap₂ (λ (l : List ℤ) (n : ℕ). counted_at a.totals l n a.body) told.output e
    ∙ audited-answered (rows_within a.most) (few-rows a.most) a.words.now a.totals a.body
    (replicate most_answer (pos 0)) (fine a.most a.words.now told.number)
