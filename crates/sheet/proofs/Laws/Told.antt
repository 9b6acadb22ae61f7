-- What the solver told is what one body more asks for.
--   answer-auditable    the words that the solver wrote can be told
--   refused-is, refusal-most    the solver's refusal is the problem's, and at most 10
--   audited-refused, audited-answered    what either makes of the totals
use mathlib.Core.List.{List}
use mathlib.Core.Logic.{◌≢◌}
use mathlib.Core.Path.{ap, refl, subst, sym, ◌∙◌, ◌≡◌}
use Prim.Native.Nat.{suc, zero, ℕ, ◌*◌, ◌+◌, ◌<◌, ◌≤◌}
use native.Mathlib.Omega.{arith}
use lib.Dec.{le→leb}
use lib.IntN.{nat_abs, pos, ℤ}
use lib.ListN.{get_or-append, drop}
use lib.Signed.{le_z_yes, ◌≤ℤ◌}
use Rattle.whole.proofs.Values.Beside.{pairs-laws}
use Rattle.whole.specs.Values.{pairs}
use Rattle.rules.proofs.Answer.Cases.{answered}
use Rattle.rules.proofs.Answer.Shape.{answer-shaped}
use Rattle.rules.proofs.Refusal.Exactly.{numbered}
use Rattle.rules.proofs.Refusal.First.{first-most}
use Rattle.rules.proofs.Sheet.Fits.{pivots-few}
use Rattle.rules.proofs.Termination.Ends.{ready-start}
use Rattle.rules.specs.Answer.{answer, answer_from, written}
use Rattle.rules.specs.Facts.Answer.{Answered, can-at, cannot-at, crossing, laid, range_at}
use Rattle.rules.specs.Problem.{Problem, answer_length, inner, problem, vars_of, word}
use Rattle.rules.specs.Refusal.{problem_refusal_within, problem_tests, refusal_within}
use Rattle.rules.specs.Run.{most_count}
use Rattle.rules.specs.Sheet.Totals.{class_by, class_of}
use Rattle.rules.specs.Sheet.Totals.{pivots_by, pivots_of}
use Rattle.rules.specs.Sizes.{most_answer, most_rows}
use Rattle.rules.specs.Step.{State, start}
use Rattle.solver.proofs.Laws.Refusals.{within_none, within-problem}
use Rattle.lines.proofs.Replies.{vars-few, written-long}
use Rattle.tally.specs.Counting.{Auditable, audited_at, audited_by, counted_at}
use Rattle.tally.specs.Counting.{refused_at}
use Rattle.tally.specs.declared.Totals.{Totals}
use Rattle.tally.proofs.Laws.Ready.{counted_same}

-- ---- the answer

count_word : (a b c : ℤ) (xs ys : List ℤ) → word (laid a b c xs ys) 1 ≡ b
unfolding laid
count_word a b c xs ys = refl

count-is : (P : Problem (ℤ × ℤ)) (s : State (ℤ × ℤ)) → Answered P s → (k : ℕ) × (word (answer_from P s) 1 ≡ pos k)
count-is P s (crossing v c e) = (0, ap (λ a. word a 1) e ∙ count_word _ _ _ _ _)
count-is P s (can-at R q e) = (R.count, ap (λ a. word a 1) e ∙ count_word _ _ _ _ _)
count-is P s (cannot-at R ls us q e) = (R.count, ap (λ a. word a 1) e ∙ count_word _ _ _ _ _)
count-is P s (range_at R q e) = (R.count, ap (λ a. word a 1) e ∙ count_word _ _ _ _ _)

natural : (k : ℕ) → pos 0 ≤ℤ pos k
natural k = le_z_yes (le→leb 0 k (omega arith))

answer-count : (ws : List ℤ) → (k : ℕ) × (word (answer ws) 1 ≡ pos k)
unfolding answer problem
answer-count ws = let P : Problem (ℤ × ℤ) = inner (problem ws) in
    count-is P (start pairs P) (answered P (start pairs P) (ready-start pairs pairs-laws P))

module _ (rows : ℕ) (few : rows ≤ most_rows) (ws : List ℤ) (e : problem_refusal_within rows ws ≡ 0) where
  count-few : nat_abs (word (answer ws) 1) < most_count
  unfolding pivots_of class_of class_by pivots_by
  count-few = subst (λ r. pivots_by (class_by r ws) ws < most_count) e (pivots-few rows ws few)

  -- the words of the answer stand in front of those that were there
  in-front : (before : List ℤ) (i : ℕ) → i < 3 + 2 * vars_of ws → word (written 0 ws before) i ≡ word (answer ws) i
  unfolding written
  in-front before i h =
      get_or-append (answer ws) (drop (answer_length ws) before) (pos 0) i (rw (answer-shaped ws).many h)

  pub answer-auditable : (before : List ℤ) → Auditable (written 0 ws before) (vars_of ws)
  answer-auditable before = let k = answer-count ws in let q = in-front before 1 (omega arith) in record {
    few-variables = vars-few rows few ws e;
    whole = written-long rows few ws before;
    count-least = rw (q, k.1) (natural k.0);
    count_most = rw q count-few;
  }

-- ---- what the solver told, with room for the most words of an answer

module _ (rows : ℕ) (few : rows ≤ most_rows) (ws : List ℤ) where
  abbrev own : ℕ
  own = problem_refusal_within rows ws

  pub refused-is : (r : ℕ) → r ≡ refusal_within rows ws most_answer → r ≢ 0 → r ≡ own
  refused-is r e n = go own refl
    where
      go : (k : ℕ) → own ≡ k → r ≡ own
      go zero q = absurd (n (e ∙ sym (within_none rows ws most_answer q
          (let h = vars-few rows few ws q in omega (arith, h)))))
      go (suc k) q =
          let f : own ≢ 0 = λ z. let y : suc k ≡ 0 = sym q ∙ z in omega arith in
          e ∙ sym (within-problem rows ws most_answer f)

  pub refusal-most : own ≤ 10
  refusal-most = first-most 10 (problem_tests rows ws) (numbered rows ws)

  pub audited-refused : (t : Totals) (i r : ℕ) → r ≡ own → r ≢ 0 → refused_at t r ≡ audited_at rows t ws i
  unfolding audited_at audited_by
  audited-refused t i r e n = go own refl
    where
      go : (k : ℕ) → own ≡ k → refused_at t r ≡ audited_by own t ws i
      go zero q = absurd (n (e ∙ q))
      go (suc k) q = ap (refused_at t) (e ∙ q) ∙ sym (ap (λ j. audited_by j t ws i) q)

  pub audited-answered : (t : Totals) (i : ℕ) (before : List ℤ) → own ≡ 0 →
      counted_at t (written 0 ws before) (vars_of ws) i ≡ audited_at rows t ws i
  unfolding audited_at audited_by
  audited-answered t i before e =
      counted_same (written 0 ws before) (answer ws) (vars_of ws) (in-front rows few ws e before) t i
      ∙ sym (ap (λ j. audited_by j t ws i) e)
