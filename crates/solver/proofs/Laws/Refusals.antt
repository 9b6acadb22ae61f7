-- The solver's refusal: that of the problem where there is one, else 7 where the output is too short, else none.
--   within-problem, within-short, within_none    within so many rows
--   fine-within        what is fine within fewer rows is fine
--   written-refused    a refusal keeps the output
--   begun-start, holds-start   accepted words are a tableau from which a check may start, a state with no pivots yet
--   start-many, answered-is    as many variables as the words say, and the output that the rules ask for
use mathlib.Core.Bool.{true}
use mathlib.Core.List.{List, [], ◌∷◌}
use mathlib.Core.Logic.{◌≢◌}
use mathlib.Core.Path.{◌≡◌, ap, refl, subst, sym, ◌∙◌}
use Prim.Native.Nat.{ℕ, zero, suc, ◌+◌, ◌≤◌}
use native.Mathlib.Nat.{add_comm}
use native.Mathlib.Omega.{arith}
use borrow.Author.Tests.{le-ltb}
use lib.IntN.{ℤ}
use Rattle.whole.specs.Values.{pairs}
use Rattle.whole.proofs.Values.Beside.{pairs-laws}
use Rattle.rules.proofs.Refusal.Exactly.{accepted-exactly, fine_more, numbered}
use Rattle.rules.proofs.Refusal.First.{first-hit, first-kept, first-passed, first-skip}
use Rattle.rules.proofs.Runs.Slices.{cut-answer, on-way-start, sliced-words}
use Rattle.rules.proofs.Termination.Ends.{ready-start}
use Rattle.rules.specs.Answer.{written}
use Rattle.rules.specs.Problem.{answer_length, inner, m_of, n_of, problem, vars_of}
use Rattle.rules.specs.Refusal.{Accepted, first, problem_refusal, problem_refusal_within, problem_tests}
use Rattle.rules.specs.Refusal.{refusal_within, too_short}
use Rattle.rules.specs.Runs.Slices.{begun, continued_by, slice_output}
use Rattle.rules.specs.Sizes.{most_rows}
use Rattle.rules.specs.Step.{start}
use Rattle.tableau.specs.declared.Tableau.{Tableau}
use Rattle.tableau.specs.Stands.{Ranged, Stands}
use Rattle.tableau.specs.Start.{start_tableau, start_laid}
use Rattle.tableau.proofs.Laws.Fits.{fitting-accepted, ranged-start}
use Rattle.tableau.proofs.Laws.Stands.Start.{stands-start}
use Rattle.answers.specs.Answer.{is_short}
use Rattle.solver.specs.Run.{Begun}
use Rattle.solver.specs.Spend.{Holds, out_at}
use Rattle.rules.proofs.Termination.Bound.{bound-small}
use Rattle.rules.specs.Run.{most_count}
use Rattle.solver.proofs.Laws.Stands.Slices.{out-is}

module _ (rows : ℕ) (ws : List ℤ) (room : ℕ) where
  pub within-problem : problem_refusal_within rows ws ≢ 0 → problem_refusal_within rows ws ≡ refusal_within rows ws room
  within-problem n = go (problem_refusal_within rows ws) refl
    where
      go : (k : ℕ) → problem_refusal_within rows ws ≡ k → problem_refusal_within rows ws ≡ refusal_within rows ws room
      go zero e = absurd (n e)
      go (suc k) e = e ∙ sym (first-kept (problem_tests rows ws) ((too_short ws room, 7) ∷ []) k e)

  after-problem : problem_refusal_within rows ws ≡ 0 → refusal_within rows ws room ≡ first ((too_short ws room, 7) ∷ [])
  after-problem e = first-passed 10 (problem_tests rows ws) ((too_short ws room, 7) ∷ []) (numbered rows ws) e

  pub within-short : problem_refusal_within rows ws ≡ 0 → is_short room (vars_of ws) ≡ true →
      7 ≡ refusal_within rows ws room
  unfolding too_short
  within-short e h = sym (after-problem e ∙ first-hit 7 [] h)

  pub within_none : problem_refusal_within rows ws ≡ 0 → answer_length ws ≤ room → 0 ≡ refusal_within rows ws room
  unfolding too_short first
  within_none e h = sym (after-problem e ∙ first-skip 7 [] (le-ltb room (answer_length ws) h))

-- what is fine within fewer rows is fine
pub fine-within : (rows : ℕ) (ws : List ℤ) → rows ≤ most_rows → problem_refusal_within rows ws ≡ 0 →
    problem_refusal ws ≡ 0
unfolding problem_refusal
fine-within rows ws h e = fine_more ws h e

pub written-refused : (k : ℕ) (ws before : List ℤ) → k ≢ 0 → before ≡ written k ws before
unfolding written
written-refused zero ws before n = absurd (n refl)
written-refused (suc k) ws before n = refl

pub accepted-of : (ws : List ℤ) → problem_refusal ws ≡ 0 → Accepted most_rows ws
unfolding problem_refusal
accepted-of ws e = (accepted-exactly most_rows ws).0 e

-- ---- the tableau of accepted words

module _ (ws : List ℤ) (t : Tableau) (e : t ≡ start_tableau (problem ws)) (f : problem_refusal ws ≡ 0) where
  abbrev pub begun-start : Begun t
  begun-start = let F = fitting-accepted ws (accepted-of ws f) in record {
    problem = inner (problem ws);
    state = start pairs (inner (problem ws));
    stands = subst (λ u. Stands (inner (problem ws)) u (start pairs (inner (problem ws)))) (sym e)
        (stands-start (problem ws) F);
    ready = ready-start pairs pairs-laws (inner (problem ws));
    ranged = subst Ranged (sym e) (ranged-start (problem ws) F);
  }

  pub start-many : t.rows + t.columns ≡ vars_of ws
  unfolding start_laid problem
  start-many = ap (λ u. u.rows + u.columns) e ∙ add_comm (m_of ws) (n_of ws)

  pub holds-start : Holds (begun pairs (inner (problem ws))) t 0
  unfolding begun
  holds-start = record {
    stands = begun-start.stands;
    ranged = begun-start.ranged;
    count-is = refl;
    on-way = on-way-start (inner (problem ws)) (start pairs (inner (problem ws))) begun-start.ready;
  }

  -- the output with as much to spend as any run has pivots is what the rules say is written
  pub answered-is : (b : ℕ) → most_count ≤ b → (before : List ℤ) → out_at t 0 b before ≡ written 0 ws before
  unfolding written begun slice_output problem continued_by
  answered-is b h before = (out-is holds-start b before).1
      ∙ ap (λ a. slice_output a (answer_length ws) before) (cut-answer ws [] b
      (let a = (sliced-words ws).below in let c = bound-small (inner (problem ws)) begun-start.stands.sized.few-rows
      begun-start.stands.sized.few-columns in omega arith))
