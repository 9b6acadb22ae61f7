-- A start and continues of the archive come to what the solver writes, over the functions' promises alone.
--   Reached            a state that a start handed back, or a continue of such a one that was not refused
--   reached-holds      it stands for the state of the rules after as many pivots as were told in all
--   sliced-as-solved   a continue that answers leaves what `scatterflock_solve` leaves in an output that held the same
--   sliced-accepted    so with verdict 1 or 2 it gives 8, handed to `scatterflock_check`
use mathlib.Core.Bool.{true}
use mathlib.Core.List.{List}
use mathlib.Core.Option.{some}
use mathlib.Core.Path.{ap, refl, subst, sym, ◌∙◌, ◌≡◌}
use Prim.Native.Nat.{min, ℕ, ◌+◌, ◌<◌, ◌≤◌}
use native.Mathlib.Decide.{dec_lt}
use native.Mathlib.Omega.{arith}
use lib.IntN.{ℤ}
use lib.ListN.{length}
use Rattle.whole.proofs.Bools.{true-false}
use Rattle.whole.specs.Values.{pairs}
use Rattle.rules.proofs.Refusal.Exactly.{accepted-exactly, answered-exactly}
use Rattle.rules.proofs.Runs.Continues.{slice-fine}
use Rattle.rules.proofs.Runs.Slices.{sliced-words}
use Rattle.rules.specs.Answer.{answer, written}
use Rattle.rules.specs.Evidence.{checked}
use Rattle.rules.specs.Facts.Answer.{Decided}
use Rattle.rules.specs.Facts.Runs.Slices.{Sliced, cut}
use Rattle.rules.specs.Problem.{Problem, answer_length, inner, problem}
use Rattle.rules.specs.Refusal.{Accepted, problem_refusal, refusal}
use Rattle.rules.specs.Run.{after}
use Rattle.rules.specs.Runs.Slices.{begun, is_answer, slice_answer, slice_output}
use Rattle.rules.specs.Runs.Slices as rules
use Rattle.rules.specs.Sizes.{most_rows}
use Rattle.rules.specs.Step.{start}
use Rattle.slices.specs.declared.Begun.{Begun}
use Rattle.slices.specs.declared.Continued.{Continued}
use Rattle.slices.specs.declared.Slice.{Slice}
use Rattle.slices.specs.Slices.{GoesOnAs, Means, SliceHolds, StartsAs, answer_ruled, started_words, state_by}
use Rattle.scatterflock.proofs.Accepted.{solved-accepted}

module _ (ws : List ℤ) where
  -- the state, and how many pivots were told in all
  pub data Reached : ℕ → Slice → Type 0 where
    by-start : (r : Begun) → StartsAs ws r → r.refused ≡ 0 → Reached 0 r.slice
    by-continue : {n : ℕ} {s : Slice} (b : ℕ) (before after : List ℤ) (r : Continued) → Reached n s →
        GoesOnAs s b before r after → r.refused ≡ 0 → Reached (n + b) r.slice

  abbrev P : Problem (ℤ × ℤ)
  P = inner (problem ws)

  R : Sliced P (start pairs P)
  R = sliced-words ws

  -- the run of the words after n pivots, or at its end
  abbrev at : ℕ → rules.Slice (ℤ × ℤ)
  at n = cut P (start pairs P) (min R.count n)

  fine : {n : ℕ} {s : Slice} → Reached n s → problem_refusal ws ≡ 0
  fine (by-start r S e) = sym S.number ∙ e
  fine (by-continue b before after r C G e) = fine C

  reached-holds : {n : ℕ} {s : Slice} → Reached n s → SliceHolds (at n) s
  unfolding begun after
  reached-holds (by-start r S e) =
      let z : 0 ≡ min R.count 0 = omega arith in
      subst (λ k. SliceHolds (cut P (start pairs P) k) r.slice) z
      (subst (λ k. SliceHolds (begun pairs (inner (problem (started_words k ws)))) r.slice) (sym S.number ∙ e)
      S.state)
  reached-holds (by-continue {n} {s} b before after r C G e) =
      subst (λ S. SliceHolds S r.slice) (R.moves b (min R.count n) (omega arith) ∙ ap (cut P (start pairs P))
      (let z : min R.count (min R.count n + b) ≡ min R.count (n + b) = omega arith in z))
      (subst (λ k. SliceHolds (state_by k (at n) b) r.slice) e (G.means (at n) (reached-holds C)).state)

  module _ {n : ℕ} {s : Slice} (C : Reached n s) (b : ℕ) (before after : List ℤ) (r : Continued)
      (G : GoesOnAs s b before r after) (e : r.refused ≡ 0) (told : r.answered ≡ true) where
    M : Means (at n) b before r after
    M = G.means (at n) (reached-holds C)

    answers : slice_answer (at n) b ≡ some (answer ws)
    unfolding answer
    answers = go (dec_lt (min R.count n + b) R.count)
      where
        go : Dec (min R.count n + b < R.count) → slice_answer (at n) b ≡ some (answer ws)
        go (yes h) = true-false (sym (M.answered ∙ ap (λ k. is_answer (answer_ruled k (at n) b)) e) ∙ told)
            (ap is_answer (R.goes_on b (min R.count n) h))
        go (no h) = R.answers b (min R.count n) (omega arith) (omega arith)

    left : after ≡ written 0 ws before
    unfolding written slice_output problem
    left = M.output ∙ ap (λ k. slice_output (answer_ruled k (at n) b) (answer_length ws) before) e
        ∙ ap (λ o. slice_output o (answer_length ws) before) answers

    roomy : answer_length ws ≤ length before
    unfolding problem
    roomy = ((slice-fine (at n) (length before)).0 (sym M.number ∙ e)).0

    -- `number` and `out` are what the solver promises of `before`
    pub sliced-as-solved : (number : ℕ) (out : List ℤ) → number ≡ refusal ws (length before) →
        out ≡ written number ws before → (number ≡ 0) × (out ≡ after)
    unfolding problem_refusal
    sliced-as-solved number out m o =
        let A : Accepted most_rows ws = (accepted-exactly most_rows ws).0 (fine C) in
        let z : number ≡ 0 = m ∙ (answered-exactly ws (length before)).1 (A, roomy) in
        (z, o ∙ ap (λ k. written k ws before) z ∙ sym left)

    pub sliced-accepted : (judged : ℕ) → judged ≡ checked ws after → Decided after → judged ≡ 8
    sliced-accepted judged j d =
        let k : ℕ = refusal ws (length before) in
        let S = sliced-as-solved k (written k ws before) refl refl in
        solved-accepted ws before after k judged refl (sym S.1) j S.0 d
