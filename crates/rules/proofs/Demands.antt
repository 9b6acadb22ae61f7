-- The demands, at the level of words, of the answer to any words.
--   can-satisfied        verdict 1: whatever fraction above 0 and up to 1 / 17,179,869,177 is put for the small amount,
--                        the fractions in the answer meet the rows and all limits, a strict one strictly
--   cannot-satisfied     verdict 2: no fractions do
--   cannot-fractions     .. nor do fractions over denominators of their own
--   never_both           an answer that says can, and words whose problem no fractions meet, do not stand together
--   can-meets-limits, cannot-leaves-none    the first two over pairs, as the run reads the limits
--   no-twice, few-pivots, run_ends    no arrangement comes twice; the count is below the bound; the run ends
--   count-below          word 1 is a count below the bound, crossed limits or not
--   solve-only           any two results that the solver's promise allows are equal
--   refused-kept         a refusal keeps every word of the output
--   written-length, written-past      an answered output keeps its length and the words past the answer
use mathlib.Core.List.{List, [], append-nil}
use mathlib.Core.Logic.{inl, ◌≢◌}
use mathlib.Core.Option.{Option, none, some}
use mathlib.Core.Path.{ap, refl, subst, sym, ◌∙◌, ◌≡◌, ap₂}
use Prim.Native.Nat.{ℕ, suc, zero, ◌+◌, ◌<◌, ◌≤◌}
use native.Mathlib.Omega.{arith}
use lib.IntN.{pos, ℤ}
use lib.ListN.{length}
use Rattle.whole.proofs.Lists.Prefix.{laid-long, laid-past}
use Rattle.whole.proofs.Values.Beside.{pairs-laws}
use Rattle.whole.proofs.Lists.Tables.{table_at, table-length}
use Rattle.whole.proofs.Values.Laws.{le-le, lt_irrefl, lt-le-trans, total-same, up_strict}
use Rattle.whole.specs.Tables.{table}
use Rattle.whole.specs.Values.{Laws, Values, pairs}
use Rattle.rules.proofs.Answer.Run.{answer-crossed, answer-run, crosses-exactly}
use Rattle.rules.proofs.Answer.Cases.{answered, denominator-word, lower-part, other-verdict, upper-part}
use Rattle.rules.proofs.Termination.Bound.{below-bound, bound_some}
use Rattle.rules.proofs.Termination.Ends.{ready-start, start-seated}
use Rattle.rules.proofs.Evidence.Own.Accepted.{answer-accepted}
use Rattle.rules.proofs.Evidence.Means.{can-means}
use Rattle.rules.proofs.Evidence.Satisfied.{pairs-satisfied, unmet-none}
use Rattle.rules.proofs.Evidence.Separate.{unsatisfied-fractions}
use Rattle.rules.proofs.Step.Means.{can-is-met, cannot-is-unmet}
use Rattle.rules.proofs.Run.Steady.{twice-never}
use Rattle.rules.proofs.Answer.Shape.{answer-shaped}
use Rattle.rules.proofs.Run.Start.{no-conflict, sound-start}
use Rattle.rules.specs.Answer.{answer, answer_from, written}
use Rattle.rules.specs.Facts.Answer.{Answered, can-at, cannot-at, crossing, range_at}
use Rattle.rules.specs.Evidence.{AtLeast, AtMost, Meets, Unmet, Unsatisfied, checked, denominator_of, pair_part}
use Rattle.rules.specs.Evidence.{verdict_of}
use Rattle.rules.specs.Facts.Fractions.{Fraction, FractionsMeet}
use Rattle.rules.specs.Problem.{Problem, inner, answer_length, problem, vars, word}
use Rattle.rules.specs.Refusal.{Accepted, refusal}
use Rattle.rules.specs.Run.{Runs, after, bound, conflict}
use Rattle.rules.specs.Facts.Evidence.{MetSmall}
use Rattle.rules.specs.Sizes.{most_rows}
use Rattle.rules.specs.Facts.State.{Apart, Ready, Sound}
use Rattle.rules.specs.Step.{State, common, scaled}
use Rattle.rules.specs.Facts.Run.{Crosses, TheRun, begin}

-- ---- fractions, in the answer from any state that is ready

module _ {X : Type 0} (𝓥 : Values X) (law : Laws 𝓥) (P : Problem X) where
  -- numerators that agree at every variable
  meets-same : (d : ℤ) (x y : ℕ → X) → ((v : ℕ) → v < vars P → x v ≡ y v) → Meets 𝓥 P d x → Meets 𝓥 P d y
  meets-same d x y e M = record {
    positive = M.positive;
    rows = λ i h. sym (e (P.n + i) (omega arith)) ∙ M.rows i h
        ∙ total-same law P.n _ _ (λ j k. ap (𝓥.scale (P.coefficient i j)) (e j (omega arith)));
    lowers = λ v h. subst (AtLeast 𝓥 (P.lower v) d) (e v h) (M.lowers v h);
    uppers = λ v h. subst (AtMost 𝓥 (P.upper v) d) (e v h) (M.uppers v h);
  }

  -- limits that cross leave no fractions
  crossed-unmet : (v : ℕ) → v < vars P → Crosses 𝓥 P v → Unmet 𝓥 P
  crossed-unmet v h (l, u, a, b, c) d x M =
      lt_irrefl law (lt-le-trans law (up_strict law M.positive c)
      (le-le law (rw a at (M.lowers v h)) (rw b at (M.uppers v h))))

module _ (P : Problem (ℤ × ℤ)) (s : State (ℤ × ℤ)) (S : Ready pairs P s) where
  pub can-from : verdict_of (answer_from P s) ≡ pos 1 →
      Meets pairs P (denominator_of (answer_from P s)) (pair_part (vars P) (answer_from P s))
  can-from e = go (answered P s S)
    where
      go : Answered P s → Meets pairs P (denominator_of (answer_from P s)) (pair_part (vars P) (answer_from P s))
      go (crossing v c z) = other-verdict P s 1 2 _ _ _ _ (omega arith) z e
      go (can-at R q z) = rw z (rw (denominator-word (pos 1) (pos R.count) d xs ys)
          (meets-same pairs pairs-laws P d (scaled pairs P t) _
          (λ v h. sym (ap₂ (λ a b. (a, b))
          (lower-part (pos 1) (pos R.count) d xs ys v (rw (table-length (vars P) (λ v. (scaled pairs P t v).0)) h)
          ∙ table_at (vars P) (λ v. (scaled pairs P t v).0) (pos 0) v h)
          (upper-part (pos 1) (pos R.count) d xs ys (vars P) v (table-length (vars P) (λ v. (scaled pairs P t v).0))
          ∙ table_at (vars P) (λ v. (scaled pairs P t v).1) (pos 0) v h)))
          (can-is-met pairs pairs-laws P t R.sound q)))
        where
          t : State (ℤ × ℤ)
          t = after pairs P s R.count

          d : ℤ
          d = common t

          xs : List ℤ
          xs = table (vars P) (λ v. (scaled pairs P t v).0)

          ys : List ℤ
          ys = table (vars P) (λ v. (scaled pairs P t v).1)
      go (cannot-at R ls us b z) = other-verdict P s 1 2 _ _ _ _ (omega arith) z e
      go (range_at R b z) = other-verdict P s 1 3 _ _ _ _ (omega arith) z e

  pub cannot-from : verdict_of (answer_from P s) ≡ pos 2 → Unmet pairs P
  cannot-from e = go (answered P s S)
    where
      go : Answered P s → Unmet pairs P
      go (crossing v c z) = let k = (crosses-exactly pairs P v).0 c in crossed-unmet pairs pairs-laws P v k.0 k.1
      go (can-at R q z) = other-verdict P s 2 1 _ _ _ _ (omega arith) z e
      go (cannot-at R ls us b z) = cannot-is-unmet pairs pairs-laws P (after pairs P s R.count) R.sound b.out
          b.leaves b.none-enters
      go (range_at R b z) = other-verdict P s 2 3 _ _ _ _ (omega arith) z e

-- ---- the answer to words

module _ (ws : List ℤ) where
  ready : Ready pairs (inner (problem ws)) (begin ws)
  ready = ready-start pairs pairs-laws (inner (problem ws))

  pub can-meets-limits : verdict_of (answer ws) ≡ pos 1 →
      Meets pairs (inner (problem ws)) (denominator_of (answer ws)) (pair_part (vars (problem ws)) (answer ws))
  unfolding answer
  can-meets-limits e = can-from (inner (problem ws)) (begin ws) ready e

  pub cannot-leaves-none : verdict_of (answer ws) ≡ pos 2 → Unmet pairs (inner (problem ws))
  unfolding answer
  cannot-leaves-none e = cannot-from (inner (problem ws)) (begin ws) ready e

  pub can-satisfied : Accepted most_rows ws → verdict_of (answer ws) ≡ pos 1 → MetSmall (problem ws) (answer ws)
  can-satisfied A e = can-means ws (answer ws)
      (subst (λ a. checked ws a ≡ 8) (append-nil (answer ws)) (answer-accepted ws [] A (inl e))) e

  pub cannot-satisfied : verdict_of (answer ws) ≡ pos 2 → Unsatisfied (problem ws)
  cannot-satisfied e = unmet-none (problem ws) (cannot-leaves-none e)

  pub cannot-fractions : verdict_of (answer ws) ≡ pos 2 → (x : ℕ → Fraction) → ¬ FractionsMeet (problem ws) x
  cannot-fractions e = unsatisfied-fractions (problem ws) (cannot-satisfied e)

  pub never_both : verdict_of (answer ws) ≡ pos 1 → Unsatisfied (problem ws) → ⊥
  never_both e U =
      let (d, x, S) = pairs-satisfied (problem ws) (denominator_of (answer ws))
      (pair_part (vars (problem ws)) (answer ws)) (can-meets-limits e) in
      U d x S

  -- ---- the run of words whose limits do not cross

  module _ (c : conflict pairs (inner (problem ws)) ≡ none) where
    apart : Apart pairs (inner (problem ws))
    apart = no-conflict pairs (inner (problem ws)) c

    sound : Sound pairs (inner (problem ws)) (begin ws)
    sound = sound-start pairs (inner (problem ws)) pairs-laws apart

    pub no-twice : (i j : ℕ) → i < j → Runs pairs (inner (problem ws)) (begin ws) j →
        (after pairs (inner (problem ws)) (begin ws) i).seats ≢ (after pairs (inner (problem ws)) (begin ws) j).seats
    no-twice = twice-never pairs pairs-laws (inner (problem ws)) (begin ws) apart sound

    pub few-pivots : (k : ℕ) → Runs pairs (inner (problem ws)) (begin ws) k → k < bound (inner (problem ws))
    few-pivots =
        below-bound pairs pairs-laws (inner (problem ws)) (begin ws) apart sound
        (start-seated pairs (inner (problem ws)))

    pub run_ends : TheRun (inner (problem ws)) (begin ws)
    run_ends = answer-run (inner (problem ws)) (begin ws) c ready

  -- ---- the count, of any words

  pub count-below : (k : ℕ) × (word (answer ws) 1 ≡ pos k) × (k < bound (inner (problem ws)))
  unfolding answer
  count-below = go (conflict pairs (inner (problem ws))) refl
    where
      go : (o : Option ℕ) → conflict pairs (inner (problem ws)) ≡ o →
          (k : ℕ) × (word (answer_from (inner (problem ws)) (begin ws)) 1 ≡ pos k) × (k < bound (inner (problem ws)))
      go (some v) e =
          (0, ap (λ a. word a 1) (answer-crossed (inner (problem ws)) (begin ws) v e), bound_some (inner (problem ws)))
      go none e = let R = run_ends e in (R.count, R.word-1, R.below)

-- ---- the output

pub solve-only : (ws before : List ℤ) (r r' : ℕ) (out out' : List ℤ) →
    (r ≡ refusal ws (length before)) × (out ≡ written r ws before) →
    (r' ≡ refusal ws (length before)) × (out' ≡ written r' ws before) →
    (r ≡ r') × (out ≡ out')
solve-only ws before r r' out out' (a, b) (c, d) = (a ∙ sym c, b ∙ ap (λ k. written k ws before) (a ∙ sym c) ∙ sym d)

pub refused-kept : (ws before : List ℤ) (r : ℕ) → r ≢ 0 → written r ws before ≡ before
unfolding written
refused-kept ws before zero n = absurd (n refl)
refused-kept ws before (suc k) n = refl

module _ (ws before : List ℤ) (room : answer_length ws ≤ length before) where
  pub written-length : length (written 0 ws before) ≡ length before
  unfolding written
  written-length = laid-long (answer ws) before (answer_length ws) (answer-shaped ws).many room

  pub written-past : (i : ℕ) → word (written 0 ws before) (answer_length ws + i) ≡ word before (answer_length ws + i)
  unfolding written
  written-past i = laid-past (answer ws) before (answer_length ws) (answer-shaped ws).many i (pos 0)
