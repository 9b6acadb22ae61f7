-- Out of range, exactly: there are a leaving and an entering variable, and the lowest-form tableau of the next basic
-- set, which is one, holds a number beyond the largest.
--   range-exactly    a step is out of range exactly then: `TooLarge` of specs/Facts/Range
--   range-verdict    the verdict is 3 exactly where no limits cross and, for some k, the run has k pivots and the state
--                    after them is so
--   range-words      the same of the answer to any words
use mathlib.Core.Bool.{false}
use mathlib.Core.List.{List}
use mathlib.Core.Logic.{inl, inr, ◌↔◌}
use mathlib.Core.Option.{none, some}
use mathlib.Core.Path.{ap, subst, sym, ◌∙◌, ◌≡◌}
use Prim.Native.Nat.{ℕ}
use native.Mathlib.Omega.{arith}
use lib.Dec.{T}
use lib.IntN.{pos, ℤ}
use Rattle.whole.proofs.Values.Beside.{pairs-laws}
use Rattle.whole.proofs.Tells.{tells-false}
use Rattle.whole.specs.Numbers.{Within}
use Rattle.whole.specs.Values.{Values, pairs}
use Rattle.rules.proofs.Answer.Run.{answer-run}
use Rattle.rules.proofs.Answer.Cases.{answered, other-verdict}
use Rattle.rules.proofs.Termination.Ends.{ready-start}
use Rattle.rules.proofs.Step.Entering.{entered}
use Rattle.rules.proofs.Step.Leaving.{left}
use Rattle.rules.proofs.Run.Steady.{rowed-after}
use Rattle.rules.proofs.Step.Cases.{step_range}
use Rattle.rules.proofs.Tableau.Unique.{next-moved, next-only}
use Rattle.rules.proofs.Tableau.InRange.{small-tells}
use Rattle.rules.specs.Answer.{answer, answer_from, words_of}
use Rattle.rules.specs.Facts.Answer.{Answered, can-at, cannot-at, crossing, range_at}
use Rattle.rules.specs.Evidence.{verdict_of}
use Rattle.rules.specs.Problem.{Problem, inner, problem, vars, word}
use Rattle.rules.specs.Facts.Range.{Beyond, TooLarge}
use Rattle.rules.specs.Run.{Runs, after, conflict}
use Rattle.rules.specs.Sizes.{largest_number}
use Rattle.rules.specs.Facts.State.{Ready, Rowed}
use Rattle.rules.specs.Step.{Leaving, Outcome, State, entering, leaving, moved, range, start, step}
use Rattle.rules.specs.Tableau.{Tableau, small}
use Rattle.rules.specs.Facts.Tableau.{SameNumbers}

module _ {X : Type 0} (𝓥 : Values X) (P : Problem X) where
  beyond-same : (t u : Tableau) → SameNumbers 𝓥 P t u → Beyond (vars P) t → Beyond (vars P) u
  beyond-same t u e (inl n) = inl (subst (λ z. ¬ Within z largest_number) e.0 n)
  beyond-same t u e (inr (v, h, (w, k, n))) = inr (v, h, (w, k, subst (λ z. ¬ Within z largest_number) (e.1 v w h k) n))

  range-exactly : (s : State X) → Rowed 𝓥 P s → (step 𝓥 P s ≡ range) ↔ TooLarge 𝓥 P s
  range-exactly s S = (
    λ e. there ((step_range 𝓥 P s).0 e),
    λ T. (step_range 𝓥 P s).1 (
      T.out,
      T.into,
      T.leaves,
      T.enters,
      tells-false (small-tells (vars P) (moved 𝓥 P s T.out T.into).tableau)
          (beyond-same T.next.tableau (moved 𝓥 P s T.out T.into).tableau
          (next-only 𝓥 P s S T.out T.into (left 𝓥 P s T.out T.leaves)
          (entered 𝓥 P s T.out T.into T.enters) T.next T.is-next) T.beyond),
    ),
  )
    where
      there : (r : Leaving X) × (w : ℕ) × (leaving 𝓥 P s ≡ some r) × (entering 𝓥 P s r ≡ some w)
          × (small (vars P) (moved 𝓥 P s r w).tableau ≡ false) → TooLarge 𝓥 P s
      there (r, w, q, y, f) = record {
        out = r;
        into = w;
        leaves = q;
        enters = y;
        next = moved 𝓥 P s r w;
        is-next = next-moved 𝓥 P s S r w (left 𝓥 P s r q) (entered 𝓥 P s r w y);
        beyond = (small-tells (vars P) (moved 𝓥 P s r w).tableau).if-false f;
      }

module _ (P : Problem (ℤ × ℤ)) (s : State (ℤ × ℤ)) (S : Ready pairs P s) where
  pub range-verdict : (verdict_of (answer_from P s) ≡ pos 3)
      ↔ ((conflict pairs P ≡ none) × ((k : ℕ) × Runs pairs P s k × TooLarge pairs P (after pairs P s k)))
  unfolding words_of
  range-verdict = (λ e. there e (answered P s S), back)
    where
      there : verdict_of (answer_from P s) ≡ pos 3 → Answered P s →
          (conflict pairs P ≡ none) × ((k : ℕ) × Runs pairs P s k × TooLarge pairs P (after pairs P s k))
      there e (crossing v c z) = other-verdict P s 3 2 _ _ _ _ (omega arith) z e
      there e (can-at R q z) = other-verdict P s 3 1 _ _ _ _ (omega arith) z e
      there e (cannot-at R ls us b z) = other-verdict P s 3 2 _ _ _ _ (omega arith) z e
      there e (range_at R q z) = (
        R.uncrossed,
        (R.count, R.ends.runs, (range-exactly pairs P (after pairs P s R.count) R.sound.rowed).0 q),
      )

      back : (conflict pairs P ≡ none) × ((k : ℕ) × Runs pairs P s k × TooLarge pairs P (after pairs P s k)) →
          verdict_of (answer_from P s) ≡ pos 3
      back (c, (k, runs, T)) =
          let R = answer-run P s c S in
          let q = (range-exactly pairs P (after pairs P s k) (rowed-after pairs P s S.rowed k)).1 T in
          let z = R.only k (record { runs = runs; ended = rw q tt }) in
          ap (λ a. word a 0) R.words
          ∙ ap (λ (h : Outcome (ℤ × ℤ)). word (words_of P
          (record { how = h; pivots = R.count; last = after pairs P s R.count })) 0)
          (ap (λ j. step pairs P (after pairs P s j)) (sym z) ∙ q)

-- of the answer to any words
pub range-words : (ws : List ℤ) → (verdict_of (answer ws) ≡ pos 3)
    ↔ ((conflict pairs (inner (problem ws)) ≡ none)
    × ((k : ℕ) × Runs pairs (inner (problem ws)) (start pairs (inner (problem ws))) k
    × TooLarge pairs (inner (problem ws)) (after pairs (inner (problem ws)) (start pairs (inner (problem ws))) k)))
unfolding answer
range-words ws = range-verdict (inner (problem ws)) (start pairs (inner (problem ws)))
    (ready-start pairs pairs-laws (inner (problem ws)))
