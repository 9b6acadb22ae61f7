-- The demands of each check, over the limits that are on and from its own start.
--   cannot-checked, can-checked    verdict 2 is met by none, and verdict 1 by its pairs
--   shaped-checked                 as many words as RULES says, and a verdict 1, 2 or 3
--   range-checked                  3 exactly where the run leaves the range
--   conflict-checked               while limits conflict: the lowest such variable, no pivot, and the session is kept
--   twice-checked, few-checked, run-checked    no arrangement comes twice, fewer pivots than the bound, and the words
--                                  are those of the end of the run
--   rested-checked                 the state that is kept is the one at the run's end
--   count-checked                  word 1 is below the bound, conflict or not
--   check-exactly                  7 exactly where the output is too short, else 0 (`check_table` of
--   Facts/Runs/Session)
--   output-length, output-past     an output keeps its length and the words past the answer
--   check-fine                     .. and 0 exactly where it is not
--   check-kept                     a check that is refused changes neither session nor output
--   check-only                     any two results that a check may have are equal
use mathlib.Core.List.{List, [], ◌∷◌, ◌++◌}
use mathlib.Core.Logic.{◌↔◌, ◌≢◌}
use mathlib.Core.Option.{Option, none, some}
use mathlib.Core.Path.{ap, refl, sym, ◌∙◌, ◌≡◌}
use Prim.Native.Nat.{ℕ, suc, zero, ◌*◌, ◌+◌, ◌<◌, ◌≤◌}
use native.Mathlib.Omega.{arith}
use lib.Dec.{ltb}
use lib.IntN.{pos, ℤ}
use lib.ListN.{length}
use Rattle.whole.proofs.Lists.Prefix.{laid-long, laid-past}
use Rattle.whole.proofs.Values.Beside.{pairs-laws}
use Rattle.whole.proofs.Tells.{tells-lt}
use Rattle.whole.specs.Tables.{table}
use Rattle.whole.specs.Values.{pairs}
use Rattle.rules.proofs.Answer.OutOfRange.{range-verdict}
use Rattle.rules.proofs.Answer.Run.{answer-crossed, answer-run}
use Rattle.rules.proofs.Answer.Shape.{shaped}
use Rattle.rules.proofs.Demands.{can-from, cannot-from}
use Rattle.rules.proofs.Refusal.First.{Tested, first-exactly, first_fine, no_test, tested}
use Rattle.rules.proofs.Run.Start.{no-conflict}
use Rattle.rules.proofs.Run.State.{ready-sound}
use Rattle.rules.proofs.Run.Steady.{twice-never}
use Rattle.rules.proofs.Runs.Session.Fair.{fair-ready, rested-crossed, rested-run}
use Rattle.rules.proofs.Termination.Bound.{below-bound, bound_some}
use Rattle.rules.specs.Evidence.{Meets, Unmet, denominator_of, pair_part, verdict_of}
use Rattle.rules.specs.Facts.Answer.{Shaped}
use Rattle.rules.specs.Facts.Range.{TooLarge}
use Rattle.rules.specs.Facts.Refusal.{AllFine, First}
use Rattle.rules.specs.Facts.Run.{TheRun}
use Rattle.rules.specs.Facts.Runs.Session.{Fair, check_table}
use Rattle.rules.specs.Facts.State.{Apart, Ready, Sound}
use Rattle.rules.specs.Problem.{Problem, vars, word}
use Rattle.rules.specs.Run.{Runs, after, bound, conflict}
use Rattle.rules.specs.Runs.Session.{Session, with_state, check_answer, check_length, check_output, check_refusal}
use Rattle.rules.specs.Runs.Session.{live_of, rested, rested_by}
use Rattle.rules.specs.Step.{State, same}

module _ (A : Session (ℤ × ℤ)) (F : Fair pairs A) where
  abbrev P : Problem (ℤ × ℤ)
  P = live_of A

  abbrev s : State (ℤ × ℤ)
  s = A.state

  ready : Ready pairs P s
  ready = fair-ready pairs A F

  -- ---- demand 2

  pub cannot-checked : verdict_of (check_answer A) ≡ pos 2 → Unmet pairs P
  unfolding check_answer
  cannot-checked e = cannot-from P s ready e

  pub can-checked : verdict_of (check_answer A) ≡ pos 1 →
      Meets pairs P (denominator_of (check_answer A)) (pair_part (vars A.given) (check_answer A))
  unfolding check_answer
  can-checked e = can-from P s ready e

  pub shaped-checked : Shaped (vars A.given) (check_answer A)
  unfolding check_answer
  shaped-checked = shaped P s ready

  pub range-checked : (verdict_of (check_answer A) ≡ pos 3)
      ↔ ((conflict pairs (live_of A) ≡ none)
      × ((k : ℕ) × Runs pairs (live_of A) A.state k
      × TooLarge pairs (live_of A) (after pairs (live_of A) A.state k)))
  unfolding check_answer
  range-checked = range-verdict P s ready

  -- ---- limits that conflict

  pub conflict-checked : (v : ℕ) → conflict pairs (live_of A) ≡ some v →
      (check_answer A ≡ pos 2 ∷ pos 0 ∷ pos 0 ∷ table (vars A.given) (same v) ++ table (vars A.given) (same v))
      × (rested pairs A ≡ A)
  unfolding check_answer
  conflict-checked v e = (answer-crossed P s v e, rested-crossed pairs pairs-laws A F v e)

  -- ---- demand 3, where none do

  module _ (c : conflict pairs (live_of A) ≡ none) where
    apart : Apart pairs P
    apart = no-conflict pairs P c

    sound : Sound pairs P s
    sound = ready-sound pairs P s apart ready

    pub twice-checked : (i j : ℕ) → i < j → Runs pairs (live_of A) A.state j →
        (after pairs (live_of A) A.state i).seats ≢ (after pairs (live_of A) A.state j).seats
    twice-checked = twice-never pairs pairs-laws P s apart sound

    -- the bound is that of the problem handed in, whatever is on
    pub few-checked : (k : ℕ) → Runs pairs (live_of A) A.state k → k < bound A.given
    unfolding bound
    few-checked = below-bound pairs pairs-laws P s apart sound F.kept.seated-many

    pub run-checked : TheRun (live_of A) A.state
    run-checked = answer-run P s c ready

    pub rested-checked : rested pairs A ≡ with_state A (after pairs (live_of A) A.state run-checked.count)
    rested-checked = rested-run pairs pairs-laws A F c run-checked.count run-checked.ends

  pub count-checked : (k : ℕ) × (word (check_answer A) 1 ≡ pos k) × (k < bound A.given)
  unfolding check_answer bound
  count-checked = go (conflict pairs P) refl
    where
      go : (o : Option ℕ) → conflict pairs P ≡ o → (k : ℕ) × (word (check_answer A) 1 ≡ pos k) × (k < bound A.given)
      go (some v) e = (0, ap (λ a. word a 1) (answer-crossed P s v e), bound_some P)
      go none e = let R = run-checked e in (R.count, R.word-1, R.below)

  -- ---- the output

  module _ (before : List ℤ) (room : check_length A ≤ length before) where
    pub output-length : length (check_output 0 A before) ≡ length before
    output-length = laid-long (check_answer A) before (check_length A) shaped-checked.many room

    pub output-past : (i : ℕ) → word (check_output 0 A before) (check_length A + i) ≡ word before (check_length A + i)
    output-past i = laid-past (check_answer A) before (check_length A) shaped-checked.many i (pos 0)

module _ (A : Session (ℤ × ℤ)) where
  check-tested : (room : ℕ) → Tested ((ltb room (check_length A), 7) ∷ []) (check_table A room)
  check-tested room = tested (tells-lt room (3 + 2 * vars A.given)) no_test

  pub check-exactly : (room k : ℕ) → (check_refusal A room ≡ k) ↔ First (check_table A room) k
  unfolding check_refusal
  check-exactly room k = first-exactly (check-tested room) k

  pub check-fine : (room : ℕ) → (check_refusal A room ≡ 0) ↔ AllFine (check_table A room)
  unfolding check_refusal
  check-fine room = first_fine (check-tested room) (λ e. let z : ⊥ = omega arith in z, tt)

  pub check-kept : (before : List ℤ) (r : ℕ) → r ≢ 0 → (rested_by pairs r A ≡ A) × (check_output r A before ≡ before)
  check-kept before zero n = absurd (n refl)
  check-kept before (suc k) n = (refl, refl)

  -- number, session and output
  abbrev pub MayBe : List ℤ → ℕ → Session (ℤ × ℤ) → List ℤ → Type 0
  MayBe before r B out =
      (r ≡ check_refusal A (length before)) × (B ≡ rested_by pairs r A) × (out ≡ check_output r A before)

  pub check-only : (before : List ℤ) (r r' : ℕ) (B B' : Session (ℤ × ℤ)) (out out' : List ℤ) →
      MayBe before r B out → MayBe before r' B' out' → (r ≡ r') × (B ≡ B') × (out ≡ out')
  check-only before r r' B B' out out' (a, b, c) (d, e, f) = (
    a ∙ sym d,
    b ∙ ap (λ k. rested_by pairs k A) (a ∙ sym d) ∙ sym e,
    c ∙ ap (λ k. check_output k A before) (a ∙ sym d) ∙ sym f,
  )
