-- Traces against the problem of some words, crossed limits or not. c is the count that word 1 of the answer tells.
--   trace-exactly          each answer is given exactly where its facts hold (`ReplayIs` of Facts/Runs/Replay)
--   accepted-trace-exactly, early-exactly, past-exactly, wrong-exactly    one by one
--   replay-only            two answers whose facts hold are equal
--   run-step-exactly       the words of a step of the run, in plain words
--   own-accepted, own-only    the problem's own trace is accepted, and none else
--   replay-refusal-exactly    the refusal is k exactly where no earlier line applies and line k's does
use mathlib.Core.List.{List}
use mathlib.Core.Logic.{◌↔◌}
use mathlib.Core.Option.{Option, none, some}
use mathlib.Core.Path.{ap, refl, subst, sym, ◌∙◌, ◌≡◌}
use Prim.Native.Nat.{suc, zero, ℕ, ◌%◌, ◌*◌, ◌+◌, ◌/◌, ◌<◌}
use native.Mathlib.Omega.{arith}
use lib.IntN.{pos, ℤ}
use lib.ListN.{get_or, length}
use Rattle.whole.proofs.Lists.Tables.{table-all, table_at, table-length, table_same}
use Rattle.whole.proofs.Tells.{tells-eq, tells-not}
use Rattle.whole.proofs.Values.Beside.{pairs-laws}
use Rattle.whole.specs.Tables.{table}
use Rattle.whole.specs.Values.{pairs}
use Rattle.rules.proofs.Answer.Run.{answer-crossed, answer-run}
use Rattle.rules.proofs.Refusal.Exactly.{problem-tested}
use Rattle.rules.proofs.Refusal.First.{first-exactly, no_test, tested, tested-then}
use Rattle.rules.proofs.Run.Once.{next-after}
use Rattle.rules.proofs.Runs.Replay.Exactly.{replay-exactly}
use Rattle.rules.proofs.Runs.Replay.Words.{run-words, same-step-words}
use Rattle.rules.proofs.Termination.Ends.{ready-start}
use Rattle.rules.specs.Answer.{answer}
use Rattle.rules.specs.Facts.Refusal.{First, Tests}
use Rattle.rules.specs.Facts.Run.{begin}
use Rattle.rules.specs.Facts.Runs.Replay.{AcceptedAs, EarlyAs, PastAs, ReplayIs, RunStep, WrongAs}
use Rattle.rules.specs.Facts.Runs.Replay.{replay_table, trace_line}
use Rattle.rules.specs.Problem.{Problem, inner, problem, word}
use Rattle.rules.specs.Run.{Ends, after, conflict}
use Rattle.rules.specs.Runs.Replay.{Replayed, StepWord, TraceStep, accepted, bad_trace, early, empty_only, past}
use Rattle.rules.specs.Runs.Replay.{replay_refusal, replayed, replayed_from, replayed_words, step_at, step_count}
use Rattle.rules.specs.Runs.Replay.{wrong}
use Rattle.rules.specs.Runs.Trace.{own_step, step_word_at, trace_words}
use Rattle.rules.specs.Sizes.{most_rows}
use Rattle.rules.specs.Step.{start}

-- ---- a start conflict

module _ (own f : ℕ → TraceStep) where
  empty-told : (steps : ℕ) → ReplayIs 0 own f steps (empty_only steps)
  empty-told zero = record { as_many = refl; each = λ i h. let z : ⊥ = omega arith in absurd z }
  empty-told (suc k) = record { more = omega arith; each = λ i h. let z : ⊥ = omega arith in absurd z }

  empty-is : (steps : ℕ) (r : Replayed) → ReplayIs 0 own f steps r → empty_only steps ≡ r
  empty-is steps accepted A = ap empty_only A.as_many
  empty-is steps early A = let h = A.fewer in let z : ⊥ = omega arith in absurd z
  empty-is zero past A = let h = A.more in let z : ⊥ = omega arith in absurd z
  empty-is (suc k) past A = refl
  empty-is steps (wrong k w) A = let h = A.in-run in let z : ⊥ = omega arith in absurd z

-- ---- with or without one

module _ (P : Problem (ℤ × ℤ)) (f : ℕ → TraceStep) (steps : ℕ) where
  pub replayed-run : conflict pairs P ≡ none →
      replayed pairs P f steps ≡ replayed_from pairs P (start pairs P) f 0 steps
  unfolding replayed
  replayed-run e = rw (e, replayed)

  pub replayed-crossed : (v : ℕ) → conflict pairs P ≡ some v → replayed pairs P f steps ≡ empty_only steps
  unfolding replayed
  replayed-crossed v e = rw (e, replayed)

-- ---- of words

module _ (ws : List ℤ) (c : ℕ) (counts : word (answer ws) 1 ≡ pos c) where
  abbrev P : Problem (ℤ × ℤ)
  P = inner (problem ws)

  same_count : (j : ℕ) → word (answer ws) 1 ≡ pos j → j ≡ c
  same_count j e = let z : pos j ≡ pos c = sym e ∙ counts in cc

  -- the run ends there, unless limits cross
  own-ends : conflict pairs P ≡ none → Ends pairs P (begin ws) c
  unfolding answer
  own-ends e = let T = answer-run P (begin ws) e (ready-start pairs pairs-laws P) in
      subst (Ends pairs P (begin ws)) (same_count T.count T.word-1) T.ends

  crossed-count : (v : ℕ) → conflict pairs P ≡ some v → 0 ≡ c
  unfolding answer
  crossed-count v e = same_count 0 (ap (λ l. word l 1) (answer-crossed P (begin ws) v e))

  pub trace-exactly : (trace : List ℕ) (r : Replayed) →
      (replayed_words ws trace ≡ r) ↔ ReplayIs c (own_step ws) (step_at trace) (step_count trace) r
  trace-exactly trace r = go (conflict pairs P) refl
    where
      go : (o : Option ℕ) → conflict pairs P ≡ o →
          (replayed_words ws trace ≡ r) ↔ ReplayIs c (own_step ws) (step_at trace) (step_count trace) r
      go none e = let q = replayed-run P (step_at trace) (step_count trace) e in
          let R = replay-exactly pairs P (begin ws) c (own-ends e) (step_at trace) (step_count trace) r in
          (λ h. R.0 (sym q ∙ h), λ A. q ∙ R.1 A)
      go (some v) e = let q = replayed-crossed P (step_at trace) (step_count trace) v e in
          let z = crossed-count v e in (
            λ h. subst (λ j. ReplayIs j (own_step ws) (step_at trace) (step_count trace) r) z
                (subst (ReplayIs 0 (own_step ws) (step_at trace) (step_count trace)) (sym q ∙ h)
                (empty-told (own_step ws) (step_at trace) (step_count trace))),
            λ A. q ∙ empty-is (own_step ws) (step_at trace) (step_count trace) r
                (subst (λ j. ReplayIs j (own_step ws) (step_at trace) (step_count trace) r) (sym z) A),
          )

  module _ (trace : List ℕ) where
    pub accepted-trace-exactly : (replayed_words ws trace ≡ accepted)
        ↔ AcceptedAs c (own_step ws) (step_at trace) (step_count trace)
    accepted-trace-exactly = trace-exactly trace accepted

    pub early-exactly : (replayed_words ws trace ≡ early) ↔ EarlyAs c (own_step ws) (step_at trace) (step_count trace)
    early-exactly = trace-exactly trace early

    pub past-exactly : (replayed_words ws trace ≡ past) ↔ PastAs c (own_step ws) (step_at trace) (step_count trace)
    past-exactly = trace-exactly trace past

    pub wrong-exactly : (k : ℕ) (w : StepWord) →
        (replayed_words ws trace ≡ wrong k w) ↔ WrongAs c (own_step ws) (step_at trace) (step_count trace) k w
    wrong-exactly k w = trace-exactly trace (wrong k w)

    pub replay-only : (r q : Replayed) → ReplayIs c (own_step ws) (step_at trace) (step_count trace) r →
        ReplayIs c (own_step ws) (step_at trace) (step_count trace) q → r ≡ q
    replay-only r q A B = sym ((trace-exactly trace r).1 A) ∙ (trace-exactly trace q).1 B

  -- the words of a step of the run: who leaves, who enters, and the basis after it. Where limits cross there is none
  pub run-step-exactly : (i : ℕ) → i < c →
      RunStep pairs P (after pairs P (begin ws) i) (after pairs P (begin ws) (suc i)) (own_step ws i)
  run-step-exactly i h = go (conflict pairs P) refl
    where
      go : (o : Option ℕ) → conflict pairs P ≡ o →
          RunStep pairs P (after pairs P (begin ws) i) (after pairs P (begin ws) (suc i)) (own_step ws i)
      go none e = run-words pairs P (after pairs P (begin ws) i) (after pairs P (begin ws) (suc i))
          (next-after pairs P (begin ws) i ((own-ends e).runs i h))
      go (some v) e = let q = crossed-count v e in let z : ⊥ = omega arith in absurd z

  -- ---- the problem's own trace

  own-steps : (i : ℕ) → i < c → step_at (trace_words c (own_step ws)) i ≡ own_step ws i
  own-steps i h = same-step-words
      (ap (λ j. get_or (trace_words c (own_step ws)) j 0) (let z : 3 * i ≡ 3 * i + 0 = omega arith in z)
      ∙ at 0 (omega arith))
      (at 1 (omega arith)) (at 2 (omega arith))
    where
      at : (j : ℕ) → j < 3 → get_or (trace_words c (own_step ws)) (3 * i + j) 0 ≡ step_word_at (own_step ws i) j
      at j l = table_at (3 * c) _ 0 (3 * i + j) (omega arith)
          ∙ ap (λ k. step_word_at (own_step ws k) ((3 * i + j) % 3)) (let z : (3 * i + j) / 3 ≡ i = omega arith in z)
          ∙ ap (step_word_at (own_step ws i)) (let z : (3 * i + j) % 3 ≡ j = omega arith in z)

  pub own-accepted : replayed_words ws (trace_words c (own_step ws)) ≡ accepted
  own-accepted = (accepted-trace-exactly (trace_words c (own_step ws))).1
      (record { as_many = as_many; each = λ i h. own-steps i (omega (arith, h, as_many)) })
    where
      as_many : step_count (trace_words c (own_step ws)) ≡ c
      as_many = ap (λ n. n / 3) (table-length (3 * c) _) ∙ (let z : 3 * c / 3 ≡ c = omega arith in z)

  -- .. and no other whose length is a multiple of three
  pub own-only : (trace : List ℕ) → length trace % 3 ≡ 0 → replayed_words ws trace ≡ accepted →
      trace ≡ trace_words c (own_step ws)
  own-only trace m e = sym (table-all trace 0)
      ∙ ap (λ n. table n (λ i. get_or trace i 0)) full ∙ table_same (3 * c) _ _ (λ i h. at i h)
    where
      A : AcceptedAs c (own_step ws) (step_at trace) (step_count trace)
      A = (accepted-trace-exactly trace).0 e

      full : length trace ≡ 3 * c
      full = let q = A.as_many in omega (arith, q, m)

      at : (i : ℕ) → i < 3 * c → get_or trace i 0 ≡ step_word_at (own_step ws (i / 3)) (i % 3)
      at i h = by (i % 3) (let z : i ≡ 3 * (i / 3) + i % 3 = omega arith in z) (omega arith)
          ∙ ap (λ a. step_word_at a (i % 3)) (A.each (i / 3) (let q = A.as_many in omega (arith, q, h)))
        where
          by : (j : ℕ) → i ≡ 3 * (i / 3) + j → j < 3 → get_or trace i 0 ≡ step_word_at (step_at trace (i / 3)) j
          by zero q l = ap (λ k. get_or trace k 0) (let z : i ≡ 3 * (i / 3) = omega (arith, q) in z)
          by (suc zero) q l = ap (λ k. get_or trace k 0) q
          by (suc (suc zero)) q l = ap (λ k. get_or trace k 0) q
          by (suc (suc (suc k))) q l = let z : ⊥ = omega arith in absurd z

-- ---- refusals

trace-tells : (trace : List ℕ) → Tests (bad_trace trace) (trace_line trace)
unfolding bad_trace
trace-tells trace = tells-not (tells-eq (length trace % 3) 0)

pub replay-refusal-exactly : (ws : List ℤ) (trace : List ℕ) (k : ℕ) →
    (replay_refusal ws trace ≡ k) ↔ First (replay_table ws trace) k
unfolding replay_refusal
replay-refusal-exactly ws trace k =
    first-exactly (tested-then (problem-tested most_rows ws) (tested (trace-tells trace) no_test)) k
