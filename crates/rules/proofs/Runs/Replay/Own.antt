-- A problem's own trace.
--   count-is                  it has as many steps as word 1 of the answer tells
--   trace-refusal-exactly     the refusal is k exactly where no earlier line applies and line k's does
--   trace-kept                a refusal keeps every word of the room, and tells that none was written
--   trace-told                else as many words are told as the trace has: three for each pivot of the answer
--   trace-front, trace-past   the first words of the room are the trace, and those behind it are kept
--   traced-accepted           what is traced is accepted
use mathlib.Core.List.{List, [], ◌∷◌}
use mathlib.Core.Logic.{◌↔◌, ◌≢◌}
use mathlib.Core.Path.{ap, refl, sym, ◌∙◌, ◌≡◌}
use Prim.Native.Nat.{ℕ, suc, zero, ◌%◌, ◌*◌, ◌+◌}
use native.Mathlib.Omega.{arith}
use lib.Dec.{ltb}
use lib.IntN.{nat_abs, pos, ℤ}
use lib.ListN.{get_or, length, take}
use Rattle.whole.proofs.Lists.Prefix.{laid-front, laid-past}
use Rattle.whole.proofs.Lists.Tables.{table-length}
use Rattle.whole.proofs.Tells.{tells-eq, tells-false, tells-lt, tells-not}
use Rattle.whole.specs.Values.{pairs}
use Rattle.rules.proofs.Answer.Run.{words_count}
use Rattle.rules.proofs.Refusal.Exactly.{numbered, problem-tested}
use Rattle.rules.proofs.Refusal.First.{first-exactly, first-front, first-passed, first-skip, no_test, tested}
use Rattle.rules.proofs.Refusal.First.{tested-then}
use Rattle.rules.proofs.Runs.Replay.Answers.{own-accepted}
use Rattle.rules.specs.Answer.{answer, answer_from}
use Rattle.rules.specs.Facts.Refusal.{First}
use Rattle.rules.specs.Facts.Runs.Replay.{trace_table}
use Rattle.rules.specs.Problem.{inner, problem, word}
use Rattle.rules.specs.Refusal.{first, problem_tests}
use Rattle.rules.specs.Run.{ending}
use Rattle.rules.specs.Runs.Replay.{accepted, bad_trace, replay_refusal, replayed_words}
use Rattle.rules.specs.Runs.Trace.{own_step, run_count, trace_count, trace_length, trace_output, trace_refusal}
use Rattle.rules.specs.Runs.Trace.{trace_words}
use Rattle.rules.specs.Sizes.{most_rows}
use Rattle.rules.specs.Step.{start}

pub count-is : (ws : List ℤ) → word (answer ws) 1 ≡ pos (run_count ws)
unfolding answer answer_from run_count
count-is ws = words_count (inner (problem ws)) (ending pairs (inner (problem ws)) (start pairs (inner (problem ws))))

pub trace-refusal-exactly : (ws : List ℤ) (room k : ℕ) →
    (trace_refusal ws room ≡ k) ↔ First (trace_table ws room) k
unfolding trace_refusal
trace-refusal-exactly ws room k =
    first-exactly (tested-then (problem-tested most_rows ws) (tested (tells-lt room (trace_length ws)) no_test)) k

pub trace-kept : (k : ℕ) (ws : List ℤ) (before : List ℕ) → k ≢ 0 →
    (trace_output k ws before ≡ before) × (trace_count k ws ≡ 0)
trace-kept zero ws before n = absurd (n refl)
trace-kept (suc k) ws before n = (refl, refl)

pub trace-told : (ws : List ℤ) (c : ℕ) → word (answer ws) 1 ≡ pos c → trace_count 0 ws ≡ 3 * c
trace-told ws c e = ap (λ n. 3 * n) (ap nat_abs (sym (count-is ws) ∙ e))

module _ (ws : List ℤ) where
  abbrev own : List ℕ
  own = trace_words (run_count ws) (own_step ws)

  own-long : length own ≡ trace_length ws
  own-long = table-length (3 * run_count ws) _

  pub trace-front : (before : List ℕ) → take (trace_length ws) (trace_output 0 ws before) ≡ own
  trace-front before = laid-front own before (trace_length ws) own-long

  pub trace-past : (before : List ℕ) (i : ℕ) →
      get_or (trace_output 0 ws before) (trace_length ws + i) 0 ≡ get_or before (trace_length ws + i) 0
  trace-past before i = laid-past own before (trace_length ws) own-long i 0

  pub traced-accepted : (room : ℕ) → trace_refusal ws room ≡ 0 →
      (replay_refusal ws own ≡ 0) × (replayed_words ws own ≡ accepted)
  unfolding trace_refusal replay_refusal bad_trace first
  traced-accepted room e = (
    first-passed 10 (problem_tests most_rows ws) ((bad_trace own, 51) ∷ []) (numbered most_rows ws)
        (first-front (problem_tests most_rows ws) ((ltb room (trace_length ws), 7) ∷ []) e)
        ∙ first-skip 51 [] (tells-false (tells-not (tells-eq (length own % 3) 0)) (let h = own-long in omega arith)),
    own-accepted ws (run_count ws) (count-is ws),
  )
