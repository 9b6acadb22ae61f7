-- docs/RULES.md, "Replaying a trace": the trace of a problem's own run.
--   run_step, own_step           the words of step i of the run: from a state, and of a problem's words
--   trace_words                 steps as words, three each
--   run_count, trace_length      how many pivots the run has, and how many words its trace
--   trace_refusal               the problem's own refusals, then 7
--   trace_output, trace_count    what stands in the room afterwards, and how many words were written
use Rattle.std.specs.Prelude.{List, [], ◌++◌, ◌∷◌, ℕ, suc, zero, ◌%◌, ◌*◌, ◌/◌, ltb, ℤ, drop}
use Rattle.whole.specs.Tables.{table}
use Rattle.whole.specs.Values.{Values, pairs}
use Rattle.rules.specs.Problem.{Problem, inner, problem}
use Rattle.rules.specs.Refusal.{first, problem_tests}
use Rattle.rules.specs.Run.{after, ending}
use Rattle.rules.specs.Runs.Replay.{TraceStep, step_words}
use Rattle.rules.specs.Sizes.{most_rows}
use Rattle.rules.specs.Step.{State, start}

abbrev pub run_step : {X : Type 0} → Values X → Problem X → State X → ℕ → TraceStep
run_step 𝓥 P s i = step_words 𝓥 P (after 𝓥 P s i) (after 𝓥 P s (suc i))

abbrev pub own_step : List ℤ → ℕ → TraceStep
own_step ws = run_step pairs (inner (problem ws)) (start pairs (inner (problem ws)))

-- ---- its words

abbrev pub step_word_at : TraceStep → ℕ → ℕ
step_word_at a zero = a.out
step_word_at a (suc zero) = a.into
step_word_at a (suc (suc k)) = a.mask

-- so many steps, one after the other
abbrev pub trace_words : ℕ → (ℕ → TraceStep) → List ℕ
trace_words c own = table (3 * c) (λ i. step_word_at (own (i / 3)) (i % 3))

-- where limits cross there is no pivot
unfoldable pub run_count : List ℤ → ℕ
run_count ws = (ending pairs (inner (problem ws)) (start pairs (inner (problem ws)))).pivots

abbrev pub trace_length : List ℤ → ℕ
trace_length ws = 3 * run_count ws

-- ---- what is written

-- room is how many words there is room for
unfoldable pub trace_refusal : List ℤ → ℕ → ℕ
trace_refusal ws room = first (problem_tests most_rows ws ++ ((ltb room (trace_length ws), 7) ∷ []))

-- refused with this number or not: what stood there, or the trace and what stood behind it
abbrev pub trace_output : ℕ → List ℤ → List ℕ → List ℕ
trace_output zero ws before = trace_words (run_count ws) (own_step ws) ++ drop (trace_length ws) before
trace_output (suc k) ws before = before

abbrev pub trace_count : ℕ → List ℤ → ℕ
trace_count zero ws = trace_length ws
trace_count (suc k) ws = 0
