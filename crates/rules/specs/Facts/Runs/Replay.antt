-- docs/RULES.md, "Replaying a trace": what each answer says, in plain words. The run has c pivots, and `own i` are the
-- words of its step i; the trace has so many steps, and `f i` are the words of its step i.
--   RunStep      the words of a step of the run: the lowest basic variable outside of its limits, the lowest that may
--                move, and the new basis
--   Differs      a word differs, and none before it
--   ReplayIs     accepted, wrong, early or past
--   replay_table, trace_table   the lines of refusals: of a replay, and of a problem's own trace
use Rattle.std.specs.Prelude.{true, List, [], ◌++◌, ◌∷◌, ◌↔◌, ◌≢◌, ◌≡◌, ℕ, ◌%◌, ◌<◌, ◌≤◌, ℤ, length}
use Rattle.std.proofs.Math.Option.{none}
use Rattle.whole.specs.Values.{Values}
use Rattle.rules.specs.Facts.Refusal.{Line, line_of, problem_table}
use Rattle.rules.specs.Facts.Rule.{Entered, Left}
use Rattle.rules.specs.Problem.{Problem, vars}
use Rattle.rules.specs.Runs.Replay.{Replayed, StepWord, TraceStep, accepted, bit_in, early, entering-word}
use Rattle.rules.specs.Runs.Replay.{leaving-word, mask_word, past, wrong}
use Rattle.rules.specs.Runs.Trace.{trace_length}
use Rattle.rules.specs.Sizes.{most_rows}
use Rattle.rules.specs.Step.{Leaving, State, seat}

-- ---- a step of the run

module _ {X : Type 0} (𝓥 : Values X) (P : Problem X) where
  -- the words of a step from s to t
  pub record RunStep (s t : State X) (a : TraceStep) : Type 0 where
    pub leaving : Leaving X
    pub left : Left 𝓥 P s leaving
    pub entered : Entered 𝓥 P s leaving a.into
    pub out-is : a.out ≡ leaving.variable
    pub mask_is : (v : ℕ) → (bit_in a.mask v ≡ true) ↔ ((v < vars P) × (seat t v ≡ none))

-- ---- what the answers say

abbrev pub Differs : StepWord → TraceStep → TraceStep → Type 0
Differs leaving-word a b = a.out ≢ b.out
Differs entering-word a b = (a.out ≡ b.out) × (a.into ≢ b.into)
Differs mask_word a b = (a.out ≡ b.out) × (a.into ≡ b.into) × (a.mask ≢ b.mask)

module _ (c : ℕ) (own f : ℕ → TraceStep) (steps : ℕ) where
  -- the first k steps are those of the run
  abbrev pub SameFront : ℕ → Type 0
  SameFront k = (i : ℕ) → i < k → f i ≡ own i

  pub record AcceptedAs : Type 0 where
    pub as_many : steps ≡ c
    pub each : SameFront steps

  pub record EarlyAs : Type 0 where
    pub fewer : steps < c
    pub each : SameFront steps

  pub record PastAs : Type 0 where
    pub more : c < steps
    pub each : SameFront c

  pub record WrongAs (k : ℕ) (w : StepWord) : Type 0 where
    pub in-run : k < c
    pub in-trace : k < steps
    pub each : SameFront k
    pub differs : Differs w (own k) (f k)

  abbrev pub ReplayIs : Replayed → Type 0
  ReplayIs accepted = AcceptedAs
  ReplayIs (wrong k w) = WrongAs k w
  ReplayIs early = EarlyAs
  ReplayIs past = PastAs

-- ---- refusals

abbrev pub trace_line : List ℕ → Line
trace_line trace = line_of 51 (length trace % 3 ≢ 0) (length trace % 3 ≡ 0)

abbrev pub replay_table : List ℤ → List ℕ → List Line
replay_table ws trace = problem_table most_rows ws ++ (trace_line trace ∷ [])

-- .. of a problem's own trace: 7, the room is too short
abbrev pub trace_table : List ℤ → ℕ → List Line
trace_table ws room = problem_table most_rows ws ++ (line_of 7 (room < trace_length ws) (trace_length ws ≤ room) ∷ [])
