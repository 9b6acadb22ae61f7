-- docs/formats/trace.md: problems with traces, and what is answered; and problems with their own traces.
use Rattle.std.specs.Prelude.{List, [], ◌∷◌, ◌++◌, map, ◌≡◌, ℕ, ℤ, pos, length, replicate}
use Rattle.rules.specs.Cases.Expected.{minus}
use Rattle.rules.specs.Cases.Limits.{case_a, case_g, case_h, case_inside, lower_only, zeros}
use Rattle.rules.specs.Runs.Replay.{Replayed, accepted, early, entering-word, leaving-word, mask_word, past}
use Rattle.rules.specs.Runs.Replay.{replay_refusal, replayed_words, wrong}
use Rattle.rules.specs.Runs.Trace.{trace_output, trace_refusal}

-- words, a trace, the refusal, and the answer where there is none
pub record ReplayCase : Type 0 where
  pub words : List ℤ
  pub trace : List ℕ
  pub refused : ℕ
  pub answer : Replayed

abbrev answered : List ℤ → List ℕ → Replayed → ReplayCase
answered ws trace r = record { words = ws; trace = trace; refused = 0; answer = r }

abbrev pub ReplaysRight : List ReplayCase → Type 0
ReplaysRight cs =
    map {B = ℕ × Replayed} (λ c. (replay_refusal c.words c.trace, replayed_words c.words c.trace)) cs
    ≡ map {B = ℕ × Replayed} (λ c. (c.refused, c.answer)) cs

-- 2 leaves and 0 enters, then 0, 3 and 4 are basic; 4 leaves and 1 enters, then 0, 1 and 3 are
abbrev trace_a : List ℕ
trace_a = 2 ∷ 0 ∷ 25 ∷ 4 ∷ 1 ∷ 11 ∷ []

-- three rows of large numbers: the second pivot leaves the range, so the run has one
abbrev wide_rows : List ℤ
wide_rows = pos 3 ∷ pos 3 ∷ pos 919 ∷ pos 983 ∷ minus 909 ∷ minus 946 ∷ minus 964 ∷ minus 904 ∷ minus 955 ∷ pos 908
    ∷ minus 911 ∷ zeros 9 ++ lower_only (pos 9) ++ lower_only (pos 9) ++ lower_only (pos 9)

unfoldable pub replay_cases : List ReplayCase
replay_cases =
    answered case_a.words trace_a accepted
    -- each word of the second step, and of the first
    ∷ answered case_a.words (2 ∷ 0 ∷ 25 ∷ 3 ∷ 1 ∷ 11 ∷ []) (wrong 1 leaving-word)
    ∷ answered case_a.words (2 ∷ 0 ∷ 25 ∷ 4 ∷ 2 ∷ 11 ∷ []) (wrong 1 entering-word)
    ∷ answered case_a.words (2 ∷ 0 ∷ 25 ∷ 4 ∷ 1 ∷ 25 ∷ []) (wrong 1 mask_word)
    ∷ answered case_a.words (3 ∷ 1 ∷ 0 ∷ 4 ∷ 1 ∷ 11 ∷ []) (wrong 0 leaving-word)
    -- a bit past the variables
    ∷ answered case_a.words (2 ∷ 0 ∷ 57 ∷ 4 ∷ 1 ∷ 11 ∷ []) (wrong 0 mask_word)
    ∷ answered case_a.words (2 ∷ 0 ∷ 2147483673 ∷ []) (wrong 0 mask_word)
    -- none at all, one step too few, one too many; a wrong step comes before the length
    ∷ answered case_a.words [] early
    ∷ answered case_a.words (2 ∷ 0 ∷ 25 ∷ []) early
    ∷ answered case_a.words (trace_a ++ (0 ∷ 0 ∷ 0 ∷ [])) past
    ∷ answered case_a.words (2 ∷ 0 ∷ 25 ∷ 4 ∷ 1 ∷ 10 ∷ 0 ∷ 0 ∷ 0 ∷ []) (wrong 1 mask_word)
    -- a strict limit
    ∷ answered case_inside.words (2 ∷ 0 ∷ 1 ∷ []) accepted
    -- limits that cross, and a run of no pivots
    ∷ answered case_g.words [] accepted
    ∷ answered case_g.words (0 ∷ 0 ∷ 0 ∷ []) past
    ∷ answered case_h.words [] accepted
    ∷ answered case_h.words (0 ∷ 0 ∷ 0 ∷ []) past
    -- out of range: over at the last completed pivot
    ∷ answered wide_rows (3 ∷ 0 ∷ 49 ∷ []) accepted
    ∷ answered wide_rows [] early
    ∷ answered wide_rows (3 ∷ 0 ∷ 49 ∷ 4 ∷ 1 ∷ 35 ∷ []) past
    -- words left over, behind the problem's own refusals; they do not count as a step
    ∷ record { words = case_h.words; trace = 0 ∷ []; refused = 51; answer = accepted }
    ∷ record { words = case_a.words; trace = trace_a ++ (3 ∷ 1 ∷ []); refused = 51; answer = accepted }
    ∷ record { words = pos 1 ∷ []; trace = 0 ∷ []; refused = 1; answer = accepted }
    ∷ []

-- ---- a problem's own trace

-- words, what stands in the room before, the refusal, and what stands there afterwards
pub record TraceCase : Type 0 where
  pub words : List ℤ
  pub before : List ℕ
  pub refused : ℕ
  pub output : List ℕ

abbrev traced : List ℤ → List ℕ → List ℕ → TraceCase
traced ws before after = record { words = ws; before = before; refused = 0; output = after }

abbrev kept : List ℤ → List ℕ → ℕ → TraceCase
kept ws before k = record { words = ws; before = before; refused = k; output = before }

abbrev pub TracesRight : List TraceCase → Type 0
TracesRight cs =
    map {B = ℕ × List ℕ} (λ c. (
      trace_refusal c.words (length c.before),
      trace_output (trace_refusal c.words (length c.before)) c.words c.before,
    )) cs
    ≡ map {B = ℕ × List ℕ} (λ c. (c.refused, c.output)) cs

unfoldable pub trace_cases : List TraceCase
trace_cases =
    -- room to spare, just enough, one word too few
    traced case_a.words (replicate 8 9) (trace_a ++ (9 ∷ 9 ∷ []))
    ∷ traced case_a.words (replicate 6 9) trace_a
    ∷ kept case_a.words (replicate 5 9) 7
    -- a strict limit
    ∷ traced case_inside.words (replicate 3 9) (2 ∷ 0 ∷ 1 ∷ [])
    -- limits that cross, and a run of no pivots
    ∷ traced case_g.words [] []
    ∷ traced case_h.words (9 ∷ []) (9 ∷ [])
    -- out of range, behind one pivot
    ∷ traced wide_rows (replicate 3 9) (3 ∷ 0 ∷ 49 ∷ [])
    ∷ kept wide_rows (replicate 2 9) 7
    -- no problem, whatever the room
    ∷ kept (pos 1 ∷ []) [] 1
    ∷ []
