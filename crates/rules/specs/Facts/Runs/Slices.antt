-- docs/RULES.md, "The run in slices": a run that is cut anywhere is the run.
--   all_pivots         all pivots of several continues
--   cut_at       the run from a state, so many pivots on
--   Sliced      what a continue comes to: the pivots up to the count of the uncut run, and the answer exactly then
--   OnWay       what every state has that a start or a continue hands back
--   slice_table  when a continue is refused
use Rattle.std.specs.Prelude.{List, [], ◌∷◌, ◌≡◌, min, ℕ, ◌*◌, ◌+◌, ◌<◌, ◌≤◌, pos, ℤ}
use Rattle.std.proofs.Math.Option.{none, some}
use Rattle.whole.specs.Values.{Values, pairs}
use Rattle.rules.specs.Answer.{answer_from}
use Rattle.rules.specs.Facts.Refusal.{Line, line_of}
use Rattle.rules.specs.Facts.State.{Ready}
use Rattle.rules.specs.Problem.{Problem, vars, word}
use Rattle.rules.specs.Run.{after, bound}
use Rattle.rules.specs.Runs.Slices.{Slice, continued, slice_answer}
use Rattle.rules.specs.Step.{State}

-- all pivots of the numbers together
abbrev pub all_pivots : List ℕ → ℕ
all_pivots [] = 0
all_pivots (b ∷ bs) = b + all_pivots bs

module _ {X : Type 0} (𝓥 : Values X) (P : Problem X) (s : State X) where
  -- the run from s, i pivots on
  abbrev pub cut_at : ℕ → Slice X
  cut_at i = record { problem = P; state = after 𝓥 P s i; count = i }

module _ (P : Problem (ℤ × ℤ)) (s : State (ℤ × ℤ)) where
  -- .. of pairs; and at its start
  abbrev pub cut : ℕ → Slice (ℤ × ℤ)
  cut = cut_at pairs P s

  abbrev pub first_slice : Slice (ℤ × ℤ)
  first_slice = record { problem = P; state = s; count = 0 }

  -- i pivots on with b to spend: the pivots up to the count of the uncut run, and the answer exactly then
  pub record Sliced : Type 0 where
    pub count : ℕ
    pub word-1 : word (answer_from P s) 1 ≡ pos count
    pub below : count < bound P
    pub moves : (b i : ℕ) → i ≤ count → continued pairs (cut i) b ≡ cut (min count (i + b))
    pub answers : (b i : ℕ) → i ≤ count → count ≤ i + b → slice_answer (cut i) b ≡ some (answer_from P s)
    pub goes_on : (b i : ℕ) → i + b < count → slice_answer (cut i) b ≡ none

-- a state on the way of its run
pub record OnWay (S : Slice (ℤ × ℤ)) : Type 0 where
  -- where the run began
  pub from : State (ℤ × ℤ)
  pub ready : Ready pairs S.problem from
  pub run : Sliced S.problem from
  -- the state is that of the run after as many pivots as are counted, which are not more than it has
  pub state-is : S.state ≡ after pairs S.problem from S.count
  pub reached : S.count ≤ run.count

-- 7: the output is too short for an answer, be there one or not
abbrev pub slice_table : Slice (ℤ × ℤ) → ℕ → List Line
slice_table S room = line_of 7 (room < 3 + 2 * vars S.problem) (3 + 2 * vars S.problem ≤ room) ∷ []
