-- docs/RULES.md, "The run in slices": a start, and continues with so many pivots to spend each. A continue makes them,
-- or all that are left, and answers where the run's next step ends it; a state that is finished stays as it is, and
-- answers again.
use Rattle.std.specs.Prelude.{Bool, true, false, List, [], ◌∷◌, ◌++◌, ℕ, ◌*◌, ◌+◌, ltb, ℤ, drop}
use Rattle.std.proofs.Math.Option.{Option, none, some}
use Rattle.whole.specs.Values.{Values, pairs}
use Rattle.rules.specs.Answer.{words_of}
use Rattle.rules.specs.Problem.{Problem, vars}
use Rattle.rules.specs.Refusal.{first}
use Rattle.rules.specs.Run.{Ending, spending}
use Rattle.rules.specs.Step.{State, can, cannot, goes, range, start}

-- a state of the run that can be handed in again: its problem, and tableau, values and count at that point
pub record Slice (X : Type 0) : Type 0 where
  pub problem : Problem X
  pub state : State X
  pub count : ℕ

module _ {X : Type 0} (𝓥 : Values X) where
  unfoldable pub begun : Problem X → Slice X
  begun P = record { problem = P; state = start 𝓥 P; count = 0 }

  unfoldable pub continued : Slice X → ℕ → Slice X
  continued S b = let e : Ending X = spending 𝓥 b S.problem S.state S.count in
      record { problem = S.problem; state = e.last; count = e.pivots }

  -- one continue after the other
  unfoldable pub continued_by : Slice X → List ℕ → Slice X
  continued_by S [] = S
  continued_by S (b ∷ bs) = continued_by (continued S b) bs

-- what an ending says: nothing where the run goes on past it
unfoldable pub told : Problem (ℤ × ℤ) → Ending (ℤ × ℤ) → Option (List ℤ)
told P e = elim e.how [
  | can ↦ some (words_of P e)
  | cannot ls us ↦ some (words_of P e)
  | range ↦ some (words_of P e)
  | goes t ↦ none
]

-- the answer of a continue, or nothing
unfoldable pub slice_answer : Slice (ℤ × ℤ) → ℕ → Option (List ℤ)
slice_answer S b = told S.problem (spending pairs b S.problem S.state S.count)

-- is there one
abbrev pub is_answer : Option (List ℤ) → Bool
is_answer none = false
is_answer (some a) = true

-- how many words its answer has
abbrev pub slice_length : Slice (ℤ × ℤ) → ℕ
slice_length S = 3 + 2 * vars S.problem

-- 7 where there is no room for an answer, whether there is one or not
unfoldable pub slice_refusal : Slice (ℤ × ℤ) → ℕ → ℕ
slice_refusal S room = first ((ltb room (slice_length S), 7) ∷ [])

-- what stands in the output afterwards: without an answer what stood there
unfoldable pub slice_output : Option (List ℤ) → ℕ → List ℤ → List ℤ
slice_output none n before = before
slice_output (some a) n before = a ++ drop n before
