-- docs/RULES.md, "Replaying a trace": a problem's own trace, over the struct of the code.
--   traced_as     the refusal, and how many words were written
--   traced_of     .. of an answer
--   CountsAs     how many pivots the run from a first state has
--   Pivots       .. so many, for some problem
--   RecordsAs    what stands in the room once so many pivots are recorded
use Rattle.std.specs.Prelude.{Result, Ok, Err, List, ◌++◌, ◌≡◌, ℕ, ◌*◌, ℤ, drop}
use Rattle.whole.specs.Values.{pairs}
use Rattle.rules.specs.Problem.{Problem}
use Rattle.rules.specs.Run.{ending}
use Rattle.rules.specs.Runs.Slices.{begun}
use Rattle.rules.specs.Runs.Trace.{run_step, trace_count, trace_words}
use Rattle.rules.specs.Step.{start}
use Rattle.refusals.specs.declared.Refusal.{Refusal}
use Rattle.refusals.specs.Numbers.{number_of}
use Rattle.tableau.specs.declared.Tableau.{Tableau}
use Rattle.solver.specs.Spend.{Holds}
use Rattle.traces.specs.declared.Traced.{Traced}

abbrev pub traced_as : ℕ → List ℤ → Traced
traced_as k ws = record { refused = k; count = trace_count k ws }

abbrev pub traced_of : Result ℕ Refusal → Traced
traced_of (Ok k) = record { refused = 0; count = k }
traced_of (Err refusal) = record { refused = number_of refusal; count = 0 }

abbrev pub CountsAs : Tableau → ℕ → Type 0
CountsAs first r = (P : Problem (ℤ × ℤ)) → Holds (begun pairs P) first 0 → r ≡ (ending pairs P (start pairs P)).pivots

pub record Pivots (first : Tableau) (count : ℕ) : Type 0 where
  pub problem : Problem (ℤ × ℤ)
  pub holds : Holds (begun pairs problem) first 0
  pub count-is : count ≡ (ending pairs problem (start pairs problem)).pivots

-- for every problem whose first state the tableau stands for
abbrev pub RecordsAs : Tableau → ℕ → (before after : List ℕ) → Type 0
RecordsAs first count before after = (P : Problem (ℤ × ℤ)) → Holds (begun pairs P) first 0 →
    after ≡ trace_words count (run_step pairs P (start pairs P)) ++ drop (3 * count) before
