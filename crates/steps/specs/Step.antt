-- One step by place: docs/RULES.md, "The run", over the struct.
use Rattle.std.specs.Prelude.{Bool, true, false, List, ◌≡◌, ℕ, ◌<◌, T, ℤ}
use Rattle.whole.specs.Values.{pairs}
use Rattle.rules.specs.Problem.{Problem}
use Rattle.rules.specs.Sizes.{most_rows, most_variables}
use Rattle.rules.specs.Step.{State}
use Rattle.rules.specs.Facts.State.{Rowed}
use Rattle.amounts.specs.declared.Given.{Given}
use Rattle.amounts.specs.Amounts.{given_lower, given_upper, value_of}
use Rattle.tableau.specs.declared.Tableau.{Tableau}
use Rattle.layout.specs.Layout.{Order, in_use, live}
use Rattle.tableau.specs.Parts.{basic_at, lower_given, upper_given}
use Rattle.pivot.specs.Pivot.{Pivotable, PutBy, common_after, entries_after, fits_laid}
use Rattle.tableau.specs.Pivot.{pivoted_laid, swapped_at}
use Rattle.tableau.specs.Stands.{Ranged, Stands}
use Rattle.search.specs.declared.Choice.{Choice}
use Rattle.search.specs.declared.Next.{Next}
use Rattle.search.specs.declared.Next.TheVariants as nexts
use Rattle.search.specs.Search.{Searchable, next_at, next_laid}
use Rattle.steps.specs.declared.End.{End}
use Rattle.steps.specs.declared.End.TheVariants as ends
use Rattle.steps.specs.declared.Outcome.{Outcome}
use Rattle.steps.specs.declared.Outcome.TheVariants as outcomes

-- what the limit stands for that a variable violates
abbrev pub violated_pair : Bool → Given → Given → ℤ × ℤ
violated_pair true lower upper = given_lower lower
violated_pair false lower upper = given_upper upper

-- .. of the chosen row
abbrev pub value_after : Tableau → Choice → ℤ × ℤ
value_after t c = let v : ℕ = basic_at t c.row.0 in
    violated_pair c.rises (lower_given t.limits v) (upper_given t.limits v)

-- the tableau after the chosen pivot, whose leaving variable gets what the limit stands for that it violates
unfoldable pub moved_laid : Order → Tableau → Choice → Tableau
moved_laid o t c = swapped_at (pivoted_laid o t c.row.0 c.column.0) c.row.0 c.column.0 (value_after t c)

abbrev pub moved_at : Tableau → Choice → Tableau
moved_at = moved_laid in_use

-- a pivot whose row, column and variables are places and numbers of the tableau
pub record Movable (t : Tableau) (c : Choice) : Type 0 where
  pub pivotable : Pivotable t.rows t.columns t.entries t.common c.row.0 c.column.0
  pub row-place : c.row.0 < most_rows
  pub leaving-seat : basic_at t c.row.0 < most_variables

-- ---- a step

-- the run is over, or goes on
pub data Course : Type 0 where
  over : End → Course
  on : Course

-- .. with the tableau after the step: the next one where it goes on, else the one that it was
pub record StepAt : Type 0 where
  pub course : Course
  pub tableau : Tableau

abbrev pub ended_as : Tableau → End → StepAt
ended_as t e = record { course = over e; tableau = t }

-- after a pivot: on where it passes the range test
abbrev pub admit_at : Bool → Tableau → Tableau → StepAt
admit_at true t u = record { course = on; tableau = u }
admit_at false t u = ended_as t ends.Range

-- the range test of the numbers after the chosen pivot
abbrev pub fits_by_laid : Order → Tableau → Choice → Bool
fits_by_laid o t c = fits_laid o t.rows t.columns t.entries t.common c.row.0 c.column.0

unfoldable pub step_laid : Order → Tableau → Next → StepAt
step_laid o t nexts.Within = ended_as t ends.Can
step_laid o t (nexts.Stuck b) = ended_as t (ends.Cannot b)
step_laid o t (nexts.Pivot c) = admit_at (fits_by_laid o t c) t (moved_laid o t c)

unfoldable pub stepped_laid : Order → Tableau → StepAt
stepped_laid o t = step_laid o t (next_laid o t)

-- .. in the order in use
abbrev pub fits_by : Tableau → Choice → Bool
fits_by = fits_by_laid in_use

abbrev pub step_by : Tableau → Next → StepAt
step_by = step_laid in_use

abbrev pub stepped_at : Tableau → StepAt
stepped_at = stepped_laid in_use

-- ---- a step as the code makes it: its answer, and the entries after it

-- the numbers after the chosen pivot
abbrev pub common_moved : Tableau → Choice → ℤ
common_moved t c = common_after t.rows t.columns t.entries t.common c.row.0 c.column.0

abbrev pub entries_moved : Tableau → Choice → List ℤ
entries_moved t c = entries_after t.rows t.columns t.entries t.common c.row.0 c.column.0

abbrev pub answer_by : Bool → Tableau → Choice → Outcome
answer_by true t c = outcomes.Goes c.row c.column (value_of (value_after t c)) (common_moved t c)
answer_by false t c = outcomes.Ended ends.Range

unfoldable pub outcome_by : Tableau → Next → Outcome
outcome_by t nexts.Within = outcomes.Ended ends.Can
outcome_by t (nexts.Stuck b) = outcomes.Ended (ends.Cannot b)
outcome_by t (nexts.Pivot c) = answer_by (fits_by t c) t c

-- where a pivot is chosen and in range, they are in the array
unfoldable pub PutWhere : Tableau → Next → List ℤ → Type 0
PutWhere t nexts.Within next = T true
PutWhere t (nexts.Stuck b) next = T true
PutWhere t (nexts.Pivot c) next = PutBy (fits_by t c) (live t.rows t.columns) (entries_moved t c) next

abbrev pub outcome_at : Tableau → Outcome
outcome_at t = outcome_by t (next_at t)

abbrev pub PutAt : Tableau → List ℤ → Type 0
PutAt t next = PutWhere t (next_at t) next

-- what a step needs: a search may read the tableau, and the pivot that it chooses may be made
pub record Steppable (t : Tableau) : Type 0 where
  pub searchable : Searchable t
  pub movable : (c : Choice) → next_at t ≡ nexts.Pivot c → Movable t c

-- a tableau that stands for a state whose rows hold, its numbers in range
pub record Held (t : Tableau) : Type 0 where
  pub problem : Problem (ℤ × ℤ)
  pub state : State (ℤ × ℤ)
  pub stands : Stands problem t state
  pub rowed : Rowed pairs problem state
  pub ranged : Ranged t
