-- A run with so many pivots to spend, by place, and what comes of it: docs/RULES.md, "The run in slices".
use Rattle.std.specs.Prelude.{Bool, true, false, cond, List, ◌≡◌, ℕ, zero, suc, ◌+◌, eqb, ℤ, pos}
use Rattle.rules.specs.Facts.Runs.Slices.{OnWay}
use Rattle.rules.specs.Runs.Slices.{Slice}
use Rattle.tableau.specs.declared.Tableau.{Tableau}
use Rattle.tableau.specs.Stands.{Ranged, Stands}
use Rattle.tableau.specs.declared.Limits.{Limits}
use Rattle.answers.specs.declared.Verdict.TheVariants as verdicts
use Rattle.std.specs.Prelude.{Option, Some, None}
use Rattle.tableau.specs.declared.Variable.{Variable}
use Rattle.answers.specs.Answer.{laid_over, words_at}
use Rattle.answers.specs.Conflict.{conflict_at}
use Rattle.answers.specs.Multipliers.{unit_at}
use Rattle.steps.specs.declared.End.{End}
use Rattle.steps.specs.Step.{Course, on, over, stepped_at}
use Rattle.solver.specs.declared.spend.Spent.{Spent}
use Rattle.solver.specs.Run.{end_words}

-- ---- how far the run comes

-- where a run came: the last completed tableau, whether it is over there, and its pivots
pub record Ran : Type 0 where
  pub tableau : Tableau
  pub course : Course
  pub count : ℕ

abbrev pub counted : Ran → Ran
counted r = record { tableau = r.tableau; course = r.course; count = suc r.count }

-- by the course of the first step
abbrev pub spent_by : Course → Tableau → Ran → Ran
spent_by (over e) t r = record { tableau = t; course = over e; count = 0 }
spent_by on t r = counted r

-- with nothing left to spend the next step is looked at, and not made
unfoldable pub ran_at : Tableau → ℕ → Ran
ran_at t zero = record { tableau = t; course = (stepped_at t).course; count = 0 }
ran_at t (suc b) = spent_by (stepped_at t).course t (ran_at (stepped_at t).tableau b)

-- .. or is not looked at
abbrev pub is_done : Bool → ℕ → ℕ → Bool
is_done true k b = false
is_done false k b = eqb k b

-- then the run is said to go on there
abbrev pub ran_by : Bool → Tableau → ℕ → Ran
ran_by look t b = let r : Ran = ran_at t b in
    record { tableau = r.tableau; course = cond (is_done look r.count b) on r.course; count = r.count }

-- ---- what is handed back, and what stands in the output

abbrev pub many_of : Tableau → ℕ
many_of t = t.rows + t.columns

-- how a run stands: over by the end that it reached, if it did
abbrev pub course_of : Option End → Course
course_of (Some e) = over e
course_of None = on

abbrev pub ran_as : Option End → ℕ → Tableau → Ran
ran_as e k t = record { tableau = t; course = course_of e; count = k }

abbrev pub is_over : Course → Bool
is_over (over e) = true
is_over on = false

abbrev pub spent_from : ℕ → Ran → Spent
spent_from before r = record { answered = is_over r.course; count = before + r.count; tableau = r.tableau }

-- without an end the output stays
abbrev pub out_by : Course → ℕ → Tableau → List ℤ → List ℤ
out_by (over e) count t out = laid_over (many_of t) out (end_words e count t (many_of t))
out_by on count t out = out

abbrev pub ran_out : ℕ → Ran → List ℤ → List ℤ
ran_out before r out = out_by r.course (before + r.count) r.tableau out

-- .. by the limits that cross, if some do
abbrev pub spent_where : Option Variable → Bool → Tableau → ℕ → ℕ → Spent
spent_where (Some v) look t before most = record { answered = true; count = before; tableau = t }
spent_where None look t before most = spent_from before (ran_by look t most)

abbrev pub out_where : Option Variable → Bool → Tableau → ℕ → ℕ → List ℤ → List ℤ
out_where (Some v) look t before most out =
    laid_over (many_of t) out (words_at verdicts.Cannot before (pos 0) (many_of t) (unit_at v.0) (unit_at v.0))
out_where None look t before most out = ran_out before (ran_by look t most) out

abbrev pub Uncrossed : Tableau → Type 0
Uncrossed t = conflict_at t.limits (many_of t) ≡ None

-- a run that is some pivots on has no limits that cross
abbrev pub crossed_since : ℕ → Limits → ℕ → Option Variable
crossed_since zero limits N = conflict_at limits N
crossed_since (suc k) limits N = None

unfoldable pub spent_as : Bool → Tableau → ℕ → ℕ → Spent
spent_as look t before most = spent_where (conflict_at t.limits (many_of t)) look t before most

unfoldable pub out_as : Bool → Tableau → ℕ → ℕ → List ℤ → List ℤ
out_as look t before most out = out_where (conflict_at t.limits (many_of t)) look t before most out

-- with a look behind the last pivot
abbrev pub spent_at : Tableau → ℕ → ℕ → Spent
spent_at = spent_as true

abbrev pub out_at : Tableau → ℕ → ℕ → List ℤ → List ℤ
out_at = out_as true

-- ---- what a tableau and a count stand for

-- a state of the rules' run, on its way
pub record Holds (S : Slice (ℤ × ℤ)) (t : Tableau) (count : ℕ) : Type 0 where
  pub stands : Stands S.problem t S.state
  pub ranged : Ranged t
  pub count-is : S.count ≡ count
  pub on-way : OnWay S

-- .. some such state
pub record Standing (t : Tableau) (count : ℕ) : Type 0 where
  pub slice : Slice (ℤ × ℤ)
  pub holds : Holds slice t count
