-- Where a run with so many pivots to spend came, by place, against an ending of the rules' run.
--   CourseIs    how it stands: over in one of three ways, or on
--   Came        the tableau stands for the last state, and the pivots are as many
use Rattle.std.proofs.Math.Option.{some}
use Rattle.std.specs.Prelude.{◌≡◌, ℕ, ◌+◌, ℤ}
use Rattle.whole.specs.Values.{pairs}
use Rattle.rules.specs.Problem.{Problem, vars}
use Rattle.rules.specs.Run.{Ending}
use Rattle.rules.specs.Facts.State.{Rowed}
use Rattle.rules.specs.Step.{Leaving, Outcome, State, can, evidence, goes, leaving, range}
use Rattle.rules.specs.Tableau.{relation}
use Rattle.tableau.specs.Stands.{Ranged, Stands}
use Rattle.tableau.specs.declared.Tableau.{Tableau}
use Rattle.search.specs.Search.{blocked_at}
use Rattle.steps.specs.Step.{Course, on, over}
use Rattle.steps.specs.declared.End.TheVariants as ends
use Rattle.solver.specs.Spend.{Ran}

pub data CourseIs (P : Problem (ℤ × ℤ)) (t : Tableau) (s : State (ℤ × ℤ)) : Course → Outcome (ℤ × ℤ) → Type 0 where
  over-can : CourseIs P t s (over ends.Can) can
  over-cannot : (r : Leaving (ℤ × ℤ)) → leaving pairs P s ≡ some r →
      CourseIs P t s (over (ends.Cannot (blocked_at t r)))
      (evidence (vars P) r.side (relation s.tableau r.variable))
  over-range : CourseIs P t s (over ends.Range) range
  still-on : (x : State (ℤ × ℤ)) → CourseIs P t s on (goes x)

-- k pivots had been made before
pub record Came (P : Problem (ℤ × ℤ)) (r : Ran) (e : Ending (ℤ × ℤ)) (k : ℕ) : Type 0 where
  pub stands : Stands P r.tableau e.last
  pub rowed : Rowed pairs P e.last
  pub ranged : Ranged r.tableau
  pub count-is : k + r.count ≡ e.pivots
  pub course-is : CourseIs P r.tableau e.last r.course e.how
