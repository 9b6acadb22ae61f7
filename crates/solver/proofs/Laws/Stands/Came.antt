-- A run with so many pivots to spend, by place, is that of the state: the rules' `run` with them as fuel.
--   came         where it came (`Came` of specs/Came), from any tableau that stands for a state whose rows hold
use mathlib.Core.Path.{◌≡◌, ap, subst, sym, ◌∙◌}
use Prim.Native.Nat.{ℕ, zero, suc, ◌+◌}
use native.Mathlib.Omega.{arith}
use lib.IntN.{ℤ}
use Rattle.whole.specs.Values.{pairs}
use Rattle.rules.specs.Problem.{Problem}
use Rattle.rules.specs.Run.{Ended, Ending, run}
use Rattle.rules.specs.Step.{Outcome, State, can, evidence, range, step}
use Rattle.rules.proofs.Run.Steady.{rowed-goes}
use Rattle.rules.proofs.Run.Once.{run_end, run_on}
use Rattle.rules.specs.Facts.State.{Rowed}
use Rattle.tableau.specs.declared.Tableau.{Tableau}
use Rattle.tableau.specs.Stands.{Ranged, Stands}
use Rattle.search.specs.Search.{blocked_at}
use Rattle.steps.specs.declared.End.TheVariants as ends
use Rattle.steps.specs.Step.{Course, StepAt, over, stepped_at}
use Rattle.steps.proofs.Laws.Stands.{StepIs, ends-can, ends-cannot, ends-range, goes_to, step_is}
use Rattle.solver.specs.Came.{Came, CourseIs, over-can, over-cannot, over-range, still-on}
use Rattle.solver.specs.Spend.{Ran, counted, ran_at, spent_by}

module _ {P : Problem (ℤ × ℤ)} where
  -- it came no further
  stays : (t : Tableau) (s : State (ℤ × ℤ)) (k : ℕ) (w : Course) (o : Outcome (ℤ × ℤ)) →
      Stands P t s → Rowed pairs P s → Ranged t → CourseIs P t s w o →
      Came P (record { tableau = t; course = w; count = 0 }) (record { how = o; pivots = k; last = s }) k
  stays t s k w o St R G C = record { stands = St; rowed = R; ranged = G; count-is = omega arith; course-is = C }

  look-course : (t : Tableau) (s : State (ℤ × ℤ)) → StepIs P t s → CourseIs P t s (stepped_at t).course (step pairs P s)
  look-course t s (ends-can q z) = rw (q, z) over-can
  look-course t s (ends-cannot r q l z) = rw (q, z) (over-cannot r l)
  look-course t s (ends-range q z) = rw (q, z) over-range
  look-course t s (goes_to u x q z st rg) = rw (q, z) (still-on x)

  one_more_lem : (r : Ran) (e : Ending (ℤ × ℤ)) (k : ℕ) → Came P r e (suc k) → Came P (counted r) e k
  one_more_lem r e k C = record {
    stands = C.stands;
    rowed = C.rowed;
    ranged = C.ranged;
    count-is = (let z : k + suc r.count ≡ suc k + r.count = omega arith in z) ∙ C.count-is;
    course-is = C.course-is;
  }

  pub came : (b k : ℕ) (t : Tableau) (s : State (ℤ × ℤ)) → Stands P t s → Rowed pairs P s → Ranged t →
      Came P (ran_at t b) (run pairs b P s k) k
  unfolding ran_at run
  came zero k t s St R G = stays t s k (stepped_at t).course (step pairs P s) St R G (look-course t s (step_is St R G))
  came (suc b) k t s St R G = go (step_is St R G) (λ u x. came b (suc k) u x)
    where
      -- over at the first step
      ends-here : (w : _) (o : Outcome (ℤ × ℤ)) → (stepped_at t).course ≡ over w → step pairs P s ≡ o → Ended o →
          CourseIs P t s (over w) o → Came P (ran_at t (suc b)) (run pairs (suc b) P s k) k
      ends-here w o q z h C =
          subst (λ r. Came P r (run pairs (suc b) P s k) k)
          (sym (ap (λ x. spent_by x t (ran_at (stepped_at t).tableau b)) q))
          (subst (λ e. Came P (record { tableau = t; course = over w; count = 0 }) e k)
          (sym (run_end pairs (suc b) P s k o z h))
          (stays t s k (over w) o St R G C))

      go : StepIs P t s → ((u : Tableau) (x : State (ℤ × ℤ)) → Stands P u x → Rowed pairs P x → Ranged u →
          Came P (ran_at u b) (run pairs b P x (suc k)) (suc k)) → Came P (ran_at t (suc b)) (run pairs (suc b) P s k) k
      go (ends-can q z) rest = ends-here ends.Can can (ap (λ (y : StepAt). y.course) q) z tt over-can
      go (ends-cannot r q l z) rest = ends-here (ends.Cannot (blocked_at t r)) _ (ap (λ (y : StepAt). y.course) q) z
          (unfold evidence in tt) (over-cannot r l)
      go (ends-range q z) rest = ends-here ends.Range range (ap (λ (y : StepAt). y.course) q) z tt over-range
      go (goes_to u x q z st rg) rest =
          subst (λ r. Came P r (run pairs (suc b) P s k) k)
          (sym (ap (λ (y : StepAt). spent_by y.course t (ran_at y.tableau b)) q))
          (subst (λ e. Came P (counted (ran_at u b)) e k) (sym (run_on pairs b P s x k z))
          (one_more_lem (ran_at u b) (run pairs b P x (suc k)) k (rest u x st (rowed-goes pairs P s x R z) rg)))
