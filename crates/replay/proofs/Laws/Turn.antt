-- One pivot of the run without a look.
--   PivotIs           what it comes to: limits cross, the run is over, or it goes to the next state
--   pivot-comes           .. from any state on the way of its run
--   unanswered-keeps   the output stays where there is no answer
--   stands-mask    the set of basic variables, by the struct and by the rules
use mathlib.Core.Bool.{cond, false, true}
use mathlib.Core.List.{List}
use mathlib.Core.Option.{Option, none, some}
use mathlib.Core.Path.{ap, refl, subst, sym, ◌∙◌, ◌≡◌}
use Prim.Native.Nat.{ℕ, ◌+◌, ◌<◌}
use native.Mathlib.Omega.{arith}
use lib.IntN.{ℤ}
use Rattle.whole.proofs.Bools.{true-false}
use Rattle.whole.specs.Values.{pairs}
use Rattle.rules.proofs.Answer.Run.{spending-run}
use Rattle.rules.proofs.Runs.Replay.Masks.{mask-same}
use Rattle.rules.proofs.Run.Once.{run_on}
use Rattle.rules.proofs.Runs.Slices.{on-way-more, on-way-rowed}
use Rattle.rules.specs.Facts.Runs.Slices.{OnWay}
use Rattle.rules.specs.Facts.State.{Rowed}
use Rattle.rules.specs.Problem.{Problem, vars}
use Rattle.rules.specs.Runs.Replay.{basis_mask, is_basic}
use Rattle.rules.specs.Run.{Ended, Ending, conflict, run}
use Rattle.rules.specs.Runs.Slices.{Slice, continued}
use Rattle.rules.specs.Step.{State, evidence, goes, seat, step}
use Rattle.tableau.specs.declared.Tableau.{Tableau}
use Rattle.tableau.specs.Parts.{seat_at}
use Rattle.tableau.specs.Stands.{Stands}
use Rattle.masks.specs.Masks.{seats_mask}
use Rattle.std.proofs.Common.{Some, None}
use Rattle.std.proofs.Common as answered
use Rattle.tableau.specs.declared.Variable.{Variable}
use Rattle.answers.specs.Conflict.{conflict_at}
use Rattle.answers.proofs.Laws.Stands.Crossed.{crossing-at, crossing-none}
use Rattle.steps.specs.declared.End.{End}
use Rattle.steps.specs.Step.{Course, StepAt, on, over, stepped_at}
use Rattle.steps.proofs.Laws.Stands.{StepIs, ends-can, ends-cannot, ends-range, goes_to, step_is}
use Rattle.solver.specs.declared.spend.Spent.{Spent}
use Rattle.solver.specs.Spend.{Holds, Ran, is_done, is_over, many_of, out_as, out_by, ran_at, ran_by, ran_out}
use Rattle.solver.specs.Spend.{spent_as, spent_by, spent_from}
use Rattle.solver.proofs.Laws.Stands.Slices.{out-where, spent-where}

-- the state that the run goes to
abbrev pub next_slice : Slice (ℤ × ℤ) → State (ℤ × ℤ) → ℕ → Slice (ℤ × ℤ)
next_slice S u k = record { problem = S.problem; state = u; count = k }

pub data PivotIs (S : Slice (ℤ × ℤ)) (k : ℕ) (r : Spent) : Type 0 where
  pivot-crossed : (v : ℕ) → conflict pairs S.problem ≡ some v → r.answered ≡ true → PivotIs S k r
  pivot-over : conflict pairs S.problem ≡ none → Ended (step pairs S.problem S.state) → r.answered ≡ true →
      PivotIs S k r
  pivot-goes : (u : State (ℤ × ℤ)) → conflict pairs S.problem ≡ none → step pairs S.problem S.state ≡ goes u →
      r.answered ≡ false → r.count ≡ k + 1 → Holds (next_slice S u (k + 1)) r.tableau (k + 1) → PivotIs S k r

module _ {S : Slice (ℤ × ℤ)} {t : Tableau} {k : ℕ} (H : Holds S t k) where
  abbrev P : Problem (ℤ × ℤ)
  P = S.problem

  rowed : Rowed pairs P S.state
  rowed = on-way-rowed S H.on-way

  -- ---- by place

  abbrev looked : Ran → Ran
  looked r = record { tableau = r.tableau; course = cond (is_done false r.count 1) on r.course; count = r.count }

  ran-one : (y : StepAt) → stepped_at t ≡ y → ran_at t 1 ≡ spent_by y.course t (ran_at y.tableau 0)
  unfolding ran_at
  ran-one y e = ap (λ (x : StepAt). spent_by x.course t (ran_at x.tableau 0)) e

  module _ (free : conflict_at t.limits (many_of t) ≡ None) where
    spent-is : spent_as false t k 1 ≡ spent_from k (ran_by false t 1)
    spent-is = spent-where false t k 1 None free

    spent-over : (e : End) → (stepped_at t).course ≡ over e → (spent_as false t k 1).answered ≡ true
    unfolding ran_at
    spent-over e q = ap (λ (r : Spent). r.answered) (spent-is
        ∙ ap (λ r. spent_from k (looked r)) (ap (λ w. spent_by w t (ran_at (stepped_at t).tableau 0)) q))

    spent-goes : (u : Tableau) → stepped_at t ≡ record { course = on; tableau = u } →
        spent_as false t k 1 ≡ record { answered = false; count = k + 1; tableau = u }
    unfolding ran_at
    spent-goes u q = spent-is ∙ ap (λ r. spent_from k (looked r)) (ran-one (record { course = on; tableau = u }) q)

    -- ---- by the rules

    uncrossed : conflict pairs P ≡ none
    uncrossed = crossing-none H.stands rowed free

    continued-is : (u : State (ℤ × ℤ)) → step pairs P S.state ≡ goes u →
        continued pairs S 1 ≡ next_slice S u (k + 1)
    unfolding continued run
    continued-is u z = ap (λ (e : Ending (ℤ × ℤ)). record { problem = P; state = e.last; count = e.pivots })
        (spending-run pairs P uncrossed 1 S.state S.count ∙ run_on pairs 0 P S.state u S.count z)
        ∙ ap (next_slice S u) (let e = H.count-is in omega arith)

    pivot-free : PivotIs S k (spent_as false t k 1)
    pivot-free = go (step_is H.stands rowed H.ranged)
      where
        go : StepIs P t S.state → PivotIs S k (spent_as false t k 1)
        go (ends-can q z) = pivot-over uncrossed (rw z tt) (spent-over _ (ap (λ (y : StepAt). y.course) q))
        go (ends-cannot r q l z) = pivot-over uncrossed (rw z (unfold evidence in tt))
            (spent-over _ (ap (λ (y : StepAt). y.course) q))
        go (ends-range q z) = pivot-over uncrossed (rw z tt) (spent-over _ (ap (λ (y : StepAt). y.course) q))
        go (goes_to u x q z st rg) = let e = spent-goes u q in pivot-goes x uncrossed z
            (ap (λ (r : Spent). r.answered) e) (ap (λ (r : Spent). r.count) e)
            (subst (λ (y : Tableau). Holds (next_slice S x (k + 1)) y (k + 1)) (sym (ap (λ (r : Spent). r.tableau) e))
            (record {
              stands = st;
              ranged = rg;
              count-is = refl;
              on-way = subst OnWay (continued-is x z) (on-way-more S H.on-way 1);
            }))

  pub pivot-comes : PivotIs S k (spent_as false t k 1)
  pivot-comes = go (conflict_at t.limits (many_of t)) refl
    where
      go : (c : answered.Option Variable) → conflict_at t.limits (many_of t) ≡ c → PivotIs S k (spent_as false t k 1)
      go (Some v) q = pivot-crossed v.0 (crossing-at H.stands rowed v q)
          (ap (λ (r : Spent). r.answered) (spent-where false t k 1 (Some v) q))
      go None q = pivot-free q

-- ---- the output, where there is no answer

pub unanswered-keeps : (t : Tableau) (k : ℕ) (out : List ℤ) → (spent_as false t k 1).answered ≡ false →
    out_as false t k 1 out ≡ out
unanswered-keeps t k out a = go (conflict_at t.limits (many_of t)) refl
  where
    by : (w : Course) → (ran_by false t 1).course ≡ w → is_over w ≡ false → ran_out k (ran_by false t 1) out ≡ out
    by (over e) q f = true-false refl f
    by on q f = ap (λ w. out_by w (k + (ran_by false t 1).count) (ran_by false t 1).tableau out) q

    go : (c : answered.Option Variable) → conflict_at t.limits (many_of t) ≡ c → out_as false t k 1 out ≡ out
    go (Some v) q = true-false (ap (λ (r : Spent). r.answered) (spent-where false t k 1 (Some v) q)) a
    go None q = out-where false t k 1 None q out
        ∙ by (ran_by false t 1).course refl
        (sym (ap (λ (r : Spent). r.answered) (spent-where false t k 1 None q)) ∙ a)

-- ---- the set of basic variables

module _ {P : Problem (ℤ × ℤ)} {t : Tableau} {s : State (ℤ × ℤ)} (St : Stands P t s) where
  pub stands-mask : seats_mask t.seats (vars P) ≡ basis_mask (vars P) s
  stands-mask = mask-same (vars P) _ _ (λ v h. by v h (seat s v) refl)
    where
      by : (v : ℕ) → v < vars P → (o : Option (ℤ × ℤ)) → seat s v ≡ o → (seat_at t v).basic ≡ is_basic (seat s v)
      by v h none e = (St.placed.has-row v h e).flag ∙ sym (ap is_basic e)
      by v h (some x) e = (St.placed.has-column v x h e).flag ∙ sym (ap is_basic e)
