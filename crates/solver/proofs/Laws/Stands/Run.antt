-- The run by place goes as the run of the state: each turn is its step.
--   Going, run-goes         after k steps that go on the tableau stands for the state after k steps, and the run has k
-- pivots   held-begun, held_after    so a step may be asked of it
--   after_none, after_more, goes-more    no step yet, and one more
use mathlib.Core.Path.{◌≡◌, ap, refl}
use Prim.Native.Nat.{ℕ, zero, suc, ◌+◌, ◌<◌}
use native.Mathlib.Decide.{ℕ_discrete}
use native.Mathlib.Numerals.{add-one}
use native.Mathlib.Omega.{arith}
use lib.IntN.{ℤ}
use Rattle.whole.specs.Values.{pairs}
use Rattle.whole.proofs.Bools.{zero_one}
use Rattle.rules.specs.Problem.{Problem}
use Rattle.rules.specs.Run.{Moves, Runs, after, next}
use Rattle.rules.specs.Step.{State, goes, step}
use Rattle.rules.proofs.Run.Steady.{rowed-after}
use Rattle.rules.specs.Facts.State.{Rowed}
use Rattle.tableau.specs.declared.Tableau.{Tableau}
use Rattle.tableau.specs.Stands.{Ranged, Stands}
use Rattle.steps.specs.Step.{Held, on, stepped_at}
use Rattle.steps.proofs.Laws.Stands.{StepIs, ends-can, ends-cannot, ends-range, goes_to, step_is}
use Rattle.solver.specs.Run.{Begun, GoesOn, after_at, after_laid}

pub record Going (P : Problem (ℤ × ℤ)) (s : State (ℤ × ℤ)) (t : Tableau) (k : ℕ) : Type 0 where
  pub stands : Stands P t (after pairs P s k)
  pub runs : Runs pairs P s k
  pub ranged : Ranged t

after-goes : (P : Problem (ℤ × ℤ)) (s : State (ℤ × ℤ)) (k : ℕ) (u : State (ℤ × ℤ)) →
    step pairs P (after pairs P s k) ≡ goes u → after pairs P s (suc k) ≡ u
unfolding after next
after-goes P s k u e = ap (next (after pairs P s k)) e

abbrev pub held-begun : {t : Tableau} → Begun t → Held t
held-begun B = record {
  problem = B.problem;
  state = B.state;
  stands = B.stands;
  rowed = B.ready.rowed;
  ranged = B.ranged;
}

module _ {t : Tableau} (H : Held t) where
  abbrev P : Problem (ℤ × ℤ)
  P = H.problem

  abbrev s : State (ℤ × ℤ)
  s = H.state

  rowed-at : (k : ℕ) → Rowed pairs P (after pairs P s k)
  rowed-at k = rowed-after pairs P s H.rowed k

  -- one step more, of any tableau that stands there
  turn : (k : ℕ) (u : Tableau) → Going P s u k → (stepped_at u).course ≡ on → Going P s (stepped_at u).tableau (suc k)
  turn k u G e = go (step_is G.stands (rowed-at k) G.ranged)
    where
      go : StepIs P u (after pairs P s k) → Going P s (stepped_at u).tableau (suc k)
      go (ends-can q z) = let c : ◌≡◌ {A = ℕ} 0 1 = cc in zero_one c
      go (ends-cannot r q l z) = let c : ◌≡◌ {A = ℕ} 0 1 = cc in zero_one c
      go (ends-range q z) = let c : ◌≡◌ {A = ℕ} 0 1 = cc in zero_one c
      go (goes_to n x q z st rg) = record {
        stands = rw (q, after-goes P s k x z) st;
        runs = λ i h. one i h (ℕ_discrete i k);
        ranged = rw q rg;
      }
        where
          one : (i : ℕ) → i < suc k → Dec (i ≡ k) → Moves (step pairs P (after pairs P s i))
          one i h (yes j) = rw (j, z) tt
          one i h (no j) = G.runs i (omega arith)

  pub run-goes : (k : ℕ) → GoesOn t k → Going P s (after_at t k) k
  unfolding after_laid after
  run-goes zero g = record { stands = H.stands; runs = λ i h. let z : ⊥ = omega arith in absurd z; ranged = H.ranged }
  run-goes (suc k) g = turn k (after_at t k) (run-goes k (λ i h. g i (omega arith))) (g k (omega arith))

  pub held_after : (k : ℕ) → GoesOn t k → Held (after_at t k)
  held_after k g = let G = run-goes k g in
      record { problem = P; state = after pairs P s k; stands = G.stands; rowed = rowed-at k; ranged = G.ranged }

pub goes-more : (t : Tableau) (k : ℕ) → GoesOn t k → (stepped_at (after_at t k)).course ≡ on → GoesOn t (k + 1)
goes-more t k g e i h = one (ℕ_discrete i k)
  where
    one : Dec (i ≡ k) → (stepped_at (after_at t i)).course ≡ on
    one (yes j) = rw j e
    one (no j) = g i (omega arith)

pub after_none : (t : Tableau) → t ≡ after_at t 0
unfolding after_laid
after_none t = refl

pub after_more : (t : Tableau) (k : ℕ) → (stepped_at (after_at t k)).tableau ≡ after_at t (k + 1)
unfolding after_laid
after_more t k = rw add-one refl
