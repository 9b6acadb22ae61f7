-- Every state of a run from the start of accepted words is `Kept`: lowest common form, no number too large, n variables
-- seated.
--   kept-start     the start, where the coefficients are in range; kept-begin of accepted words
--   kept_goes      a step that moves keeps it, from any state whose rows hold
--   kept-after     so every state of a run has it
use mathlib.Core.Bool.{Bool, cond, false, true}
use mathlib.Core.List.{List}
use mathlib.Core.Path.{refl, ◌∙◌, ◌≡◌}
use Prim.Native.Nat.{ℕ, ◌-◌, ◌<◌}
use native.Mathlib.Nat.{dvd-one}
use native.Mathlib.Omega.{arith}
use lib.Dec.{eqb, ltb}
use lib.IntN.{pos, ℤ}
use Rattle.whole.proofs.Numbers.Sizes.{within-le}
use Rattle.whole.proofs.Tells.{tells-lt, tells-true}
use Rattle.whole.specs.Numbers.{Within}
use Rattle.whole.specs.Values.{Values, pairs}
use Rattle.rules.proofs.Termination.Bound.{seated-moved}
use Rattle.rules.proofs.Termination.Ends.{start-seated}
use Rattle.rules.proofs.Step.Entering.{entered}
use Rattle.rules.proofs.Step.Leaving.{left}
use Rattle.rules.proofs.Tableau.Lowest.{divisor-divides}
use Rattle.rules.proofs.Run.Steady.{kept-along, rowed-goes}
use Rattle.rules.proofs.Step.Cases.{step-goes}
use Rattle.rules.proofs.Tableau.Pivot.{lowest-moved}
use Rattle.rules.proofs.Refusal.Accepted.{coefficient-within, problem-m, problem-n}
use Rattle.rules.proofs.Tableau.InRange.{small-tells}
use Rattle.rules.proofs.Run.Start.{at-start, common-one}
use Rattle.rules.specs.Problem.{Problem, inner, problem, vars}
use Rattle.rules.specs.Refusal.{Accepted}
use Rattle.rules.specs.Run.{after}
use Rattle.rules.specs.Sizes.{largest_coefficient, largest_number}
use Rattle.rules.specs.Facts.State.{Kept, Rowed}
use Rattle.rules.specs.Step.{State, goes, same, start, start_entry, step}

module _ {X : Type 0} (𝓥 : Values X) where
  -- ---- the start

  one_or_zero : (b : Bool) → Within (cond b (pos 1) (pos 0)) largest_number
  one_or_zero true = record { within = omega arith }
  one_or_zero false = record { within = omega arith }

  entry-within : (P : Problem X) → ((i j : ℕ) → i < P.m → j < P.n → Within (P.coefficient i j) largest_coefficient) →
      (v w : ℕ) → v < vars P → Within (start_entry P v w) largest_number
  unfolding start_entry
  entry-within P C v w h = go (ltb v P.n) refl (ltb w P.n) refl
    where
      go : (b : Bool) → ltb v P.n ≡ b → (c : Bool) → ltb w P.n ≡ c →
          Within (cond b (same v w) (cond c (P.coefficient (v - P.n) w) (pos 0))) largest_number
      go true p c q = one_or_zero (eqb v w)
      go false p true q = within-le (C (v - P.n) w (let k = (tells-lt v P.n).if-false p in omega arith)
          ((tells-lt w P.n).if-true q)) (omega arith)
      go false p false q = record { within = omega arith }

  pub kept-start : (P : Problem X) → ((i j : ℕ) → i < P.m → j < P.n →
      Within (P.coefficient i j) largest_coefficient) → Kept 𝓥 P (start 𝓥 P)
  kept-start P C = record {
    lowest-form = dvd-one.0 (rw (common-one 𝓥 P) at (divisor-divides (vars P) (start 𝓥 P).tableau).0);
    in-range = tells-true (small-tells (vars P) (start 𝓥 P).tableau) (
      rw (common-one 𝓥 P) (record { within = omega arith }),
      λ v h u k. rw (at-start 𝓥 P v u h k) (entry-within P C v u h),
    );
    seated-many = start-seated 𝓥 P;
  }

  -- ---- a step, and the run

  kept_goes : (P : Problem X) (s t : State X) → Rowed 𝓥 P s → Kept 𝓥 P s → step 𝓥 P s ≡ goes t → Kept 𝓥 P t
  kept_goes P s t S K e =
      let g = step-goes 𝓥 P s t e in
      let L = left 𝓥 P s g.out g.leaves in
      let E = entered 𝓥 P s g.out g.into g.enters in
      record {
        lowest-form = rw g.next-is (lowest-moved 𝓥 P s S g.out g.into L E);
        in-range = g.fits;
        seated-many = rw g.next-is (seated-moved 𝓥 P s S g.out g.into L E ∙ K.seated-many);
      }

  pub kept-after : (P : Problem X) (s : State X) → Rowed 𝓥 P s → Kept 𝓥 P s → (k : ℕ) → Kept 𝓥 P (after 𝓥 P s k)
  kept-after P s S K k = (kept-along 𝓥 P (λ t. Rowed 𝓥 P t × Kept 𝓥 P t)
      (λ s t B e. (rowed-goes 𝓥 P s t B.0 e, kept_goes P s t B.0 B.1 e)) s (S, K) k).1

pub kept-begin : {rows : ℕ} {ws : List ℤ} → Accepted rows ws →
    Kept pairs (inner (problem ws)) (start pairs (inner (problem ws)))
kept-begin {rows} {ws} A = kept-start pairs (inner (problem ws))
    (λ i j h k. coefficient-within A i j (rw (← problem-m ws) h) (rw (← problem-n ws) k))
