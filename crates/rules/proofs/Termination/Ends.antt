-- Every run from a sound state ends, and the fuelled run with the bound as fuel is that run.
--   ends            from any sound state with n seated
--   start-seated    n variables are seated at the start
--   ready-start     a check may start there
use mathlib.Core.List.{◌∷◌}
use mathlib.Core.Logic.{inl, inr, ◌⊎◌}
use mathlib.Core.Option.{Option, none, some}
use mathlib.Core.Path.{ap, refl, ◌∙◌, ◌≡◌}
use Prim.Native.Nat.{suc, zero, ℕ, ◌+◌, ◌-◌, ◌<◌, ◌≤◌}
use native.Mathlib.Decide.{ℕ_discrete}
use native.Mathlib.Omega.{arith}
use Rattle.whole.specs.Tables.{table_from}
use Rattle.whole.specs.Values.{Laws, Values}
use Rattle.rules.proofs.Termination.Bound.{below-bound}
use Rattle.rules.proofs.Run.Start.{basic-row, housed-start, rowed-start, seated-problem}
use Rattle.rules.specs.Problem.{Problem, vars}
use Rattle.rules.specs.Run.{Ended, Ends, Moves, Runs, after, bound}
use Rattle.rules.specs.Facts.State.{Apart, Ready, Sound, how_many_seated}
use Rattle.rules.specs.Step.{Outcome, State, can, cannot, goes, range, start, start_seat, step}

module _ {X : Type 0} (𝓥 : Values X) where
  -- ---- every run ends

  dec_moves : (o : Outcome X) → (Moves o) ⊎ (Ended o)
  dec_moves can = inr tt
  dec_moves (cannot ls us) = inr tt
  dec_moves range = inr tt
  dec_moves (goes t) = inl tt

  ends-from : (P : Problem X) (s : State X) (B : ℕ) → ((k : ℕ) → Runs 𝓥 P s k → k < B) → (f i : ℕ) → i + f ≡ B →
      Runs 𝓥 P s i → (k : ℕ) × Ends 𝓥 P s k
  ends-from P s B b zero i e r = let z : i < B = b i r in let y : ⊥ = omega arith in absurd y
  ends-from P s B b (suc f) i e r = go (dec_moves (step 𝓥 P (after 𝓥 P s i)))
      (λ r'. ends-from P s B b f (suc i) (omega arith) r')
    where
      go : (Moves (step 𝓥 P (after 𝓥 P s i))) ⊎ (Ended (step 𝓥 P (after 𝓥 P s i))) →
          (Runs 𝓥 P s (suc i) → (k : ℕ) × Ends 𝓥 P s k) → (k : ℕ) × Ends 𝓥 P s k
      go (inr d) rest = (i, record { runs = r; ended = d })
      go (inl m) rest = rest (λ j h. one j h (ℕ_discrete j i))
        where
          one : (j : ℕ) → j < suc i → Dec (j ≡ i) → Moves (step 𝓥 P (after 𝓥 P s j))
          one j h (yes e) = rw e m
          one j h (no n) = r j (omega arith)

  pub ends : Laws 𝓥 → (P : Problem X) (s : State X) → Apart 𝓥 P → Sound 𝓥 P s → how_many_seated s.seats ≡ P.n →
      (k : ℕ) × Ends 𝓥 P s k
  ends law P s A S n = ends-from P s (bound P) (below-bound 𝓥 law P s A S n) (bound P) 0 (omega arith)
      (λ i h. let z : ⊥ = omega arith in absurd z)

  -- ---- the start

  seated-from : (P : Problem X) (a k : ℕ) → a + k ≡ P.n + P.m →
      how_many_seated (table_from a k (start_seat 𝓥 P)) ≡ P.n - a
  unfolding table_from
  seated-from P a zero e = omega arith
  seated-from P a (suc k) e = go (start_seat 𝓥 P a) refl (seated-from P (suc a) k (omega arith))
    where
      go : (o : Option X) → start_seat 𝓥 P a ≡ o → how_many_seated (table_from (suc a) k (start_seat 𝓥 P)) ≡ P.n - suc
          a →
          how_many_seated (o ∷ table_from (suc a) k (start_seat 𝓥 P)) ≡ P.n - a
      go none q h = let z : P.n ≤ a = basic-row 𝓥 P a q in h ∙ (omega arith)
      go (some x) q h = let z : a < P.n = (seated-problem 𝓥 P a x q).0 in ap suc h ∙ (omega arith)

  pub start-seated : (P : Problem X) → how_many_seated (start 𝓥 P).seats ≡ P.n
  unfolding start
  start-seated P = seated-from P 0 (vars P) (omega arith) ∙ (omega arith)

  pub ready-start : Laws 𝓥 → (P : Problem X) → Ready 𝓥 P (start 𝓥 P)
  ready-start law P = record { rowed = rowed-start 𝓥 P; housed = housed-start 𝓥 P law; seated-many = start-seated P }
