-- What one step comes to, by the variables that it chooses and the range test of the pivoted tableau.
--   stepped        the four cases with their choices: `Stepped`
--   step-cannot, step_range    a step ends so exactly where the choices are these
--   step-goes      where a step goes to t the choices are those of `Goes`
use mathlib.Core.Bool.{Bool, false, true}
use mathlib.Core.List.{List}
use mathlib.Core.Logic.{◌↔◌}
use mathlib.Core.Option.{Option, none, some}
use mathlib.Core.Path.{refl, sym, ◌∙◌, ◌≡◌}
use Prim.Native.Nat.{ℕ}
use lib.IntN.{ℤ}
use Rattle.whole.proofs.Bools.{zero_one}
use Rattle.whole.specs.Values.{Values}
use Rattle.rules.specs.Problem.{Problem, vars}
use Rattle.rules.specs.Step.{Leaving, State, admit, can, cannot, entering, evidence, goes, leaving, moved, range}
use Rattle.rules.specs.Step.{step}
use Rattle.rules.specs.Tableau.{relation, small}

module _ {X : Type 0} (𝓥 : Values X) where
  pub data Stepped (P : Problem X) (s : State X) : Type 0 where
    is-can : leaving 𝓥 P s ≡ none → step 𝓥 P s ≡ can → Stepped P s
    is-cannot : (r : Leaving X) → leaving 𝓥 P s ≡ some r → entering 𝓥 P s r ≡ none →
        step 𝓥 P s ≡ evidence (vars P) r.side (relation s.tableau r.variable) → Stepped P s
    is-range : (r : Leaving X) (w : ℕ) → leaving 𝓥 P s ≡ some r → entering 𝓥 P s r ≡ some w →
        small (vars P) (moved 𝓥 P s r w).tableau ≡ false → step 𝓥 P s ≡ range → Stepped P s
    is-goes : (r : Leaving X) (w : ℕ) → leaving 𝓥 P s ≡ some r → entering 𝓥 P s r ≡ some w →
        small (vars P) (moved 𝓥 P s r w).tableau ≡ true → step 𝓥 P s ≡ goes (moved 𝓥 P s r w) → Stepped P s

  pub stepped : (P : Problem X) (s : State X) → Stepped P s
  unfolding step admit
  stepped P s = leave-by (leaving 𝓥 P s) refl
    where
      leave-by : (o : Option (Leaving X)) → leaving 𝓥 P s ≡ o → Stepped P s
      leave-by none q = is-can q (rw (q, step))
      leave-by (some r) q = enter-by (entering 𝓥 P s r) refl
        where
          enter-by : (o : Option ℕ) → entering 𝓥 P s r ≡ o → Stepped P s
          enter-by none y = is-cannot r q y (rw (q, step) (rw y))
          enter-by (some w) y = fit-by (small (vars P) (moved 𝓥 P s r w).tableau) refl
            where
              fit-by : (b : Bool) → small (vars P) (moved 𝓥 P s r w).tableau ≡ b → Stepped P s
              fit-by true f = is-goes r w q y f (rw (q, step) (rw y (rw (f, admit))))
              fit-by false f = is-range r w q y f (rw (q, step) (rw y (rw (f, admit))))

  -- ---- a step that ends

  pub step-cannot : (P : Problem X) (s : State X) (ls us : List ℤ) → (step 𝓥 P s ≡ cannot ls us)
      ↔ ((r : Leaving X) × (leaving 𝓥 P s ≡ some r) × (entering 𝓥 P s r ≡ none)
      × (evidence {X = X} (vars P) r.side (relation s.tableau r.variable) ≡ cannot ls us))
  unfolding step evidence
  step-cannot P s ls us = (λ e. go e (stepped P s), λ (r, q, y, z). rw (q, step) (rw y z))
    where
      go : step 𝓥 P s ≡ cannot ls us → Stepped P s →
          (r : Leaving X) × (leaving 𝓥 P s ≡ some r) × (entering 𝓥 P s r ≡ none)
          × (evidence {X = X} (vars P) r.side (relation s.tableau r.variable) ≡ cannot ls us)
      go e (is-can q z) = let c : ◌≡◌ {A = ℕ} 0 1 = cc in zero_one c
      go e (is-cannot r q y z) = (r, q, y, sym z ∙ e)
      go e (is-range r w q y f z) = let c : ◌≡◌ {A = ℕ} 0 1 = cc in zero_one c
      go e (is-goes r w q y f z) = let c : ◌≡◌ {A = ℕ} 0 1 = cc in zero_one c

  pub step_range : (P : Problem X) (s : State X) → (step 𝓥 P s ≡ range)
      ↔ ((r : Leaving X) × (w : ℕ) × (leaving 𝓥 P s ≡ some r) × (entering 𝓥 P s r ≡ some w)
      × (small (vars P) (moved 𝓥 P s r w).tableau ≡ false))
  unfolding step evidence admit
  step_range P s = (λ e. go e (stepped P s), λ (r, w, q, y, f). rw (q, step) (rw y (rw (f, admit))))
    where
      go : step 𝓥 P s ≡ range → Stepped P s →
          (r : Leaving X) × (w : ℕ) × (leaving 𝓥 P s ≡ some r) × (entering 𝓥 P s r ≡ some w)
          × (small (vars P) (moved 𝓥 P s r w).tableau ≡ false)
      go e (is-can q z) = let c : ◌≡◌ {A = ℕ} 0 1 = cc in zero_one c
      go e (is-cannot r q y z) = let c : ◌≡◌ {A = ℕ} 0 1 = cc in zero_one c
      go e (is-range r w q y f z) = (r, w, q, y, f)
      go e (is-goes r w q y f z) = let c : ◌≡◌ {A = ℕ} 0 1 = cc in zero_one c

  -- ---- a step that moves

  pub record Goes (P : Problem X) (s t : State X) : Type 0 where
    pub out : Leaving X
    pub into : ℕ
    pub leaves : leaving 𝓥 P s ≡ some out
    pub enters : entering 𝓥 P s out ≡ some into
    pub next-is : t ≡ moved 𝓥 P s out into
    pub fits : small (vars P) t.tableau ≡ true

  pub step-goes : (P : Problem X) (s t : State X) → step 𝓥 P s ≡ goes t → Goes P s t
  unfolding evidence
  step-goes P s t e = go (stepped P s)
    where
      go : Stepped P s → Goes P s t
      go (is-can q z) = let c : ◌≡◌ {A = ℕ} 0 1 = cc in zero_one c
      go (is-cannot r q y z) = let c : ◌≡◌ {A = ℕ} 0 1 = cc in zero_one c
      go (is-range r w q y f z) = let c : ◌≡◌ {A = ℕ} 0 1 = cc in zero_one c
      go (is-goes r w q y f z) = let g : t ≡ moved 𝓥 P s r w = cc in
          record { out = r; into = w; leaves = q; enters = y; next-is = g; fits = rw g f }
