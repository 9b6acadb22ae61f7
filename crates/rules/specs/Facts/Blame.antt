-- docs/RULES.md, "The run", "A step", 3: the multipliers of a violated row that nothing can move, in plain words. D on
-- the violated limit; for every other variable the size of its entry, on its upper limit where it would have had to
-- increase, on its lower limit where to decrease; 0 elsewhere.
--   Blame      that, of two lists of multipliers
--   Blamed     of a step: the variable that leaves, that none enters, and the blame
use Rattle.std.specs.Prelude.{List, ◌≢◌, ◌≡◌, ℕ, ◌<◌, nat_abs, pos, ℤ, length, ◌<ℤ◌}
use Rattle.std.proofs.Math.Option.{none, some}
use Rattle.whole.specs.Values.{Values}
use Rattle.rules.specs.Problem.{Problem, vars, word}
use Rattle.rules.specs.Step.{Leaving, Side, State, above, below, entering, leaving, pull}
use Rattle.rules.specs.Tableau.{Tableau, entry}

-- of N variables, where r is violated on the side σ. `pull σ a` is the entry, with its sign swapped where r must fall
pub record Blame (N : ℕ) (σ : Side) (r : ℕ) (t : Tableau) (ls us : List ℤ) : Type 0 where
  pub many-lowers : length ls ≡ N
  pub many-uppers : length us ≡ N
  pub violated-lower : σ ≡ below → (word ls r ≡ t.common) × (word us r ≡ pos 0)
  pub violated-upper : σ ≡ above → (word us r ≡ t.common) × (word ls r ≡ pos 0)
  pub to-increase : (v : ℕ) → v < N → v ≢ r → pos 0 <ℤ pull σ (entry t r v) →
      (word us v ≡ pos (nat_abs (entry t r v))) × (word ls v ≡ pos 0)
  pub to-decrease : (v : ℕ) → v < N → v ≢ r → pull σ (entry t r v) <ℤ pos 0 →
      (word ls v ≡ pos (nat_abs (entry t r v))) × (word us v ≡ pos 0)
  pub elsewhere : (v : ℕ) → v < N → v ≢ r → entry t r v ≡ pos 0 → (word ls v ≡ pos 0) × (word us v ≡ pos 0)

pub record Blamed {X : Type 0} (𝓥 : Values X) (P : Problem X) (s : State X) (ls us : List ℤ) : Type 0 where
  pub out : Leaving X
  pub leaves : leaving 𝓥 P s ≡ some out
  pub none-enters : entering 𝓥 P s out ≡ none
  pub blame : Blame (vars P) out.side out.variable s.tableau ls us
