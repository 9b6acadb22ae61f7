-- docs/RULES.md, "The run", "What a tableau is": D and the entries depend only on which variables are basic, and not on
-- how they were computed.
--   Obeyed     what is asked of a tableau, however it was computed: every solution of the rows obeys it
--   Next       the tableau of the next basic set, in lowest common form
-- The rule's tableau is such a one, and any other has the same numbers (`tableau-only`, `next-moved`, `next-only`).
use Rattle.std.specs.Prelude.{◌↔◌, ◌≢◌, ◌⊎◌, ◌≡◌, ℕ, ◌<◌, pos, ℤ, ◌*ℤ◌, ◌<ℤ◌}
use Rattle.std.proofs.Math.Option.{none}
use Rattle.whole.specs.Sums.{sum}
use Rattle.whole.specs.Values.{Values, whole}
use Rattle.rules.specs.Evidence.{Rows}
use Rattle.rules.specs.Problem.{Problem, vars}
use Rattle.rules.specs.Step.{Leaving, State, common, seat}
use Rattle.rules.specs.Tableau.{Tableau, divisor_size, entry}

module _ {X : Type 0} (𝓥 : Values X) (P : Problem X) where
  -- the same variables are basic
  abbrev pub SameBasis : State X → State X → Type 0
  SameBasis s t = (v : ℕ) → v < vars P → (seat s v ≡ none) ↔ (seat t v ≡ none)

  -- the same numbers
  abbrev pub SameNumbers : Tableau → Tableau → Type 0
  SameNumbers t u = (t.common ≡ u.common) × ((v w : ℕ) → v < vars P → w < vars P → entry t v w ≡ entry u v w)

  -- D times each variable is a sum over the nonbasic ones, for every solution of the rows
  pub record Obeyed (s : State X) : Type 0 where
    pub positive : pos 0 <ℤ common s
    pub holds : (x : ℕ → ℤ) → Rows whole P x → (v : ℕ) → v < vars P →
        common s *ℤ x v ≡ sum (vars P) (λ u. entry s.tableau v u *ℤ x u)
    pub basic-zero : (v w : ℕ) → v < vars P → w < vars P → seat s w ≡ none → entry s.tableau v w ≡ pos 0

  -- t has the lowest-form tableau of the basic set after w has entered for r's variable
  pub record Next (s : State X) (r : Leaving X) (w : ℕ) (t : State X) : Type 0 where
    pub obeyed : Obeyed t
    pub lowest-form : divisor_size (vars P) t.tableau ≡ 1
    pub basis : (v : ℕ) → v < vars P → (seat t v ≡ none) ↔ ((v ≡ w) ⊎ ((v ≢ r.variable) × (seat s v ≡ none)))
