-- docs/RULES.md, "The three demands", 3, and "The run": what is in range, and out of range in plain words.
--   Small, Beyond    what the range test of a tableau asks: no number beyond the largest; or one is
--   TooLarge         there are a leaving and an entering variable, and the lowest-form tableau of the next basic set,
--                    which is one (specs/Facts/Tableau), holds a number beyond the largest
use Rattle.std.specs.Prelude.{◌⊎◌, ◌≡◌, ℕ, ◌<◌, ℤ}
use Rattle.std.proofs.Math.Option.{none, some}
use Rattle.whole.specs.Numbers.{Within}
use Rattle.whole.specs.Values.{Values}
use Rattle.rules.specs.Problem.{Problem, vars}
use Rattle.rules.specs.Sizes.{largest_number}
use Rattle.rules.specs.Step.{Leaving, State, common, entering, leaving, seat}
use Rattle.rules.specs.Tableau.{Tableau, entry}
use Rattle.rules.specs.Facts.Tableau.{Next}

-- D and every entry are in range
abbrev pub Small : ℕ → Tableau → Type 0
Small N t = Within t.common largest_number × ((v : ℕ) → v < N → (u : ℕ) → u < N → Within (entry t v u) largest_number)

-- D or some entry is not
abbrev pub Beyond : ℕ → Tableau → Type 0
Beyond N t =
    (¬ Within t.common largest_number)
    ⊎ ((v : ℕ) × (v < N) × ((u : ℕ) × (u < N) × (¬ Within (entry t v u) largest_number)))

module _ {X : Type 0} (P : Problem X) (s : State X) where
  -- of D and of the entry of every basic row at every nonbasic variable: the m·n entries of docs/RULES.md
  abbrev pub EveryCell : (ℤ → Type 0) → Type 0
  EveryCell Q = Q (common s) × ((v w : ℕ) (x : X) → v < vars P → w < vars P → seat s v ≡ none → seat s w ≡ some x →
      Q (entry s.tableau v w))

module _ {X : Type 0} (𝓥 : Values X) (P : Problem X) where
  pub record TooLarge (s : State X) : Type 0 where
    pub out : Leaving X
    pub into : ℕ
    pub leaves : leaving 𝓥 P s ≡ some out
    pub enters : entering 𝓥 P s out ≡ some into
    pub next : State X
    pub is-next : Next 𝓥 P s out into next
    pub beyond : Beyond (vars P) next.tableau
