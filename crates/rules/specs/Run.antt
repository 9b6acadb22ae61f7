-- docs/RULES.md, "The run": the steps one after the other. For statements: `after`, `Runs`, `Ends`. For computing:
-- `run`, with the bound as fuel. A theorem joins the two (proofs/Termination/Ends.antt).
use Rattle.std.specs.Prelude.{Bool, false, cond, ℕ, zero, suc, ◌+◌, ◌*◌, ◌^◌, ◌<◌}
use Rattle.std.proofs.Math.Option.{Option, none, some}
use Rattle.whole.specs.Below.{lowest}
use Rattle.whole.specs.Tables.{table}
use Rattle.whole.specs.Values.{Values}
use Rattle.rules.specs.Problem.{Problem, vars}
use Rattle.rules.specs.Sizes.{most_columns, most_variables}
use Rattle.rules.specs.Step.{State, Outcome, can, cannot, range, goes, step, same}

-- ---- what k steps make of a state. One that has ended stays as it is

unfoldable pub next : {X : Type 0} → State X → Outcome X → State X
next s can = s
next s (cannot ls us) = s
next s range = s
next s (goes t) = t

abbrev pub Moves : {X : Type 0} → Outcome X → Type 0
Moves can = ⊥
Moves (cannot ls us) = ⊥
Moves range = ⊥
Moves (goes t) = Unit {0}

abbrev pub Ended : {X : Type 0} → Outcome X → Type 0
Ended can = Unit {0}
Ended (cannot ls us) = Unit {0}
Ended range = Unit {0}
Ended (goes t) = ⊥

module _ {X : Type 0} (𝓥 : Values X) where
  unfoldable pub after : Problem X → State X → ℕ → State X
  after P s zero = s
  after P s (suc k) = next (after P s k) (step 𝓥 P (after P s k))

  -- the run from s has at least k pivots
  abbrev pub Runs : Problem X → State X → ℕ → Type 0
  Runs P s k = (i : ℕ) → i < k → Moves (step 𝓥 P (after P s i))

  -- .. and exactly k
  pub record Ends (P : Problem X) (s : State X) (k : ℕ) : Type 0 where
    pub runs : Runs P s k
    pub ended : Ended (step 𝓥 P (after P s k))

-- ---- the bound: 3^n times the ways to choose n of m + n

unfoldable pub choose : ℕ → ℕ → ℕ
choose k zero = 1
choose zero (suc j) = 0
choose (suc k) (suc j) = choose k (suc j) + choose k j

unfoldable pub bound : {X : Type 0} → Problem X → ℕ
bound P = 3 ^ P.n * choose (vars P) P.n

-- no run has as many pivots, by the sizes: the bound is at most this (proofs/Termination/Bound.antt)
abbrev pub most_count : ℕ
most_count = 3 ^ most_columns * 2 ^ most_variables

-- ---- the run that computes

-- how it ended, the pivots completed, and the last state. How it ended is `goes` only where the run goes on past its
-- fuel
pub record Ending (X : Type 0) : Type 0 where
  pub how : Outcome X
  pub pivots : ℕ
  pub last : State X

module _ {X : Type 0} (𝓥 : Values X) where
  unfoldable pub run : ℕ → Problem X → State X → ℕ → Ending X
  run zero P s k = record { how = step 𝓥 P s; pivots = k; last = s }
  run (suc f) P s k = elim (step 𝓥 P s) [
    | can ↦ record { how = can; pivots = k; last = s }
    | cannot ls us ↦ record { how = cannot ls us; pivots = k; last = s }
    | range ↦ record { how = range; pivots = k; last = s }
    | goes t ↦ run f P t (suc k)
  ]

  -- some variable's lower limit exceeds its upper
  unfoldable pub crossed : Option X → Option X → Bool
  crossed none u = false
  crossed (some l) none = false
  crossed (some l) (some u) = 𝓥.less u l

  -- the lowest such variable
  unfoldable pub conflict : Problem X → Option ℕ
  conflict P = lowest (vars P) (λ v. cond (crossed (P.lower v) (P.upper v)) (some v) none)

  -- the run with b pivots to spend, at the state s, k pivots on: where limits cross, both multipliers of that variable
  -- are 1, and no pivot is made
  unfoldable pub spending : ℕ → Problem X → State X → ℕ → Ending X
  spending b P s k = elim (conflict P) [
    | some v ↦ record { how = cannot (table (vars P) (same v)) (table (vars P) (same v)); pivots = k; last = s }
    | none ↦ run b P s k
  ]

  -- a check of P from the state s: the whole run, since none reaches the bound
  unfoldable pub ending : Problem X → State X → Ending X
  ending P s = spending (bound P) P s 0
