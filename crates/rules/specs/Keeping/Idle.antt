-- docs/RULES.md, "The three demands", 2: nothing is idle in a "cannot". It names the limits whose multiplier is other
-- than 0. Keep them and drop all others; then drop one more.
use Rattle.std.specs.Prelude.{Bool, true, not, List, ◌≢◌, ℕ, ◌<◌, eqb, ℤ, pos}
use Rattle.whole.specs.Numbers.{eq_z}
use Rattle.rules.specs.Evidence.{lower_part, upper_part}
use Rattle.rules.specs.Keeping.Limits.{keeping}
use Rattle.rules.specs.Problem.{Problem, vars}
use Rattle.rules.specs.Step.{Side, below, above}

-- an answer's multiplier of the limit of variable v on a side, of N variables
abbrev pub multiplier : ℕ → List ℤ → Side → ℕ → ℤ
multiplier N a below v = lower_part a v
multiplier N a above v = upper_part N a v

abbrev pub is_named : ℕ → List ℤ → Side → ℕ → Bool
is_named N a σ v = not (eq_z (multiplier N a σ v) (pos 0))

-- the limits that an answer names, alone
abbrev pub named : {X : Type 0} → List ℤ → Problem X → Problem X
named a P = keeping (is_named (vars P) a) P

-- every limit but that of v on a side
abbrev pub is_other : Side → ℕ → Side → ℕ → Bool
is_other below v below w = not (eqb w v)
is_other below v above w = true
is_other above v below w = true
is_other above v above w = not (eqb w v)

-- one limit less
abbrev pub without : {X : Type 0} → Side → ℕ → Problem X → Problem X
without σ v P = keeping (is_other σ v) P

-- no row is blank (refusal 10)
abbrev pub NoBlank : {X : Type 0} → Problem X → Type 0
NoBlank P = (i : ℕ) → i < P.m → (j : ℕ) × (j < P.n) × (P.coefficient i j ≢ pos 0)
