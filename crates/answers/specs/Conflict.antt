-- Crossed limits, by the struct's limits: docs/RULES.md, "The run", its first sentence.
use Rattle.std.specs.Prelude.{cond, ℕ, Some, None}
use Rattle.std.specs.Prelude as answered
use Rattle.std.proofs.Math.Option.{Option, none, some}
use Rattle.whole.specs.Below.{lowest}
use Rattle.whole.specs.Values.{pairs}
use Rattle.rules.specs.Run.{crossed}
use Rattle.tableau.specs.declared.Limits.{Limits}
use Rattle.tableau.specs.declared.Variable.{Variable}
use Rattle.tableau.specs.Parts.{variable, lowest_of, highest_of}

-- a number that the rules find, as the code has it
unfoldable pub crossed_from : Option ℕ → answered.Option Variable
crossed_from none = None
crossed_from (some v) = Some (variable v)

-- v, where its limits cross
unfoldable pub crosses_at : Limits → ℕ → Option ℕ
crosses_at l v = cond (crossed pairs (lowest_of l v) (highest_of l v)) (some v) none

-- the lowest variable below N whose limits cross
unfoldable pub conflict_at : Limits → ℕ → answered.Option Variable
conflict_at l N = crossed_from (lowest N (crosses_at l))
