-- `tableau::Tableau::limits_of` meets its contract. The invariant: the limits of the variables passed are read, the
-- others are missing. Assumes nothing.
use Prim.Native.Nat.{ℕ}
use Rattle.rules.specs.Problem.{problem, Problem}
use mathlib.Core.Path.{◌≡◌}
use mathlib.Core.Bool.{Bool}
use mathlib.Core.List.{List}
use Rattle.whole.specs.Below.{some_below}
use Rattle.whole.specs.Tables.{filled}
use Rattle.rules.specs.Sizes.{most_variables}
use Rattle.rules.specs.Limit.{Limit}
use Rattle.amounts.specs.declared.Given.{Given}
use Rattle.amounts.specs.Amounts.{absent}
use Rattle.tableau.specs.Start.{given_of, strict_at}
use Rattle.tableau.proofs.Tableau.limits_of.Given as goal

-- the limits of the variables below v are read
pub record Passed (P : Problem Limit) (v : ℕ) (lower upper : List Given) (strict : Bool) : Type 0 where
  pub lower-are : lower ≡ filled most_variables absent v (λ u. given_of (P.lower u))
  pub upper-are : upper ≡ filled most_variables absent v (λ u. given_of (P.upper u))
  pub strict-is : strict ≡ some_below v (strict_at P)

abbrev pub invariant-loop-v : goal.invariant-loop-v
invariant-loop-v l = Passed (problem l.words) l.v l.lower l.upper l.strict
