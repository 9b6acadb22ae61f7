-- A value against limits that may be missing, as the code holds them: a record for each limit, a flag for the side.
-- The pairs that value and limits stand for are compared.
use Rattle.std.specs.Prelude.{Bool, true, false, ℤ, Some, None}
use Rattle.std.specs.Prelude as answered
use Rattle.std.proofs.Math.Option.{Option, none, some}
use Rattle.whole.specs.Numbers.{Within}
use Rattle.whole.specs.Values.{pairs}
use Rattle.rules.specs.Limit.{lower_pair, upper_pair}
use Rattle.rules.specs.Problem.{mapped}
use Rattle.rules.specs.Sizes.{largest_numerator, largest_small}
use Rattle.rules.specs.Step.{Side, below, above, under, over, shortfall_by, pull, suits}
use Rattle.amounts.specs.declared.Given.{Given}
use Rattle.amounts.specs.Amounts.{amount_of, limit_in}
use Rattle.sides.specs.declared.Breach.{Breach}
use Rattle.sides.specs.declared.LimitPair.{LimitPair}

-- D times a value, and D times a limit, are no larger
pub record Modest (x : ℤ × ℤ) : Type 0 where
  pub plain : Within x.0 largest_numerator
  pub small : Within x.1 largest_small

-- by which limit a value is outside; the lower one is asked first
abbrev pub side_from : Bool → Bool → Option Side
side_from true o = some below
side_from false true = some above
side_from false false = none

unfoldable pub side_of : ℤ → ℤ × ℤ → Option (ℤ × ℤ) → Option (ℤ × ℤ) → Option Side
side_of d x l u = side_from (under pairs d x l) (over pairs d x u)

-- a side as the flag "must rise", and back
abbrev pub rising : Side → Bool
rising below = true
rising above = false

abbrev pub side_by : Bool → Side
side_by true = below
side_by false = above

-- a side, with the shortfall on each side
abbrev pub as_breach : Option Side → (Side → ℤ × ℤ) → answered.Option Breach
as_breach none short = None
as_breach (some σ) short = Some (record { rises = rising σ; shortfall = amount_of (short σ) })

-- what a lower and an upper limit stand for, which may be missing
abbrev pub least_in : Given → Option (ℤ × ℤ)
least_in g = mapped lower_pair (limit_in g)

abbrev pub most_in : Given → Option (ℤ × ℤ)
most_in g = mapped upper_pair (limit_in g)

-- .. of a variable's two
abbrev pub lower_in : LimitPair → Option (ℤ × ℤ)
lower_in p = least_in p.lower

abbrev pub upper_in : LimitPair → Option (ℤ × ℤ)
upper_in p = most_in p.upper

-- D, and D times a value, against two limits
abbrev pub breach_at : ℤ → ℤ × ℤ → Option (ℤ × ℤ) → Option (ℤ × ℤ) → answered.Option Breach
breach_at d x l u = as_breach (side_of d x l u) (shortfall_by pairs d x l u)

unfoldable pub breach_of : ℤ → ℤ × ℤ → LimitPair → answered.Option Breach
breach_of d x p = breach_at d x (lower_in p) (upper_in p)

unfoldable pub suits_of : Bool → ℤ → ℤ × ℤ → LimitPair → Bool
suits_of rises a x p = suits pairs (pull (side_by rises) a) (some x) (lower_in p) (upper_in p)
