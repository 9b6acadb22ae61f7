-- A value put inside two limits.
--   value-is    0 put inside is the rules' start value
use mathlib.Core.Bool.{Bool, true, false, cond, ◌&&◌}
use mathlib.Core.Path.{◌≡◌, refl}
use Rattle.whole.specs.Values.{pairs}
use Rattle.rules.specs.Limit.{Limit, lower_pair, present, upper_pair}
use Rattle.rules.specs.Problem.{mapped}
use Rattle.rules.specs.Step.{start_value}
use Rattle.amounts.specs.declared.Given.{Given}
use Rattle.amounts.specs.Amounts.{given_lower, given_upper, limit_in, put_inside}

-- both limits by their flags, each asked for without a branch
pub value-is : (g h : Given) →
    start_value pairs (mapped lower_pair (limit_in g)) (mapped upper_pair (limit_in h)) ≡ put_inside g h pairs.nil
unfolding start_value present mapped put_inside
value-is g h = go g.on h.on
  where
    l : Limit
    l = record { plain = g.plain; strict = g.strict }

    u : Limit
    u = record { plain = h.plain; strict = h.strict }

    go : (a b : Bool) → start_value pairs (mapped lower_pair (present a l)) (mapped upper_pair (present b u))
        ≡ cond (a && pairs.less pairs.nil (given_lower g)) (given_lower g)
        (cond (b && pairs.less (given_upper h) pairs.nil) (given_upper h) pairs.nil)
    go true true = refl
    go true false = refl
    go false true = refl
    go false false = refl
