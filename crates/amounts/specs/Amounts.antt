-- Limits, values and amounts as the code holds them, and the pairs and limits of the rules that they stand for.
use Rattle.std.specs.Prelude.{false, cond, ◌&&◌, ℤ, pos, neg_ℤ}
use Rattle.std.proofs.Math.Option.{Option}
use Rattle.whole.specs.Values.{pairs}
use Rattle.rules.specs.Limit.{Limit, inset, present}
use Rattle.amounts.specs.declared.Given.{Given}
use Rattle.amounts.specs.declared.Amount.{Amount}
use Rattle.amounts.specs.declared.Value.{Value}

-- a missing limit
abbrev pub absent : Given
absent = record { given = false; on = false; strict = false; plain = pos 0 }

-- the rules' limit, which may be missing or off
abbrev pub limit_in : Given → Option Limit
limit_in g = present g.on (record { plain = g.plain; strict = g.strict })

-- the pair that it stands for in the run, where it is on
abbrev pub given_lower : Given → ℤ × ℤ
given_lower g = (g.plain, inset g.strict)

abbrev pub given_upper : Given → ℤ × ℤ
given_upper g = (g.plain, neg_ℤ (inset g.strict))

-- a value outside one of two limits goes to that one; the lower one is asked first
unfoldable pub put_inside : Given → Given → ℤ × ℤ → ℤ × ℤ
put_inside g h x = cond (g.on && pairs.less x (given_lower g)) (given_lower g)
    (cond (h.on && pairs.less (given_upper h) x) (given_upper h) x)

abbrev pub pair_in : Value → ℤ × ℤ
pair_in x = (x.plain, x.small)

abbrev pub value_of : ℤ × ℤ → Value
value_of x = record { plain = x.0; small = x.1 }

abbrev pub pair_of : Amount → ℤ × ℤ
pair_of a = (a.plain, a.small)

abbrev pub amount_of : ℤ × ℤ → Amount
amount_of x = record { plain = x.0; small = x.1 }
