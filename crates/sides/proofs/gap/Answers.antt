-- `sides::gap` meets its contract: the parts are so small that their differences fit. Assumes nothing.
use Rattle.std.proofs.Common.{arith, ap, ap₂, sym, ◌∙◌}
use Rattle.std.proofs.lemmas.Int.{ints}
use Rattle.amounts.specs.Amounts.{amount_of, pair_of}
use Rattle.sides.proofs.Laws.Sides.{gap_parts}
use Rattle.sides.proofs.gap.Goals as goal

pub returns : goal.returns
returns c =
    ap₂ (λ plain small. amount_of (plain, small)) (omega (arith, ints)) (omega (arith, ints))
    ∙ ap amount_of (sym (gap_parts (pair_of c.args.a) (pair_of c.args.b)))
