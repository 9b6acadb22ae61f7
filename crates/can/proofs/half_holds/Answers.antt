-- `can::half_holds` meets its contract: the numbers are in range before a row is summed. Assumes nothing.
use Rattle.std.proofs.Common.{◌≡◌, true, sym, ◌∙◌, ◌+◌, nat_abs, arith}
use mir.Facts.{to_z-of_z}
use Rattle.whole.proofs.Lists.Below.{all-each}
use Rattle.whole.proofs.Numbers.Sizes.{within-le}
use Rattle.whole.proofs.Tells.{tells-within}
use Rattle.parts.specs.Reads.{numerators_fit}
use Rattle.can.proofs.half_holds.Goals as goal

pub rows_hold-requires-clause-by_index : goal.rows_hold-requires-clause-by_index
rows_hold-requires-clause-by_index c =
    let fits : numerators_fit (nat_abs c.args.largest) c.args.half.now (c.args.case.now.columns + c.args.case.now.rows)
    ≡ true = sym (simp (to_z-of_z c.ranges.largest) at c.numerators_fit.ensures) ∙ c.if-numerators_fit.true in
    λ v h. within-le ((tells-within _ _).if-true (all-each _ _ fits v (omega arith))) c.requires.pos_bound.1.within
