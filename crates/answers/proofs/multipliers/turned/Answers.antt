-- `answers::multipliers::turned` meets its contract. Assumes nothing.
use Rattle.std.proofs.Common.{neg_ℤ, w64, SFits}
use Rattle.std.proofs.Math.Facts.{to_z-of_z}
use lib.IntN.{+ℤ_idl}
use Rattle.whole.proofs.Numbers.Sizes.{within-neg, fits-by}
use Rattle.rules.specs.Step as step
use Rattle.answers.proofs.multipliers.turned.Goals as goal

pub returns-then-rises : goal.returns-then-rises
unfolding step.pull
returns-then-rises c = simp (to_z-of_z c.ranges.entry, c.if-rises.true)

pub returns-else-rises : goal.returns-else-rises
unfolding step.pull
returns-else-rises c = let fit : SFits w64 (neg_ℤ c.args.entry) = fits-by (within-neg c.requires) tt in
    simp (to_z-of_z c.ranges.entry, +ℤ_idl, to_z-of_z fit, c.if-rises.false)
