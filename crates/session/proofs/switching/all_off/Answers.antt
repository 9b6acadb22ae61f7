-- `session::switching::all_off` meets its contract. The invariant: the limits passed are off, the others missing.
-- Assumes nothing.
use Rattle.std.proofs.Common.{◌≡◌, ap, ◌∙◌, refl, arith}
use Rattle.whole.specs.Tables.{filled}
use Rattle.whole.proofs.Lists.Prefix.{filled-start, filled_more}
use Rattle.rules.specs.Sizes.{most_variables}
use Rattle.amounts.specs.Amounts.{absent}
use Rattle.session.proofs.switching.all_off.Goals as goal
use Rattle.session.proofs.switching.all_off.Invariants.{off_at}

pub loop-v-init : goal.loop-v-init
loop-v-init c = filled-start most_variables absent (off_at c.args.limits)

pub loop-v-preserved : goal.loop-v-preserved
loop-v-preserved c =
    filled_more most_variables absent (off_at c.args.limits) c.loop-v.v (omega arith) c.loop-v.invariant refl

pub returns : goal.returns
returns c = let e : c.loop-v.v ≡ most_variables = omega arith in
    c.loop-v.invariant ∙ ap (λ k. filled most_variables absent k (off_at c.args.limits)) e
