-- `tableau::read::start_seats` meets its contract. The invariant: the variables passed have the definition's seats.
-- Assumes nothing.
use Rattle.std.proofs.Common.{◌≡◌, ap, ◌∙◌, arith}
use Rattle.whole.proofs.Lists.Prefix.{filled-start, filled_more}
use Rattle.rules.specs.Sizes.{most_variables}
use Rattle.tableau.specs.Parts.{nowhere}
use Rattle.tableau.specs.Start.{seat_for, start_seats}
use Rattle.tableau.proofs.read.start_seats.Goals as goal

pub loop-v-init : goal.loop-v-init
loop-v-init c = filled-start most_variables nowhere (seat_for c.args.columns)

pub loop-v-preserved : goal.loop-v-preserved
loop-v-preserved c =
    filled_more most_variables nowhere _ c.loop-v.v (omega arith) c.loop-v.invariant c.seat_for.ensures

pub returns : goal.returns
returns c = let e : c.loop-v.v ≡ c.args.variables = omega arith in
    c.loop-v.invariant ∙ ap (start_seats c.args.columns) e
