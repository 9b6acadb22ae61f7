-- `session::switching::quiet` meets its contract. Assumes nothing.
use mathlib.Core.List.{List}
use mathlib.Core.Path.{ap₂}
use Rattle.amounts.specs.declared.Given.{Given}
use Rattle.session.specs.Switching.{furnished, zero_values, quiet_at}
use Rattle.session.proofs.switching.quiet.Goals as goal

pub returns : goal.returns
unfolding quiet_at
returns c = let t = c.args.tableau in
    ap₂ (λ (a b : List Given).
    furnished t zero_values zero_values (record { lower = a; upper = b; strict = t.limits.strict }))
    c.all_off-lower.ensures c.all_off-upper.ensures
