-- `session::switching::turned` meets its contract. Assumes nothing.
use mathlib.Core.Path.{ap, ◌∙◌}
use Rattle.session.specs.Switching.{furnished, settled_at, turned_at}
use Rattle.session.proofs.switching.turned.Goals as goal

pub returns : goal.returns
unfolding turned_at
returns c = let a = c.args in c.settled.ensures
    ∙ ap (λ l. settled_at (furnished a.tableau a.tableau.values a.tableau.smalls l) a.variable.0)
    c.flagged-tableau.ensures
