-- `violations::standing` meets its contract: what is shown of the session's tableau. Assumes nothing.
use Rattle.violations.proofs.Laws.Shown.{shows-as}
use Rattle.violations.proofs.standing.Goals as goal

pub returns-clause-meaning : goal.returns-clause-meaning
returns-clause-meaning c = shows-as c.args.session c.outside.result c.outside.ensures
