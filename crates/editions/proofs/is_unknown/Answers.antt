-- `editions::is_unknown` meets its contract: it looks the number up.
use Rattle.std.proofs.Common.{◌∙◌}
use Rattle.editions.proofs.Editions.{unknown-told}
use Rattle.editions.proofs.is_unknown.Goals as goal

pub returns : goal.returns
returns c = c.is_err.ensures.value ∙ unknown-told c.args.edition c.try_from.result c.try_from.ensures
