-- `tableau::read::start_value` meets its contract. Assumes nothing.
use mathlib.Core.Path.{◌∙◌, ap, sym}
use Rattle.amounts.specs.Amounts.{value_of}
use Rattle.amounts.proofs.Laws.Inside.{value-is}
use Rattle.tableau.proofs.read.start_value.Goals as goal

pub returns : goal.returns
returns c = let a = c.args in c.put_inside.ensures ∙ ap value_of (sym (value-is a.lower a.upper))
