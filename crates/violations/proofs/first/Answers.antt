-- `violations::first` meets its contract: the number of a refusal, or what is shown of the first state of the run.
-- Assumes nothing.
use mathlib.Core.Path.{ap, sym, ◌∙◌}
use Rattle.refusals.proofs.Refused.{number-some}
use Rattle.violations.specs.Violations.{nothing_at}
use Rattle.violations.proofs.Laws.Shown.{start-held, start-refused, start-shown}
use Rattle.violations.proofs.first.Goals as goal

pub outside-requires : goal.outside-requires
outside-requires c = start-held c.args.words.now c.new.result c.new.ensures (sym c.in-Ok.ensures)

pub returns-in-Ok : goal.returns-in-Ok
returns-in-Ok c = c.outside.ensures ∙ start-shown c.args.words.now c.new.result c.new.ensures (sym c.in-Ok.ensures)

pub returns-in-Err : goal.returns-in-Err
returns-in-Err c = c.nothing.ensures ∙ ap nothing_at c.number.ensures
    ∙ start-refused c.args.words.now _ c.in-Err.ensures (number-some c.in-Err.refusal)
