-- `steps::violated_limit` meets its contract. Assumes nothing.
use Rattle.std.proofs.Common.{ap, sym, ◌∙◌}
use Rattle.amounts.specs.Amounts.{value_of}
use Rattle.steps.specs.Step.{violated_pair}
use Rattle.steps.proofs.violated_limit.Goals as goal

pub returns-then-rises : goal.returns-then-rises
returns-then-rises c = let a = c.args in
    c.lower_value.ensures ∙ sym (ap (λ b. value_of (violated_pair b a.lower a.upper)) c.if-rises.true)

pub returns-else-rises : goal.returns-else-rises
returns-else-rises c = let a = c.args in
    c.upper_value.ensures ∙ sym (ap (λ b. value_of (violated_pair b a.lower a.upper)) c.if-rises.false)
