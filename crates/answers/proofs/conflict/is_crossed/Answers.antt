-- `answers::conflict::is_crossed` meets its contract. Assumes nothing.
use Rattle.std.proofs.Common.{◌&&◌, ap, ap₂, ◌∙◌}
use Rattle.whole.specs.Values.{pairs}
use Rattle.amounts.specs.Amounts.{pair_in}
use Rattle.amounts.proofs.Laws.Order.{value-below}
use Rattle.answers.proofs.Laws.Stands.Crossed.{crossed-joined}
use Rattle.answers.proofs.conflict.is_crossed.Goals as goal

pub returns : goal.returns
returns c = let a = c.args in
    ap (λ b. (a.lower.on && a.upper.on) && b)
    (c.lt.ensures ∙ value-below c.upper_value-most.result c.lower_value-least.result
    ∙ ap₂ (λ x y. pairs.less (pair_in x) (pair_in y)) c.upper_value-most.ensures c.lower_value-least.ensures)
    ∙ crossed-joined a.lower a.upper
