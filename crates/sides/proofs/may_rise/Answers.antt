-- `sides::may_rise` meets its contract. Assumes nothing.
use Rattle.std.proofs.Common.{not, ◌||◌, ap, ◌∙◌}
use Rattle.whole.specs.Values.{pairs}
use Rattle.amounts.specs.Amounts.{pair_in}
use Rattle.amounts.proofs.Laws.Order.{value-below}
use Rattle.sides.proofs.Laws.Sides.{rise-joined}
use Rattle.sides.proofs.may_rise.Goals as goal

pub returns : goal.returns
returns c = let a = c.args in
    ap (λ b. not a.limit.on || b)
    (c.lt.ensures ∙ value-below a.value c.upper_value.result
    ∙ ap (λ x. pairs.less (pair_in a.value) (pair_in x)) c.upper_value.ensures)
    ∙ rise-joined a.limit (pair_in a.value)
