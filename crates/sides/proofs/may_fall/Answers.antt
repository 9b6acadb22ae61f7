-- `sides::may_fall` meets its contract. Assumes nothing.
use Rattle.std.proofs.Common.{not, ◌||◌, ap, ◌∙◌}
use Rattle.whole.specs.Values.{pairs}
use Rattle.amounts.specs.Amounts.{pair_in}
use Rattle.amounts.proofs.Laws.Order.{value-below}
use Rattle.sides.proofs.Laws.Sides.{fall-joined}
use Rattle.sides.proofs.may_fall.Goals as goal

pub returns : goal.returns
returns c = let a = c.args in
    ap (λ b. not a.limit.on || b)
    (c.lt.ensures ∙ value-below c.lower_value.result a.value
    ∙ ap (λ x. pairs.less (pair_in x) (pair_in a.value)) c.lower_value.ensures)
    ∙ fall-joined a.limit (pair_in a.value)
