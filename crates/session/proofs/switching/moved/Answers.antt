-- `session::switching::moved` meets its contract. Assumes nothing.
use mathlib.Core.Bool.{true, false}
use mathlib.Core.Path.{ap, sym, ◌∙◌}
use Rattle.amounts.specs.Amounts.{pair_in, value_of}
use Rattle.session.proofs.Laws.Inside.{inside-by}
use Rattle.session.proofs.switching.moved.Goals as goal

pub returns-then-is_crossed : goal.returns-then-is_crossed
returns-then-is_crossed c = let o = c in let a = o.args in
    ap value_of (inside-by a.lower a.upper (pair_in a.value) true (sym o.is_crossed.ensures ∙ c.if-is_crossed.true))

pub returns-else-is_crossed : goal.returns-else-is_crossed
returns-else-is_crossed c = let o = c in let a = o.args in
    c.put_inside.ensures
    ∙ ap value_of (inside-by a.lower a.upper (pair_in a.value) false
    (sym o.is_crossed.ensures ∙ c.if-is_crossed.false))
