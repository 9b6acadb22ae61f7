-- `session::switching::judge` meets its contract: the tests in their order. Assumes nothing.
use mathlib.Core.Bool.{Bool, false, not, ◌&&◌}
use mathlib.Core.Path.{◌≡◌, refl, sym, ◌∙◌}
use Rattle.rules.specs.Refusal.{first}
use Rattle.rules.proofs.Refusal.First.{first-hit, first-skip}
use Rattle.amounts.specs.declared.Given.{Given}
use Rattle.session.specs.Switching.{limit_refusal, limit_tests}
use Rattle.session.proofs.switching.judge.Goals as goal

pub returns-then-not-limit : goal.returns-then-not-limit
unfolding limit_tests
returns-then-not-limit c = sym (first-hit 42 _ c.if-not-limit.true)

pub returns-then-on-limit : goal.returns-then-on-limit
unfolding limit_tests
returns-then-on-limit c = sym (first-skip 42 _ c.if-not-limit.false ∙ first-hit 43 _ c.if-on-limit.true)

pub returns-then-on-limit-2 : goal.returns-then-on-limit-2
unfolding limit_tests
returns-then-on-limit-2 c = sym (first-skip 42 _ c.if-not-limit.false
    ∙ first-skip 43 _ c.if-on-limit.false ∙ first-hit 44 _ c.if-on-limit-2.true)

none-applies : (g : Given) (on : Bool) → not g.given ≡ false → (on && g.on) ≡ false →
    (not on && not g.on) ≡ false → 0 ≡ limit_refusal g on
unfolding limit_tests first
none-applies g on e f h = rw (e, f, h) refl

pub returns : goal.returns
returns c = let s = c in
    none-applies s.args.limit s.args.on c.if-not-limit.false
    c.if-on-limit.false c.if-on-limit-2.false
