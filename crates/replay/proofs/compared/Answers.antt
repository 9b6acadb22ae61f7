-- `replay::compared` meets its contract: the tests in their order. Assumes nothing.
use mathlib.Core.Bool.{false, true}
use mathlib.Core.Path.{refl, sym, ◌∙◌}
use Rattle.whole.proofs.Tells.{tells-eq, tells-false, tells-true}
use Rattle.replay.proofs.Laws.Compared.{tests-say}
use Rattle.replay.proofs.compared.Goals as goal

pub returns-then-not-went : goal.returns-then-not-went
returns-then-not-went c = let a = c.args in
    tests-say a.before a.after a.leaving a.entering a.mask false _ _
    (sym c.went.ensures ∙ c.if-not-went.true) refl refl

-- it left, and a test of who enters
pub returns-then-not-went-2 : goal.returns-then-not-went-2
returns-then-not-went-2 c = let a = c.args in
    tests-say a.before a.after a.leaving a.entering a.mask true false _
    (sym c.went.ensures ∙ c.if-not-went.false) (sym c.went-2.ensures ∙ c.if-not-went-2.true) refl

pub returns-then-mask-after : goal.returns-then-mask-after
returns-then-mask-after c = let a = c.args in
    tests-say a.before a.after a.leaving a.entering a.mask true true false
    (sym c.went.ensures ∙ c.if-not-went.false) (sym c.went-2.ensures ∙ c.if-not-went-2.false)
    (tells-false (tells-eq a.mask a.after) c.if-mask-after.true)

pub returns : goal.returns
returns c = let a = c.args in
    tests-say a.before a.after a.leaving a.entering a.mask true true true
    (sym c.went.ensures ∙ c.if-not-went.false) (sym c.went-2.ensures ∙ c.if-not-went-2.false)
    (tells-true (tells-eq a.mask a.after) c.if-mask-after.false)
