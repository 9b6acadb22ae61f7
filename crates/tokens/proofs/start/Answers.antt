-- `tokens::start` meets its contract. The loop's invariant: from the next byte on, in a comment or not, the gap ends
-- where that from `at` on does. Assumes nothing.
use Rattle.std.proofs.Common.{sym, ◌∙◌, ◌+◌, ap, arith, length, length-drop, false}
use Rattle.tokens.specs.Gaps.{gap_length, start_at}
use Rattle.tokens.proofs.Laws.Gaps.{gap-end, gap-in, gap-out}
use Rattle.tokens.proofs.Laws.Parts.{rest-all}
use Rattle.tokens.proofs.start.Goals as goal

pub loop-i-init : goal.loop-i-init
loop-i-init c = omega (arith, ap (gap_length false) (rest-all c.args.text.now c.args.at))

pub returns-then-not-is_between : goal.returns-then-not-is_between
unfolding start_at
returns-then-not-is_between c =
    ap (λ k. c.args.at + k)
    (sym
    (c.loop-i.invariant
    ∙ gap-out _ c.loop-i.i c.loop-i.noted c.loop-i-test.true
    (sym c.is_between.ensures ∙ c.if-not-is_between.true)))

pub loop-i-preserved : goal.loop-i-preserved
loop-i-preserved c =
    let h = c.loop-i.invariant
    ∙ gap-in _ c.loop-i.i c.loop-i.noted c.loop-i-test.true
    (sym c.is_between.ensures ∙ c.if-not-is_between.false) in
    rw c.is_noted-noted.ensures h

pub returns : goal.returns
unfolding start_at
returns c =
    let rest = c.loop-i.invariant ∙ gap-end _ c.loop-i.i c.loop-i.noted c.loop-i-test.false in
    omega (arith, rest, ap length (rest-all c.args.text.now c.args.at), length-drop c.args.at c.args.text.now)
