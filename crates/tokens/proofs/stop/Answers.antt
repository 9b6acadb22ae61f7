-- `tokens::stop` meets its contract. A parenthesis stops behind itself. The loop's invariant: from the next byte on the
-- run ends where the token does. Assumes nothing.
use Rattle.std.proofs.Common.{sym, ◌∙◌, ◌+◌, ap, arith, length, length-drop}
use Rattle.tokens.specs.Gaps.{run_length}
use Rattle.tokens.proofs.Laws.Gaps.{run-over, run_in, run_out, stop-run, stop-single}
use Rattle.tokens.proofs.Laws.Parts.{rest-all}
use Rattle.tokens.proofs.stop.Goals as goal

pub returns-then-is_parenthesis : goal.returns-then-is_parenthesis
returns-then-is_parenthesis c =
    sym
    (stop-single c.args.text.now c.args.at c.requires
    (sym c.is_parenthesis.ensures ∙ c.if-is_parenthesis.true))

pub loop-i-init : goal.loop-i-init
loop-i-init c = omega (arith, ap run_length (rest-all c.args.text.now (c.args.at + 1)))

pub returns-then-not-is_plain : goal.returns-then-not-is_plain
returns-then-not-is_plain c =
    ap (λ k. c.args.at + 1 + k)
    (sym
    (c.loop-i.invariant
    ∙ run_out _ c.loop-i.i c.loop-i-test.true (sym c.is_plain.ensures ∙ c.if-not-is_plain.true)))
    ∙ sym
    (stop-run c.args.text.now c.args.at c.requires (sym c.is_parenthesis.ensures ∙ c.if-is_parenthesis.false))

pub loop-i-preserved : goal.loop-i-preserved
loop-i-preserved c =
    c.loop-i.invariant
    ∙ run_in _ c.loop-i.i c.loop-i-test.true (sym c.is_plain.ensures ∙ c.if-not-is_plain.false)

pub returns : goal.returns
returns c =
    let rest = c.loop-i.invariant ∙ run-over _ c.loop-i.i c.loop-i-test.false in
    let t = c.args.text.now in
    omega (
      arith,
      rest,
      ap length (rest-all t (c.args.at + 1)),
      length-drop (c.args.at + 1) t,
      stop-run t c.args.at c.requires (sym c.is_parenthesis.ensures ∙ c.if-is_parenthesis.false),
    )
