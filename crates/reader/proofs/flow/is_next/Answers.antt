-- `reader::flow::is_next` meets its contract: there is no token at the end. Assumes nothing.
use Rattle.std.proofs.Common.{sym, ◌∙◌, take, drop, ◌-◌}
use Rattle.tokens.specs.Gaps.{part}
use Rattle.tokens.proofs.Laws.Parts.{same-each}
use Rattle.reader.proofs.Laws.Flow.{token-is-out, token-is-word}
use Rattle.reader.proofs.flow.is_next.Goals as goal

pub returns-then-text-at : goal.returns-then-text-at
returns-then-text-at c = sym (token-is-out c.args.text.now c.args.at c.args.word.now c.if-text-at.true)

pub returns : goal.returns
unfolding part
returns c =
    let a = c.args in
    let w = take (c.stop-end.result - a.at) (drop a.at a.text.now) in
    c.is.ensures ∙ sym (same-each a.word.now w)
    ∙ token-is-word c.args.text.now c.args.at c.args.word.now c.if-text-at.false c.stop-end.ensures
