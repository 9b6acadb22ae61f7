-- `reader::flow::is_next_name` meets its contract: the first byte is the letter, and the others are the digits. Assumes
-- nothing.
use Rattle.std.proofs.Common.{ap, sym, ◌∙◌, ◌+◌, ◌∷◌}
use Rattle.rules.specs.Program.Text.{digits}
use Rattle.rules.specs.Exchange.Reader.{same_bytes}
use Rattle.tokens.specs.Gaps.{part}
use Rattle.reader.proofs.Laws.Flow.{name-is, name-not, token-is-out}
use Rattle.reader.proofs.flow.is_next_name.Goals as goal

pub returns-then-text-at : goal.returns-then-text-at
returns-then-text-at c =
    let a = c.args in
    sym (token-is-out a.text.now a.at (a.letter ∷ digits a.number) c.if-text-at.true)

pub returns-then-text-at-2 : goal.returns-then-text-at-2
returns-then-text-at-2 c =
    let a = c.args in
    sym (name-not a.text.now a.at c.if-text-at.false a.letter (digits a.number) c.if-text-at-2.true)

pub returns : goal.returns
unfolding part
returns c =
    let a = c.args in
    c.is_decimal.ensures
    ∙ ap (λ k. same_bytes (digits a.number) (part a.text.now (a.at + 1) k)) c.stop-end.ensures
    ∙ sym (name-is a.text.now a.at c.if-text-at.false a.letter (digits a.number) c.if-text-at-2.false)
