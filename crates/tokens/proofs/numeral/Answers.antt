-- `tokens::numeral` meets its contract: it is the definition, with the value and the test of its two calls. Assumes
-- nothing.
use Rattle.std.proofs.Common.{sym, ◌∙◌}
use Rattle.tokens.proofs.Laws.Numerals.{short-long, short-read}
use Rattle.tokens.proofs.numeral.Goals as goal

pub returns-then-token-gt5 : goal.returns-then-token-gt5
returns-then-token-gt5 c = sym (short-long c.args.token.now c.if-token-gt5.true)

pub returns : goal.returns
returns c =
    let w = c.args.token.now in
    c.then_some.ensures
    ∙ short-read w c.if-token-gt5.false c.value_of-value.result c.value_of-value.ensures c.is_decimal.ensures
