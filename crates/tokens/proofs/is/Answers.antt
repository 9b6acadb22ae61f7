-- `tokens::is` meets its contract: bytes of another number are not those of the word, and as many are looked at in
-- pairs. Assumes nothing.
use Rattle.std.proofs.Common.{◌≡◌, sym, ◌∙◌, arith, rules, tests, eqb, length, take, drop, ◌-◌}
use Rattle.std.proofs.lemmas.Iterator.{YieldsList-from_slice, YieldsList-from_zip}
use Rattle.std.proofs.lemmas.Iterator.Consumers.{YieldsList-at}
use Rattle.std.proofs.lemmas.Iterator.Search.{all_from_yields_List}
use borrow.Author.Tests.{ne_eqb}
use Rattle.tokens.specs.Gaps.{part}
use Rattle.tokens.proofs.Laws.Parts.{part_length, same-each, same-long, same-zip}
use Rattle.tokens.proofs.is.Goals as goal

pub returns-then-word-to : goal.returns-then-word-to
unfolding part
returns-then-word-to c =
    let a = c.args in
    let w = a.word.now in
    let s = take (a.to - a.from) (drop a.from a.text.now) in
    let long : length w ≡ length s = omega (arith, part_length a.text.now a.from a.to (omega arith)) in
    all_from_yields_List (λ p. eqb p.0 p.1) c.all.new.self _ c.all.result c.all.ensures.ran
    (YieldsList-from_zip (YieldsList-at c.zip.ensures.first (YieldsList-from_slice w c.iter.ensures.rest))
    (YieldsList-from_slice s cc))
    (λ x b q k. search (rules, tests))
    ∙ same-zip w s long ∙ same-each w s

pub returns-else-word-to : goal.returns-else-word-to
returns-else-word-to c =
    let a = c.args in
    ne_eqb _ _ c.if-word-to.false
    ∙ sym
    (same-long a.word.now (part a.text.now a.from a.to)
    (λ e. c.if-word-to.false (sym e ∙ part_length a.text.now a.from a.to (omega arith))))
