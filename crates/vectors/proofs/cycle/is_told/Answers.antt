-- `vectors::cycle::is_told` meets its contract: only what has two words is told. Assumes nothing.
use borrow.Author.Rules.{rules}
use mathlib.Core.Path.{sym, ◌∙◌}
use lib.IntN.{pos}
use mir.Facts.{sfits_lit}
use mir.Syntax.{w64}
use mir.Val.{SFits}
use Rattle.whole.proofs.Tells.{bits-eq}
use Rattle.rules.specs.Problem.{word}
use Rattle.vectors.proofs.Listing.{told-refused, told-short, told-first}
use Rattle.vectors.proofs.cycle.is_told.Goals as goal

pub returns-then-number-ne0-clause-answer : goal.returns-then-number-ne0-clause-answer
returns-then-number-ne0-clause-answer c = sym (told-refused _ _ c.if-number-ne0.true)

pub returns-then-out-lt2-clause-answer : goal.returns-then-out-lt2-clause-answer
returns-then-out-lt2-clause-answer c = sym (told-short _ _ c.if-number-ne0.false c.if-out-lt2.true)

pub returns-clause-answer : goal.returns-clause-answer
returns-clause-answer c =
    let first : SFits w64 (word c.args.out.now 0) = search rules in
    bits-eq w64 {a = word c.args.out.now 0} {b = pos 2} first (sfits_lit tt)
    ∙ sym (told-first _ _ c.if-number-ne0.false c.if-out-lt2.false)
