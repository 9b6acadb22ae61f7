-- `reader::limits::relation` meets its contract: four relations, one after the other. Assumes nothing.
use Rattle.std.specs.Prelude.{Ok}
use mathlib.Core.Bool.{true}
use mathlib.Core.Path.{sym, ◌∙◌, ap, subst}
use Rattle.rules.specs.Program.Text.{ascii}
use Rattle.rules.specs.Exchange.Script.{less, more, no_less, no_more}
use Rattle.reader.specs.Limits.{RelationGoes, related_by}
use Rattle.reader.proofs.Laws.Terms.{less-goes, more-goes, no-less-goes, no-more-goes}
use Rattle.reader.proofs.limits.relation.Goals as goal

pub returns-then-is_next : goal.returns-then-is_next
unfolding no_less ascii
returns-then-is_next c =
    let a = c.args in
    subst (RelationGoes a.text.now (Ok a.at) a.count a.most) (sym c.relate.ensures)
    (no-less-goes a.text.now (Ok a.at) c.requires.0 a.count a.most c.requires.1
    (sym c.is_next.ensures ∙ c.if-is_next.true))

pub returns-then-is_next-2 : goal.returns-then-is_next-2
unfolding no_less more ascii
returns-then-is_next-2 c =
    let a = c.args in
    subst (RelationGoes a.text.now (Ok a.at) a.count a.most) (sym c.relate-then-is_next-2.ensures)
    (more-goes a.text.now (Ok a.at) c.requires.0 a.count a.most c.requires.1
    (sym c.is_next.ensures ∙ c.if-is_next.false)
    (sym c.is_next-2.ensures ∙ c.if-is_next-2.true))

pub returns-then-is_next-3 : goal.returns-then-is_next-3
unfolding no_less more no_more ascii
returns-then-is_next-3 c =
    let a = c.args in
    subst (RelationGoes a.text.now (Ok a.at) a.count a.most) (sym c.relate-then-is_next-3.ensures)
    (no-more-goes a.text.now (Ok a.at) c.requires.0 a.count a.most c.requires.1
    (sym c.is_next.ensures ∙ c.if-is_next.false)
    (sym c.is_next-2.ensures ∙ c.if-is_next-2.false)
    (sym c.is_next-3.ensures ∙ c.if-is_next-3.true))

pub returns : goal.returns
unfolding no_less more no_more less ascii
returns c =
    let a = c.args in
    subst (RelationGoes a.text.now (Ok a.at) a.count a.most)
    (ap (λ b. related_by a.text.now (Ok a.at) b true true) (sym c.is_next-less.ensures) ∙ sym c.relate-2.ensures)
    (less-goes a.text.now (Ok a.at) c.requires.0 a.count a.most c.requires.1
    (sym c.is_next.ensures ∙ c.if-is_next.false)
    (sym c.is_next-2.ensures ∙ c.if-is_next-2.false)
    (sym c.is_next-3.ensures ∙ c.if-is_next-3.false))
