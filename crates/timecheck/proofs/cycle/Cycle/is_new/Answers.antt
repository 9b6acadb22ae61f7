-- `timecheck::cycle::Cycle::is_new` meets its contract: each row before is looked at. Assumes nothing.
use Rattle.std.proofs.Common.{refl, ◌∙◌, ap, not, eqb, rules, tests, arith}
use Rattle.std.proofs.lemmas.Iterator.{YieldsList-from_range}
use Rattle.std.proofs.lemmas.Iterator.Search.{all_from_yields_List}
use Rattle.whole.specs.Below.{all_below}
use Rattle.timecheck.specs.Walk.{new_up_to, tail_named}
use Rattle.timecheck.proofs.Laws.Ranges.{all-range}
use Rattle.timecheck.proofs.cycle.Cycle.is_new.Goals as goal

pub returns : goal.returns
unfolding new_up_to
returns c =
    let ws = c.args.self.now.rows.now.words.now in
    let a = c.args.self.now.answer.now in
    let k = c.args.k in
    all_from_yields_List (λ j. not (eqb (tail_named ws a j) c.tail-here.result)) _ _ c.all.result c.all.ensures.ran
    (YieldsList-from_range 0 k k refl (omega arith)) (λ x b q k. search (rules, tests))
    ∙ all-range (λ j. not (eqb (tail_named ws a j) c.tail-here.result)) k
    ∙ ap (λ t. all_below k (λ j. not (eqb (tail_named ws a j) t))) c.tail-here.ensures
