-- `timecheck::cycle::Cycle::all_new` meets its contract: each row is looked at. Assumes nothing.
use Rattle.std.proofs.Common.{refl, ◌∙◌, rules, tests, arith}
use Rattle.std.proofs.lemmas.Iterator.{YieldsList-from_range}
use Rattle.std.proofs.lemmas.Iterator.Search.{all_from_yields_List}
use Rattle.timecheck.proofs.Laws.Ranges.{all-range}
use Rattle.timecheck.specs.Walk.{new_up_to}
use Rattle.timecheck.proofs.cycle.Cycle.all_new.Goals as goal

pub returns : goal.returns
returns c =
    all_from_yields_List (λ k. new_up_to c.args.self.now.rows.now.words.now c.args.self.now.answer.now k k) _ _
    c.all.result c.all.ensures.ran
    (YieldsList-from_range 0 c.args.self.now.count c.args.self.now.count refl (omega arith))
    (λ x b q k. search (rules, tests))
    ∙ all-range (λ k. new_up_to c.args.self.now.rows.now.words.now c.args.self.now.answer.now k k) c.args.self.now.count
