-- `timecheck::cycle::Cycle::all_linked` meets its contract: each of the first rows is looked at. Assumes nothing.
use Rattle.std.proofs.Common.{refl, ◌∙◌, rules, tests, arith}
use Rattle.std.proofs.lemmas.Iterator.{YieldsList-from_range}
use Rattle.std.proofs.lemmas.Iterator.Search.{all_from_yields_List}
use Rattle.timecheck.proofs.Laws.Ranges.{all-range}
use Rattle.std.proofs.Common.{suc}
use Rattle.timecheck.specs.Walk.{linked_at}
use Rattle.timecheck.proofs.cycle.Cycle.all_linked.Goals as goal

pub returns : goal.returns
returns c =
    all_from_yields_List (λ k. linked_at c.args.self.now.rows.now.words.now c.args.self.now.answer.now k (suc k)) _ _
    c.all.result c.all.ensures.ran
    (YieldsList-from_range 0 c.args.last c.args.last refl (omega arith)) (λ x b q k. search (rules, tests))
    ∙ all-range (λ k. linked_at c.args.self.now.rows.now.words.now c.args.self.now.answer.now k (suc k)) c.args.last
