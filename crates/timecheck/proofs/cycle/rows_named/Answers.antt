-- `timecheck::cycle::rows_named` meets its contract: each of the words is looked at. Assumes nothing.
use Rattle.std.proofs.Common.{refl, ◌∙◌, rules, tests, arith}
use Rattle.std.proofs.lemmas.Iterator.{YieldsList-from_range}
use Rattle.std.proofs.lemmas.Iterator.Search.{all_from_yields_List}
use mir.Facts.{to_z-of_z}
use Rattle.timecheck.proofs.Laws.Ranges.{all-range}
use Rattle.timecheck.specs.Walk.{is_between}
use Rattle.timecheck.proofs.cycle.rows_named.Goals as goal

pub returns : goal.returns
returns c =
    all_from_yields_List (is_between c.args.answer.now c.args.most) _ _ c.all.result c.all.ensures.ran
    (YieldsList-from_range 0 c.args.count c.args.count refl (omega arith)) (λ x b q k. search (rules, tests, to_z-of_z))
    ∙ all-range (is_between c.args.answer.now c.args.most) c.args.count
