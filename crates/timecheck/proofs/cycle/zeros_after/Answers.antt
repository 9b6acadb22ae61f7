-- `timecheck::cycle::zeros_after` meets its contract: each of the words is looked at. Assumes nothing.
use Rattle.std.proofs.Common.{refl, ◌∙◌, rules, tests, arith}
use Rattle.std.proofs.lemmas.Iterator.{YieldsList-from_range}
use Rattle.std.proofs.lemmas.Iterator.Search.{all_from_yields_List}
use mir.Facts.{to_z-of_z}
use Rattle.timecheck.proofs.Laws.Ranges.{all-range}
use Rattle.std.proofs.Common.{ltb, ◌||◌, ◌+◌, pos}
use Rattle.whole.specs.Numbers.{eq_z}
use Rattle.rules.specs.Problem.{word}
use Rattle.timecheck.proofs.cycle.zeros_after.Goals as goal

pub returns : goal.returns
returns c =
    all_from_yields_List (λ k. ltb k c.args.count || eq_z (word c.args.answer.now (2 + k)) (pos 0)) _ _
    c.all.result c.all.ensures.ran
    (YieldsList-from_range 0 c.args.room c.args.room refl (omega arith)) (λ x b q k. search (rules, tests, to_z-of_z))
    ∙ all-range (λ k. ltb k c.args.count || eq_z (word c.args.answer.now (2 + k)) (pos 0)) c.args.room
