-- `times::passes::is_quiet` meets its contract: a row betters its head, or none does. Assumes nothing.
use Rattle.std.proofs.Common.{◌≡◌, refl, rules, true, false, arith, tests}
use Rattle.std.proofs.lemmas.Iterator.{cases_from_any, YieldsList-from_range}
use Rattle.times.specs.Steps.{is_less}
use Rattle.times.proofs.Laws.Looks.{quiet-by}
use Rattle.times.proofs.passes.is_quiet.Goals as goal

pub returns : goal.returns
returns c =
    let ws = c.args.rows.now.words.now in
    let best = c.args.best.now in
    quiet-by ws best c.m.result c.m.ensures c.any.result
    (cases_from_any _ _ _ (λ i. is_less ws best i ≡ true) (λ i. is_less ws best i ≡ false) c.any.ensures.ran
    (YieldsList-from_range 0 c.m.result c.m.result refl (omega arith)) (λ x q k. search (rules, tests))
    (λ x q k. search (rules, tests)))
