-- `search::next_step` meets its contract: by the one that leaves and the one that enters. Assumes nothing.
use Rattle.search.specs.Search.{seen}
use Rattle.search.proofs.Laws.Turns.{row-of-leaving, next-pivot, next-stuck, next-within}
use Rattle.search.proofs.next_step.Goals as goal

pub returns-in_default : goal.returns-in_default
returns-in_default c = next-within (seen c.args.entries.now c.args.view c.args.limits) c.in_default.ensures

pub entering-requires-clause-in_rows : goal.entering-requires-clause-in_rows
entering-requires-clause-in_rows c =
    row-of-leaving (seen c.args.entries.now c.args.view c.args.limits) c.requires c.in-Some.ensures

pub returns-in-Some-entering : goal.returns-in-Some-entering
returns-in-Some-entering c =
    next-pivot (seen c.args.entries.now c.args.view c.args.limits) c.in-Some.ensures c.in-Some-entering.ensures

pub returns-in-None : goal.returns-in-None
returns-in-None c =
    next-stuck (seen c.args.entries.now c.args.view c.args.limits) c.in-Some.ensures c.in-None.ensures
