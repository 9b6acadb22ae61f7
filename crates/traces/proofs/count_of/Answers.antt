-- `traces::count_of` meets its contract: with as many pivots to spend as there are numbers, the run comes to its end.
-- Assumes nothing.
use borrow.Author.Rules.{rules}
use mathlib.Core.Path.{ap, ◌∙◌}
use native.Mathlib.Omega.{arith}
use Rattle.solver.specs.declared.spend.Spent.{Spent}
use Rattle.solver.proofs.Laws.Stands.Slices.{few-variables}
use Rattle.traces.proofs.Laws.Counts.{counts_all}
use Rattle.traces.proofs.count_of.Goals as goal

pub slice_bounds-spend-end : goal.slice_bounds-spend-end
slice_bounds-spend-end c = search rules

pub spend-whole-requires : goal.spend-whole-requires
spend-whole-requires c = let S = c.requires in let h = few-variables S.holds in record
    { standing = S; columns_in_bounds = omega (arith, h) }

pub returns : goal.returns
returns c = λ P H. ap (λ (r : Spent). r.count) c.spend-whole.ensures.state
    ∙ counts_all P c.args.first H _ (omega arith)
