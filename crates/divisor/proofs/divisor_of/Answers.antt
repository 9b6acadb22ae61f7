-- `divisor::divisor_of` meets its contract. The invariant: g is the divisor of the number and the cells passed. Once
-- g is 1, so is the divisor of all. Assumes nothing.
use Rattle.std.proofs.Common.{rules, arith, sym, ◌∙◌, ap₂, get_or, pos, FitsSigned, w64, to_z-of_z}
use Rattle.whole.specs.Divisors.{gcd}
use Rattle.divisor.proofs.Laws.Cells.{divisor-none, divisor-more, divisor-one}
use Rattle.divisor.proofs.divisor_of.Goals as goal

pub loop-cell-init : goal.loop-cell-init
loop-cell-init c = c.unsigned_abs-g.ensures.value ∙ sym (divisor-none c.args.cells.now _)

pub returns-then-g-eq1 : goal.returns-then-g-eq1
returns-then-g-eq1 c =
    sym (divisor-one c.args.cells.now c.args.common c.loop-cell.cell-index _ (omega arith)
    (simp (to_z-of_z c.ranges.common) at (sym c.loop-cell.invariant ∙ c.if-g-eq1.true)))

pub loop-cell-preserved : goal.loop-cell-preserved
loop-cell-preserved c =
    let cell : FitsSigned w64 (get_or c.args.cells.now c.loop-cell.cell-index (pos 0)) = search rules in
    c.common_of-g.ensures
    ∙ ap₂ gcd (simp (to_z-of_z cell) at c.unsigned_abs.ensures.value) c.loop-cell.invariant
    ∙ sym (divisor-more c.args.cells.now _ c.loop-cell.cell-index)
