-- `pivot::range::halves_in_range` meets its contract. The invariant: the cells passed are tested. Assumes nothing.
use Rattle.std.proofs.Common.{rules, refl, sym, ◌∙◌, ap₂, ◌&&◌, Bool, get_or, pos, FitsSigned, w32}
use Rattle.whole.specs.Below.{all_below}
use Rattle.pivot.proofs.Laws.Ranges.{small-more, range-half}
use Rattle.pivot.proofs.range.halves_in_range.Goals as goal

pub loop-cell-init : goal.loop-cell-init
unfolding all_below
loop-cell-init c = refl

pub loop-cell-preserved : goal.loop-cell-preserved
loop-cell-preserved c =
    let cell : FitsSigned w32 (get_or c.args.cells.now c.loop-cell.cell-index (pos 0)) = search rules in
    ap₂ (λ (a b : Bool). a && b) c.loop-cell.invariant (range-half _ cell)
    ∙ sym (small-more c.loop-cell.cell-index c.args.cells.now)
