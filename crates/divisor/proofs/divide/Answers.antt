-- `divisor::divide` meets its contract. The invariant: the cells passed are quotients, the others as they were.
-- Assumes nothing.
use Rattle.std.proofs.Common.{rules, arith, refl, ap, ap₂, ◌∙◌, ◌≡◌, ◌<◌, ℕ, ◌+◌, ℤ, pos, FitsSigned, w64, to_z-of_z}
use Rattle.std.proofs.Common.{List, ◌++◌, get_or, drop, set, length}
use lib.Signed.{quot_z}
use Rattle.whole.specs.Numbers.{AllWithin}
use Rattle.whole.specs.Tables.{table, table_from}
use Rattle.whole.proofs.Numbers.Division.{within-quot, bits-nonzero}
use Rattle.whole.proofs.Lists.Prefix.{set-table, table-next}
use Rattle.divisor.specs.Cells.{largest_size, quotients}
use Rattle.divisor.proofs.Laws.Cells.{fits-size}
use Rattle.divisor.proofs.divide.Goals as goal

pub loop-cell-init : goal.loop-cell-init
unfolding table_from
loop-cell-init c = refl

module _ (l old : List ℤ) (by : ℤ) (k : ℕ) (passed : l ≡ table k (quotients old by) ++ drop k old) where
  -- the cell is as it was
  cell_is : get_or l k (pos 0) ≡ get_or old k (pos 0)
  cell_is = ap (λ (m : List ℤ). get_or m k (pos 0)) passed ∙ table-next _ (pos 0) old k

  fit-quotient : AllWithin old largest_size → FitsSigned w64 (quot_z (get_or l k (pos 0)) by)
  fit-quotient h = rw cell_is (fits-size (within-quot by (h.each k)))

  one_more : k < length old →
      set l k (quot_z (get_or l k (pos 0)) by) ≡ table (k + 1) (quotients old by) ++ drop (k + 1) old
  one_more h = ap₂ (λ (m : List ℤ) (z : ℤ). set m k z) passed (ap (λ z. quot_z z by) cell_is)
      ∙ set-table (quotients old by) (pos 0) old k h

pub nonzero_div-cell : goal.nonzero_div-cell
nonzero_div-cell c =
    let passed = simp (to_z-of_z c.ranges.by) at c.loop-cell.invariant in
    let cell : FitsSigned w64 (get_or c.loop-cell.cell-items c.loop-cell.cell-index (pos 0)) = search rules in (
      bits-nonzero w64 c.args.by c.ranges.by c.requires.divides.nonzero,
      simp (to_z-of_z cell, to_z-of_z c.ranges.by) (fit-quotient _ _ c.args.by _ passed c.requires.all_within),
    )

pub loop-cell-preserved : goal.loop-cell-preserved
loop-cell-preserved c =
    let passed = simp (to_z-of_z c.ranges.by) at c.loop-cell.invariant in
    let cell : FitsSigned w64 (get_or c.loop-cell.cell-items c.loop-cell.cell-index (pos 0)) = search rules in
    let quotient = fit-quotient _ _ c.args.by _ passed c.requires.all_within in
    simp (to_z-of_z cell, to_z-of_z c.ranges.by, to_z-of_z quotient) (one_more _ _ c.args.by _ passed (omega arith))
