-- A pivot that is asked for: what it needs of the entries, and what it comes to.
use Rattle.std.specs.Prelude.{ℕ, Bool, List, ℤ}
use Rattle.pivot.specs.declared.asked.Asked.{Asked}
use Rattle.layout.specs.Layout.{entry_in}
use Rattle.pivot.specs.Pivot.{Pivotable, product, mixed_cell, mixed_up_to, fits_after, common_after, entries_after}

module _ (l : List ℤ) (a : Asked) where
  abbrev pub Able : Type 0
  Able = Pivotable a.rows a.columns l a.common a.spot.row.0 a.spot.column.0

  -- the pivot
  abbrev pub pivot_for : ℤ
  pivot_for = entry_in a.rows a.columns l a.spot.row.0 a.spot.column.0

  -- the common number after it, before reduction
  abbrev pub product_for : ℤ
  product_for = product a.rows a.columns l a.common a.spot.row.0 a.spot.column.0

  -- the number of row place i and column place j before reduction, and the first k cells
  abbrev pub cell_for : ℕ → ℕ → ℤ
  cell_for = mixed_cell a.rows a.columns a.common l a.spot.row.0 a.spot.column.0

  abbrev pub cells_for : ℕ → List ℤ
  cells_for = mixed_up_to a.rows a.columns a.common l a.spot.row.0 a.spot.column.0

  -- the numbers after the pivot, and whether they are in range
  abbrev pub common_for : ℤ
  common_for = common_after a.rows a.columns l a.common a.spot.row.0 a.spot.column.0

  abbrev pub entries_for : List ℤ
  entries_for = entries_after a.rows a.columns l a.common a.spot.row.0 a.spot.column.0

  abbrev pub fits_for : Bool
  fits_for = fits_after a.rows a.columns l a.common a.spot.row.0 a.spot.column.0
