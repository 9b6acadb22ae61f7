-- Where the entry of a row place and a column place lies in the flat array, and back, for m rows and n columns:
-- row after row or column after column, with nothing between. The code's entries lie by columns. Beside this file only
-- src/lib.rt says so, and proofs/Laws/Layout.antt uses it.
use Rattle.std.specs.Prelude.{ℕ, ◌+◌, ◌*◌, ◌/◌, ◌%◌, ◌≤◌, ◌<◌, List, ℤ, pos, get_or}
use Rattle.rules.specs.Sizes.{most_columns, most_rows}
use Rattle.rules.specs.Sizes.{most_cells}
use Rattle.layout.specs.declared.RowPlace.{RowPlace}
use Rattle.layout.specs.declared.ColumnPlace.{ColumnPlace}
use Rattle.layout.specs.declared.Spot.{Spot}
use Rattle.layout.specs.declared.Strip.{Strip}

-- how many cells the array has
abbrev pub most_entries : ℕ
most_entries = most_cells

-- the two orders, and the one in use
pub data Order : Type 0 where
  by_rows : Order
  by_columns : Order

abbrev pub in_use : Order
in_use = by_columns

-- ---- places in an order. Here and elsewhere a name that ends in Laid is for entries that lie in the order it is told

unfoldable pub flat_laid : Order → ℕ → ℕ → ℕ → ℕ → ℕ
flat_laid by_rows m n i j = i * n + j
flat_laid by_columns m n i j = j * m + i

unfoldable pub row_laid : Order → ℕ → ℕ → ℕ → ℕ
row_laid by_rows m n k = k / n
row_laid by_columns m n k = k % m

unfoldable pub column_laid : Order → ℕ → ℕ → ℕ → ℕ
column_laid by_rows m n k = k % n
column_laid by_columns m n k = k / m

-- the cells in use lie in lines, whole rows or whole columns, and every line has as many steps as the others
unfoldable pub lines_laid : Order → ℕ → ℕ → ℕ
lines_laid by_rows m n = m
lines_laid by_columns m n = n

unfoldable pub steps_laid : Order → ℕ → ℕ → ℕ
steps_laid by_rows m n = n
steps_laid by_columns m n = m

-- the cells of a row and of a column: where the first lies, how far the next is from it, how many there are
unfoldable pub row_strip_laid : Order → ℕ → ℕ → ℕ → Strip
row_strip_laid by_rows m n i = record { start = i * n; stride = 1; count = n }
row_strip_laid by_columns m n i = record { start = i; stride = m; count = n }

unfoldable pub column_strip_laid : Order → ℕ → ℕ → ℕ → Strip
column_strip_laid by_rows m n j = record { start = j; stride = n; count = m }
column_strip_laid by_columns m n j = record { start = j * m; stride = 1; count = m }

-- the cells from here on are not in use, in either order
unfoldable pub live : ℕ → ℕ → ℕ
live m n = m * n

-- ---- .. and in the order in use

abbrev pub flat : ℕ → ℕ → ℕ → ℕ → ℕ
flat = flat_laid in_use

abbrev pub row_at : ℕ → ℕ → ℕ → ℕ
row_at = row_laid in_use

abbrev pub column_at : ℕ → ℕ → ℕ → ℕ
column_at = column_laid in_use

abbrev pub lines : ℕ → ℕ → ℕ
lines = lines_laid in_use

abbrev pub steps : ℕ → ℕ → ℕ
steps = steps_laid in_use

abbrev pub row_strip : ℕ → ℕ → ℕ → Strip
row_strip = row_strip_laid in_use

abbrev pub column_strip : ℕ → ℕ → ℕ → Strip
column_strip = column_strip_laid in_use

-- the flat place at which a line begins
abbrev pub line_at : ℕ → ℕ → ℕ → ℕ
line_at m n line = line * steps m n

-- a step of a line, where rows and columns are as few as the array has room for
pub record OnLine (m n line step : ℕ) : Type 0 where
  pub few-rows : m ≤ most_rows
  pub few-columns : n ≤ most_columns
  pub in_lines : line < lines m n
  pub in-steps : step < steps m n

-- the flat place of cell i of a strip
abbrev pub along : Strip → ℕ → ℕ
along w i = w.start + i * w.stride

-- ---- the two kinds of place, a spot, and an entry

abbrev pub row_place : ℕ → RowPlace
row_place i = record { 0 = i }

abbrev pub column_place : ℕ → ColumnPlace
column_place j = record { 0 = j }

-- the places of flat place k, for m rows and n columns
abbrev pub spot_at : ℕ → ℕ → ℕ → Spot
spot_at m n k = record { row = row_place (row_at m n k); column = column_place (column_at m n k) }

-- the number at a row place and a column place of an array of entries, and in the order in use
abbrev pub entry_laid : Order → ℕ → ℕ → List ℤ → ℕ → ℕ → ℤ
entry_laid o m n l i j = get_or l (flat_laid o m n i j) (pos 0)

abbrev pub entry_in : ℕ → ℕ → List ℤ → ℕ → ℕ → ℤ
entry_in = entry_laid in_use
