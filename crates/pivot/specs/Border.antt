-- What a pivot reads beside the entries. With D added to the entering column where it crosses the leaving row, and
-- taken off the leaving row there, every cell is p a - b c, whatever its kind: four kinds become one.
use Rattle.std.specs.Prelude.{ℕ, ◌≤◌, ◌<◌, Bool, true, false, List, eqb, ℤ, pos, neg_ℤ, nat_abs, ◌+ℤ◌, ◌-ℤ◌, ◌*ℤ◌}
use Rattle.std.specs.Prelude.{get_or}
use Rattle.whole.specs.Divisors.{gcd}
use Rattle.whole.specs.Numbers.{Within, AllWithin}
use Rattle.whole.specs.Tables.{filled}
use Rattle.divisor.specs.Cells.{divisor_below}
use Rattle.rules.specs.Sizes.{most_columns, most_rows, largest_number}
use Rattle.pivot.specs.declared.asked.Asked.{Asked}
use Rattle.pivot.specs.declared.border.Border.{Border}
use Rattle.layout.specs.declared.Strip.{Strip}
use Rattle.layout.specs.Layout.{most_entries, row_at, column_at, live, along, row_strip, column_strip, entry_in}

abbrev pub raised_by : Bool → ℤ → ℤ → ℤ
raised_by true a extra = a +ℤ extra
raised_by false a extra = a

-- number i of a strip of cells, with an extra at one place
unfoldable pub raised_at : List ℤ → Strip → ℕ → ℤ → ℕ → ℤ
raised_at l w at extra i = raised_by (eqb i at) (get_or l (along w i) (pos 0)) extra

abbrev pub raised_strip : List ℤ → Strip → ℕ → ℤ → List ℤ
raised_strip l w at extra = filled most_rows (pos 0) w.count (raised_at l w at extra)

-- a strip that lies in the array, whose number at the place of the extra bears it
pub record Bears (l : List ℤ) (w : Strip) (at : ℕ) (extra : ℤ) : Type 0 where
  pub few : w.count ≤ most_rows
  pub in_array : (i : ℕ) → i < w.count → along w i < most_entries
  pub bears : at < w.count → Within (get_or l (along w at) (pos 0) +ℤ extra) largest_number

-- the border of the pivot of row place p and column place q, for m rows and n columns
abbrev pub border_at : ℕ → ℕ → List ℤ → ℤ → ℕ → ℕ → Border
border_at m n l common p q = record {
  rows = m;
  columns = n;
  pivot = entry_in m n l p q;
  besides = raised_strip l (column_strip m n q) p common;
  aboves = raised_strip l (row_strip m n p) q (neg_ℤ common);
}

abbrev pub border_for : List ℤ → Asked → Border
border_for l a = border_at a.rows a.columns l a.common a.spot.row.0 a.spot.column.0

-- every number of a border is within the largest one, and its sizes are those of a tableau
pub record Bordered (b : Border) : Type 0 where
  pub few-rows : b.rows ≤ most_rows
  pub few-columns : b.columns ≤ most_columns
  pub pivot-within : Within b.pivot largest_number
  pub besides-within : AllWithin b.besides largest_number
  pub aboves-within : AllWithin b.aboves largest_number

-- the greatest common divisor of the pivot, the common number and the border
abbrev pub border_divisor : Border → ℤ → ℕ
border_divisor b common = divisor_below b.rows b.besides
    (pos (divisor_below b.columns b.aboves (pos (gcd (nat_abs b.pivot) (nat_abs common)))))

-- one cell before reduction
abbrev pub difference_of : ℤ → ℤ → ℤ → ℤ → ℤ
difference_of a b c d = a *ℤ b -ℤ c *ℤ d

-- .. at flat place k, and how many cells are in use
abbrev pub difference_at : List ℤ → Border → ℕ → ℤ
difference_at l b k = difference_of b.pivot (get_or l k (pos 0))
    (get_or b.besides (row_at b.rows b.columns k) (pos 0))
    (get_or b.aboves (column_at b.rows b.columns k) (pos 0))

abbrev pub in_border : Border → ℕ
in_border b = live b.rows b.columns
