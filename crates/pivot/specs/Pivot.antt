-- A pivot by place: the entries before reduction, their divisor, and the entries in lowest common form.
use Rattle.std.specs.Prelude.{ℕ, ◌≤◌, ◌<◌, Bool, true, false, ◌&&◌, List, ◌++◌, ◌≡◌, ◌≢◌, T, eqb, drop}
use Rattle.std.specs.Prelude.{get_or, length, ℤ, pos, neg_ℤ, ◌*ℤ◌, ◌-ℤ◌, Option, Some, None}
use Rattle.std.specs.Int.Signed.{quot_z}
use Rattle.whole.specs.Below.{all_below}
use Rattle.whole.specs.Numbers.{Within, AllWithin, within}
use Rattle.whole.specs.Tables.{filled, table}
use Rattle.divisor.specs.Cells.{divisor_below, quotients}
use Rattle.divisor.specs.Signs.{signed_by}
use Rattle.rules.specs.Sizes.{most_columns, most_rows, largest_number}
use Rattle.layout.specs.Layout.{Order, in_use, most_entries, row_laid, column_laid, row_at, column_at, live}
use Rattle.layout.specs.Layout.{entry_laid, entry_in}

-- ---- one entry before reduction: `own` is the entry, `beside` stands in its row and the entering column, `above` in
-- its column and the leaving row

-- by whether it is in the leaving row and in the entering column
abbrev pub mixed_of : Bool → Bool → ℤ → ℤ → ℤ → ℤ → ℤ → ℤ
mixed_of true true common pivot own beside above = common *ℤ common
mixed_of true false common pivot own beside above = neg_ℤ (common *ℤ above)
mixed_of false true common pivot own beside above = beside *ℤ common
mixed_of false false common pivot own beside above = pivot *ℤ own -ℤ beside *ℤ above

pub record Mixable (common pivot own beside above : ℤ) : Type 0 where
  pub common-within : Within common largest_number
  pub pivot-within : Within pivot largest_number
  pub own-within : Within own largest_number
  pub beside-within : Within beside largest_number
  pub above_within : Within above largest_number

-- the number of row place i and column place j after the pivot of row place p and column place q
unfoldable pub mixed_laid : Order → ℕ → ℕ → ℤ → List ℤ → ℕ → ℕ → ℕ → ℕ → ℤ
mixed_laid o m n common l p q i j = mixed_of (eqb i p) (eqb j q) common
    (entry_laid o m n l p q) (entry_laid o m n l i j) (entry_laid o m n l i q) (entry_laid o m n l p j)

-- .. at every flat place, the cells that are not in use 0
abbrev pub mix_laid : Order → ℕ → ℕ → ℤ → List ℤ → ℕ → ℕ → List ℤ
mix_laid o m n common l p q =
    filled most_entries (pos 0) (live m n) (λ k. mixed_laid o m n common l p q (row_laid o m n k) (column_laid o m n k))

-- .. in the order in use
abbrev pub mixed_cell : ℕ → ℕ → ℤ → List ℤ → ℕ → ℕ → ℕ → ℕ → ℤ
mixed_cell = mixed_laid in_use

abbrev pub mixed_at : ℕ → ℕ → ℤ → List ℤ → ℕ → ℕ → ℕ → ℤ
mixed_at m n common l p q k = mixed_cell m n common l p q (row_at m n k) (column_at m n k)

-- .. the first k cells alone; the others are 0
abbrev pub mixed_up_to : ℕ → ℕ → ℤ → List ℤ → ℕ → ℕ → ℕ → List ℤ
mixed_up_to m n common l p q k = filled most_entries (pos 0) k (mixed_at m n common l p q)

-- ---- the range test

abbrev pub in_range : ℤ → Bool
in_range z = within largest_number z

-- the first k cells are within the largest number
abbrev pub all_small : ℕ → List ℤ → Bool
all_small k l = all_below k (λ i. in_range (get_or l i (pos 0)))

-- .. and the common number too
unfoldable pub small_below : ℕ → List ℤ → ℤ → Bool
small_below k l common = in_range common && all_small k l

-- ---- the whole pivot, of m rows and n columns with these entries and this common number

module _ (o : Order) (m n : ℕ) (l : List ℤ) (common : ℤ) (p q : ℕ) where
  -- the common number before reduction, and what it and the entries are divided by: a divisor with its sign
  abbrev pub product_laid : ℤ
  product_laid = entry_laid o m n l p q *ℤ common

  abbrev pub by_laid : ℤ
  by_laid = signed_by product_laid (divisor_below (live m n) (mix_laid o m n common l p q) product_laid)

  -- .. and the numbers after it
  abbrev pub common_laid : ℤ
  common_laid = quot_z product_laid by_laid

  abbrev pub entries_laid : List ℤ
  entries_laid = filled most_entries (pos 0) (live m n) (quotients (mix_laid o m n common l p q) by_laid)

  -- whether they are in range
  abbrev pub fits_laid : Bool
  fits_laid = small_below (live m n) entries_laid common_laid

-- .. in the order in use
module _ (m n : ℕ) (l : List ℤ) (common : ℤ) (p q : ℕ) where
  abbrev pub product : ℤ
  product = product_laid in_use m n l common p q

  abbrev pub mix : List ℤ
  mix = mix_laid in_use m n common l p q

  abbrev pub by : ℤ
  by = by_laid in_use m n l common p q

  abbrev pub common_after : ℤ
  common_after = common_laid in_use m n l common p q

  abbrev pub entries_after : List ℤ
  entries_after = entries_laid in_use m n l common p q

  abbrev pub fits_after : Bool
  fits_after = fits_laid in_use m n l common p q

-- what the code answers: the new common number, and none where a number is beyond the range
abbrev pub pivoted_by : Bool → ℤ → Option ℤ
pivoted_by true c = Some c
pivoted_by false c = None

-- an array that has the first k cells of another
pub record StartsWith (k : ℕ) (cells next : List ℤ) : Type 0 where
  pub long : length next ≡ most_entries
  pub same : (i : ℕ) → i < k → get_or next i (pos 0) ≡ get_or cells i (pos 0)

-- the cells in use are put into an array where they are in range, and else nothing is said of it
abbrev pub PutBy : Bool → ℕ → List ℤ → List ℤ → Type 0
PutBy true k cells next = StartsWith k cells next
PutBy false k cells next = T true

-- .. and are kept: the first k cells of one array, and then those of another
abbrev pub kept_cells : ℕ → List ℤ → List ℤ → List ℤ
kept_cells k next old = table k (λ i. get_or next i (pos 0)) ++ drop k old

-- a row place and a column place with an entry other than 0
pub record Pivotable (m n : ℕ) (l : List ℤ) (common : ℤ) (p q : ℕ) : Type 0 where
  pub few-rows : m ≤ most_rows
  pub few-columns : n ≤ most_columns
  pub in_rows : p < m
  pub in-columns : q < n
  pub common-within : Within common largest_number
  pub all-within : AllWithin l largest_number
  pub common-nonzero : common ≢ pos 0
  pub pivot-nonzero : entry_in m n l p q ≢ pos 0
