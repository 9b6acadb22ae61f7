-- A divisor that is tried: quotients that are multiplied back, one column, all columns.
use Rattle.std.specs.Prelude.{ℕ, ◌+◌, ◌*◌, ◌≤◌, ◌<◌, ◌≡◌, Bool, true, false, List, ◌⊎◌, T, ltb, ℤ, pos, nat_abs, ◌*ℤ◌}
use Rattle.std.specs.Prelude.{length, get_or, Result, Ok, Err}
use Rattle.std.specs.Int.{◌∣◌}
use Rattle.whole.specs.Below.{fold_below, some_below}
use Rattle.whole.specs.Divisors.{gcd}
use Rattle.whole.specs.Numbers.{Within, AllWithin}
use Rattle.divisor.specs.Signs.{signed_by}
use Rattle.rules.specs.Sizes.{most_rows, largest_number}
use Rattle.pivot.specs.declared.asked.Asked.{Asked}
use Rattle.pivot.specs.declared.border.Border.{Border}
use Rattle.pivot.specs.declared.column.Column.{Column}
use Rattle.pivot.specs.declared.settle.Settled.{Settled}
use Rattle.pivot.specs.declared.settle.Settled.TheVariants as ends
use Rattle.pivot.specs.Asked.{entries_for, fits_for}
use Rattle.layout.specs.Layout.{most_entries, line_at, live}
use Rattle.pivot.specs.Border.{difference_of, difference_at, in_border}
use Rattle.pivot.specs.Pivot.{StartsWith, by}

-- q is the quotient of a number: multiplied back, it is that number
abbrev pub Quotient : ℤ → ℤ → ℤ → Type 0
Quotient by raw q = q *ℤ by ≡ raw

-- the column of column place j, which is a line of the array
abbrev pub border_column : Border → ℕ → Column
border_column b j = record {
  start = line_at b.rows b.columns j;
  rows = b.rows;
  pivot = b.pivot;
  above = get_or b.aboves j (pos 0);
}

-- the cell at row place i of a column, before reduction
abbrev pub difference_in : List ℤ → List ℤ → Column → ℕ → ℤ
difference_in l besides c i = difference_of c.pivot (get_or l (c.start + i) (pos 0)) (get_or besides i (pos 0)) c.above

-- a column that lies in the array, with numbers that a tableau may hold
pub record Columned (l besides : List ℤ) (c : Column) : Type 0 where
  pub few-rows : c.rows ≤ most_rows
  pub in_array : c.start + c.rows ≤ most_entries
  pub entries-within : AllWithin l largest_number
  pub besides-within : AllWithin besides largest_number
  pub pivot-within : Within c.pivot largest_number
  pub above_within : Within c.above largest_number

-- what is left of an array where k cells from a start were written: as long as it was, and the other cells as they were
pub record Spared (start k : ℕ) (old new : List ℤ) : Type 0 where
  pub long : length new ≡ length old
  pub kept : (i : ℕ) → (i < start) ⊎ (start + k ≤ i) → get_or new i (pos 0) ≡ get_or old i (pos 0)

-- the divisor of a number and the first k cells of a column
unfoldable pub column_divisor : List ℤ → List ℤ → Column → ℕ → ℕ → ℕ
column_divisor l besides c k by = fold_below k (λ i g. gcd (nat_abs (difference_in l besides c i)) g) by

-- whether the size of one of the first k cells of a column is above a limit
unfoldable pub some_above : List ℤ → List ℤ → Column → ℕ → ℕ → Bool
some_above l besides c k limit = some_below k (λ i. ltb limit (nat_abs (difference_in l besides c i)))

-- what a trial of all columns tells: every quotient is right, or which column has one that is not
abbrev pub TriedAs : List ℤ → Border → ℤ → Result (Unit {0}) ℕ → List ℤ → Type 0
TriedAs l b z (Ok _) out = (k : ℕ) → k < in_border b → Quotient z (difference_at l b k) (get_or out k (pos 0))
TriedAs l b z (Err j) out = j < b.columns

-- the divisor z of a number and all cells is found, and the quotients by it are written over old ones
pub record DivisorFound (l : List ℤ) (b : Border) (from : ℤ) (old : List ℤ) (z : ℤ) (out : List ℤ) : Type 0 where
  pub sign-is : z ≡ signed_by from (nat_abs z)
  pub divides : nat_abs z ∣ nat_abs from
  pub greatest : (d : ℕ) → d ∣ nat_abs from → ((k : ℕ) → k < in_border b → d ∣ nat_abs (difference_at l b k)) → d ∣
      nat_abs z
  pub right : (k : ℕ) → k < in_border b → Quotient z (difference_at l b k) (get_or out k (pos 0))
  pub apart : Spared 0 (in_border b) old out

-- a cell is above the largest number times a common multiple of all common divisors
pub record Exceeds (l : List ℤ) (b : Border) (from : ℤ) : Type 0 where
  pub size : ℕ
  pub place : ℕ
  pub some_size : 0 < size
  pub in-live : place < in_border b
  pub above : size * largest_number < nat_abs (difference_at l b place)
  pub greatest : (d : ℕ) → d ∣ nat_abs from → ((k : ℕ) → k < in_border b → d ∣ nat_abs (difference_at l b k)) → d ∣ size

abbrev pub SettledAs : List ℤ → Border → ℤ → List ℤ → Settled → List ℤ → Type 0
SettledAs l b from old (ends.By z) out = DivisorFound l b from old z out
SettledAs l b from old ends.Beyond out = Exceeds l b from
SettledAs l b from old ends.Open out = T true

-- ---- the trials of a pivot that is asked for

module _ (l : List ℤ) (a : Asked) where
  -- the divisor is found, and the cells in use are the definition's, in range or not
  pub record Settles (z : ℤ) (out : List ℤ) : Type 0 where
    pub by-is : z ≡ by a.rows a.columns l a.common a.spot.row.0 a.spot.column.0
    pub by-within : Within z largest_number
    pub cells_are : StartsWith (live a.rows a.columns) (entries_for l a) out

  abbrev pub EndsAs : Settled → List ℤ → Type 0
  EndsAs (ends.By z) out = Settles z out
  EndsAs ends.Beyond out = fits_for l a ≡ false
  EndsAs ends.Open out = T true
