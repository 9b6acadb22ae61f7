-- The search for the next pivot, by place: docs/RULES.md, "The run", over the struct. Both searches go by the
-- variables' numbers.
use Rattle.std.specs.Prelude.{◌≡◌, Bool, true, false, cond, List, [], ℕ, ◌+◌, ◌≤◌, ◌<◌, ℤ, pos, ◌*ℤ◌, get_or}
use Rattle.std.specs.Prelude.{Some, None}
use Rattle.std.specs.Prelude as answered
use Rattle.std.proofs.Math.Option.{Option, none, some}
use Rattle.whole.specs.Below.{lowest}
use Rattle.whole.specs.Numbers.{Within}
use Rattle.whole.specs.Sums.{sum}
use Rattle.whole.specs.Values.{pairs}
use Rattle.rules.specs.Sizes.{most_columns, most_rows, largest_limit}
use Rattle.rules.specs.Step.{Side, Leaving, leaves, shortfall_by, pull, suits}
use Rattle.amounts.specs.Amounts.{amount_of}
use Rattle.tableau.specs.declared.Limits.{Limits}
use Rattle.tableau.specs.declared.Tableau.{Tableau}
use Rattle.layout.specs.declared.ColumnPlace.{ColumnPlace}
use Rattle.layout.specs.Layout.{Order, in_use, entry_laid}
use Rattle.tableau.specs.Parts.{cell_laid, value_at, seat_at, row_of, column_of, lowest_of, highest_of}
use Rattle.tableau.specs.Parts.{plain_at, small_at, lower_given, upper_given}
use Rattle.tableau.specs.Pivot.{Cells}
use Rattle.sides.specs.Sides.{side_of, rising, side_by}
use Rattle.search.specs.declared.Blocked.{Blocked}
use Rattle.search.specs.declared.Choice.{Choice}
use Rattle.search.specs.declared.Next.{Next}
use Rattle.search.specs.declared.Next.TheVariants as variants
use Rattle.search.specs.declared.View.{View}

abbrev pub tagged : ℕ → Option Side → (Side → ℤ × ℤ) → Option (Leaving (ℤ × ℤ))
tagged v none short = none
tagged v (some σ) short = some (leaves v σ (short σ))

abbrev pub blocked_at : Tableau → Leaving (ℤ × ℤ) → Blocked
blocked_at t r = record {
  row = (seat_at t r.variable).row;
  rises = rising r.side;
  shortfall = amount_of r.shortfall;
}

abbrev pub choice_at : Tableau → Leaving (ℤ × ℤ) → ℕ → Choice
choice_at t r w = record {
  row = (seat_at t r.variable).row;
  column = (seat_at t w).column;
  rises = rising r.side;
  shortfall = amount_of r.shortfall;
}

unfoldable pub move_by : Tableau → Leaving (ℤ × ℤ) → Option ℕ → Next
move_by t r none = variants.Stuck (blocked_at t r)
move_by t r (some w) = variants.Pivot (choice_at t r w)

module _ (o : Order) where
  -- the sum of the first k columns of row place i, of m rows and n columns
  unfoldable pub sum_laid : ℕ → ℕ → List ℤ → List ℤ → ℕ → ℕ → ℤ
  sum_laid m n l x i k = sum k (λ j. entry_laid o m n l i j *ℤ get_or x j (pos 0))

  -- D times the value of the basic variable of row place i, from entries and values: plain parts or small parts
  abbrev pub row_sum_laid : ℕ → ℕ → List ℤ → List ℤ → ℕ → ℤ
  row_sum_laid m n l x i = sum_laid m n l x i n

  -- ---- the leaving variable

  -- D times the value of variable v, if it is basic
  abbrev scaled_laid : Tableau → ℕ → ℤ × ℤ
  scaled_laid t v = (
    row_sum_laid t.rows t.columns t.entries t.values (row_of t v),
    row_sum_laid t.rows t.columns t.entries t.smalls (row_of t v),
  )

  -- .. the side on which it is outside
  abbrev pub side_laid : Tableau → ℕ → Option Side
  side_laid t v = side_of t.common (scaled_laid t v) (lowest_of t.limits v) (highest_of t.limits v)

  -- .. and by how much, over D
  abbrev pub short_laid : Tableau → ℕ → Side → ℤ × ℤ
  short_laid t v = shortfall_by pairs t.common (scaled_laid t v) (lowest_of t.limits v) (highest_of t.limits v)

  unfoldable pub broken_laid : Tableau → ℕ → Option (Leaving (ℤ × ℤ))
  broken_laid t v = cond (seat_at t v).basic (tagged v (side_laid t v) (short_laid t v)) none

  unfoldable pub leaving_laid : Tableau → Option (Leaving (ℤ × ℤ))
  leaving_laid t = lowest (t.rows + t.columns) (broken_laid t)

  -- ---- the entering variable

  -- variable w can move the basic variable of row place i the right way, if it is nonbasic
  abbrev pub fitting_laid : Tableau → ℕ → Side → ℕ → Bool
  fitting_laid t i σ w = suits pairs (pull σ (cell_laid o t i (column_of t w))) (some (value_at t (column_of t w)))
      (lowest_of t.limits w) (highest_of t.limits w)

  unfoldable pub enters_laid : Tableau → ℕ → Side → ℕ → Option ℕ
  enters_laid t i σ w = cond (seat_at t w).basic none (cond (fitting_laid t i σ w) (some w) none)

  unfoldable pub entering_laid : Tableau → ℕ → Side → Option ℕ
  entering_laid t i σ = lowest (t.rows + t.columns) (enters_laid t i σ)

  -- ---- both

  unfoldable pub next_by_laid : Tableau → Option (Leaving (ℤ × ℤ)) → Next
  next_by_laid t none = variants.Within
  next_by_laid t (some r) = move_by t r (entering_laid t (row_of t r.variable) r.side)

  unfoldable pub next_laid : Tableau → Next
  next_laid t = next_by_laid t (leaving_laid t)

-- ---- the same in the order in use

abbrev pub part_sum : ℕ → ℕ → List ℤ → List ℤ → ℕ → ℕ → ℤ
part_sum = sum_laid in_use

abbrev pub row_sum_in : ℕ → ℕ → List ℤ → List ℤ → ℕ → ℤ
row_sum_in = row_sum_laid in_use

abbrev pub scaled_at : Tableau → ℕ → ℤ × ℤ
scaled_at = scaled_laid in_use

abbrev pub side_at : Tableau → ℕ → Option Side
side_at = side_laid in_use

abbrev pub short_at : Tableau → ℕ → Side → ℤ × ℤ
short_at = short_laid in_use

abbrev pub broken_at : Tableau → ℕ → Option (Leaving (ℤ × ℤ))
broken_at = broken_laid in_use

abbrev pub leaving_at : Tableau → Option (Leaving (ℤ × ℤ))
leaving_at = leaving_laid in_use

abbrev pub fitting : Tableau → ℕ → Side → ℕ → Bool
fitting = fitting_laid in_use

abbrev pub entering_of : Tableau → ℕ → Side → ℕ → Option ℕ
entering_of = enters_laid in_use

abbrev pub entering_at : Tableau → ℕ → Side → Option ℕ
entering_at = entering_laid in_use

abbrev pub next_by : Tableau → Option (Leaving (ℤ × ℤ)) → Next
next_by = next_by_laid in_use

abbrev pub next_at : Tableau → Next
next_at = next_laid in_use

-- ---- what the code finds: the leaving variable's row, side and shortfall, and the entering variable's column

unfoldable pub blocked_by : Tableau → Option (Leaving (ℤ × ℤ)) → answered.Option Blocked
blocked_by t none = None
blocked_by t (some r) = Some (blocked_at t r)

abbrev pub blocked_in : Tableau → answered.Option Blocked
blocked_in t = blocked_by t (leaving_at t)

unfoldable pub column_by : Tableau → Option ℕ → answered.Option ColumnPlace
column_by t none = None
column_by t (some w) = Some (seat_at t w).column

abbrev pub column_seated : Tableau → ℕ → Bool → answered.Option ColumnPlace
column_seated t i rises = column_by t (entering_at t i (side_by rises))

-- ---- what the code reads

-- the tableau as the search and a step read it: which variable is at which column place is not asked
abbrev pub seen : List ℤ → View → Limits → Tableau
seen entries view limits = record {
  rows = view.rows;
  columns = view.columns;
  common = view.common;
  entries = entries;
  basic = view.basic;
  nonbasic = [];
  values = view.values;
  smalls = view.smalls;
  seats = view.seats;
  limits = limits;
}

-- what they read of a tableau beside its entries and its limits
abbrev pub view_of : Tableau → View
view_of t = record {
  rows = t.rows;
  columns = t.columns;
  common = t.common;
  values = t.values;
  smalls = t.smalls;
  basic = t.basic;
  seats = t.seats;
}

-- what the search needs: sizes, ranges, no small parts where no limit is strict, and that seats are places
pub record Searchable (t : Tableau) : Type 0 where
  pub few-rows : t.rows ≤ most_rows
  pub few-columns : t.columns ≤ most_columns
  pub cells : Cells t
  pub values-within : (j : ℕ) → Within (plain_at t j) largest_limit
  pub smalls-within : (j : ℕ) → Within (small_at t j) 1
  pub smalls-plain : t.limits.strict ≡ false → (j : ℕ) → small_at t j ≡ pos 0
  pub lowers-within : (v : ℕ) → Within (lower_given t.limits v).plain largest_limit
  pub uppers-within : (v : ℕ) → Within (upper_given t.limits v).plain largest_limit
  pub row-seats : (v : ℕ) → v < t.rows + t.columns → (seat_at t v).basic ≡ true → row_of t v < t.rows
  pub column-seats : (v : ℕ) → v < t.rows + t.columns → (seat_at t v).basic ≡ false → column_of t v < t.columns
