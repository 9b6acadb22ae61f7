-- A pivot of a whole tableau: its numbers in lowest common form, and the two variables that change places.
use Rattle.std.specs.Prelude.{ℕ, ◌<◌, true, false, List, ℤ, get_or, set}
use Rattle.whole.specs.Numbers.{Within}
use Rattle.rules.specs.Sizes.{most_columns, most_rows, most_variables, largest_number}
use Rattle.layout.specs.Layout.{Order, in_use, row_place, column_place}
use Rattle.pivot.specs.Pivot.{common_laid, entries_laid}
use Rattle.tableau.specs.declared.Variable.{Variable}
use Rattle.tableau.specs.declared.Tableau.{Tableau}
use Rattle.tableau.specs.Parts.{variable, cell, basic_at, nonbasic_at}

-- every number of the tableau is within the largest one
pub record Cells (t : Tableau) : Type 0 where
  pub common-within : Within t.common largest_number
  pub cell-within : (k : ℕ) → Within (cell t k) largest_number

-- the tableau with another common number and other entries
abbrev pub with_numbers : Tableau → ℤ → List ℤ → Tableau
with_numbers t c l = record {
  rows = t.rows;
  columns = t.columns;
  common = c;
  entries = l;
  basic = t.basic;
  nonbasic = t.nonbasic;
  values = t.values;
  smalls = t.smalls;
  seats = t.seats;
  limits = t.limits;
}

-- the tableau after the pivot of row place p and column place q: entries and common number in lowest form
unfoldable pub pivoted_laid : Order → Tableau → ℕ → ℕ → Tableau
pivoted_laid o t p q = with_numbers t (common_laid o t.rows t.columns t.entries t.common p q)
    (entries_laid o t.rows t.columns t.entries t.common p q)

abbrev pub pivoted_at : Tableau → ℕ → ℕ → Tableau
pivoted_at = pivoted_laid in_use

-- the variables of row place p and column place q change places, and the one that leaves gets the value x
unfoldable pub swapped_at : Tableau → ℕ → ℕ → ℤ × ℤ → Tableau
swapped_at t p q x =
    let r : Variable = get_or t.basic p (variable 0) in
    let w : Variable = get_or t.nonbasic q (variable 0) in
    record {
      rows = t.rows;
      columns = t.columns;
      common = t.common;
      entries = t.entries;
      basic = set t.basic p w;
      nonbasic = set t.nonbasic q r;
      values = set t.values q x.0;
      smalls = set t.smalls q x.1;
      seats = set (set t.seats w.0 (record { basic = true; row = row_place p; column = column_place q })) r.0
          (record { basic = false; row = row_place p; column = column_place q });
      limits = t.limits;
    }

-- a row place and a column place whose variables have seats
pub record Swappable (t : Tableau) (p q : ℕ) : Type 0 where
  pub in_rows : p < most_rows
  pub in-columns : q < most_columns
  pub leaving-seat : basic_at t p < most_variables
  pub entering-seat : nonbasic_at t q < most_variables
