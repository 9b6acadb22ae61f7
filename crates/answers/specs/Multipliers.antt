-- The multipliers of "cannot", by place: docs/RULES.md, "The run", the sentences on verdict 2.
use Rattle.std.specs.Prelude.{Bool, true, false, List, ℕ, ◌+◌, ◌≤◌, ◌<◌, ◌≡◌, eqb, ℤ, pos, neg_ℤ, get_or, replicate}
use Rattle.std.specs.Prelude.{set}
use Rattle.whole.specs.Numbers.{Within}
use Rattle.whole.specs.Tables.{filled}
use Rattle.rules.specs.Sizes.{most_columns, most_rows, most_variables, largest_number}
use Rattle.rules.specs.Step.{pull, positive}
use Rattle.tableau.specs.declared.Seat.{Seat}
use Rattle.tableau.specs.declared.Tableau.{Tableau}
use Rattle.layout.specs.Layout.{Order, in_use, entry_laid}
use Rattle.tableau.specs.Parts.{nowhere}
use Rattle.sides.specs.Sides.{side_by}
use Rattle.search.specs.declared.Blocked.{Blocked}
use Rattle.answers.specs.declared.multipliers.Multipliers.{Multipliers}

-- 1 at variable v, 0 elsewhere
unfoldable pub unit_at : ℕ → List ℤ
unit_at v = set (replicate most_variables (pos 0)) v (pos 1)

-- the row as an equation "the sum is 0", at the variable of a seat: its entry, minus D at the row's own variable, 0 at
-- the other basic ones
abbrev pub relation_from : Bool → Bool → ℤ → ℤ → ℤ
relation_from true true common entry = neg_ℤ common
relation_from true false common entry = pos 0
relation_from false own common entry = entry

-- .. turned to rise
unfoldable pub pull_laid : Order → List ℤ → ℕ → ℕ → ℤ → Blocked → Seat → ℤ
pull_laid o l rows columns common b x = pull (side_by b.rises)
    (relation_from x.basic (eqb x.row.0 b.row.0) common
    (entry_laid o rows columns l b.row.0 x.column.0))

-- .. at every variable, by the seats
abbrev pub pull_in_laid : Order → List ℤ → List Seat → ℕ → ℕ → ℤ → Blocked → ℕ → ℤ
pull_in_laid o l seats rows columns common b v = pull_laid o l rows columns common b (get_or seats v nowhere)

unfoldable pub multipliers_laid : Order → List ℤ → List Seat → ℤ → ℕ → ℕ → Blocked → Multipliers
multipliers_laid o l seats common rows columns b = record {
  lower = filled most_variables (pos 0) (rows + columns)
      (λ v. positive (neg_ℤ (pull_in_laid o l seats rows columns common b v)));
  upper = filled most_variables (pos 0) (rows + columns)
      (λ v. positive (pull_in_laid o l seats rows columns common b v));
}

-- .. in the order in use
abbrev pub pull_of : List ℤ → ℕ → ℕ → ℤ → Blocked → Seat → ℤ
pull_of = pull_laid in_use

abbrev pub pull_in : List ℤ → List Seat → ℕ → ℕ → ℤ → Blocked → ℕ → ℤ
pull_in = pull_in_laid in_use

abbrev pub multipliers_in : List ℤ → List Seat → ℤ → ℕ → ℕ → Blocked → Multipliers
multipliers_in = multipliers_laid in_use

-- .. and of a tableau
abbrev pub pull_at : Tableau → Blocked → ℕ → ℤ
pull_at t b v = pull_in t.entries t.seats t.rows t.columns t.common b v

abbrev pub multipliers_at : Tableau → Blocked → Multipliers
multipliers_at t b = multipliers_in t.entries t.seats t.common t.rows t.columns b

-- a row place, and a seat that is a column place where it is not basic
pub record Blockable (l : List ℤ) (rows columns : ℕ) (common : ℤ) (i : ℕ) (x : Seat) : Type 0 where
  pub few-rows : rows ≤ most_rows
  pub few-columns : columns ≤ most_columns
  pub common-within : Within common largest_number
  pub entries-within : (k : ℕ) → Within (get_or l k (pos 0)) largest_number
  pub in_rows : i < rows
  pub in-columns : x.basic ≡ false → x.column.0 < columns
