-- What the tableau by place stands for: a state of the run of docs/RULES.md. Sizes, places, numbers and limits, one
-- record each.
use Rattle.std.specs.Prelude.{ℕ, ◌≤◌, ◌<◌, ◌≡◌, true, false, ℤ, pos, length}
use Rattle.std.proofs.Math.Option.{none, some}
use Rattle.whole.specs.Numbers.{Within}
use Rattle.rules.specs.Sizes.{most_columns, most_rows, most_variables, largest_limit}
use Rattle.rules.specs.Problem.{Problem, vars}
use Rattle.rules.specs.Tableau.{entry}
use Rattle.rules.specs.Step.{State, seat, common}
use Rattle.layout.specs.Layout.{live, most_entries}
use Rattle.tableau.specs.declared.Limits.{Limits}
use Rattle.tableau.specs.declared.Tableau.{Tableau}
use Rattle.tableau.specs.Parts.{cell, cell_at, basic_at, nonbasic_at, value_at, seat_at, row_of, column_of}
use Rattle.tableau.specs.Parts.{plain_at, small_at, lower_given, upper_given, lowest_of, highest_of}
use Rattle.tableau.specs.Pivot.{Cells}

-- row place i holds a basic variable, whose seat is that place
pub record InRow (P : Problem (ℤ × ℤ)) (t : Tableau) (s : State (ℤ × ℤ)) (i : ℕ) : Type 0 where
  pub variable-in : basic_at t i < vars P
  pub is-basic : seat s (basic_at t i) ≡ none
  pub back : row_of t (basic_at t i) ≡ i

-- column place j holds a nonbasic variable and its value
pub record InColumn (P : Problem (ℤ × ℤ)) (t : Tableau) (s : State (ℤ × ℤ)) (j : ℕ) : Type 0 where
  pub variable-in : nonbasic_at t j < vars P
  pub is-seated : seat s (nonbasic_at t j) ≡ some (value_at t j)
  pub back : column_of t (nonbasic_at t j) ≡ j

-- a basic variable has a row, a nonbasic one a column
pub record HasRow (P : Problem (ℤ × ℤ)) (t : Tableau) (v : ℕ) : Type 0 where
  pub flag : (seat_at t v).basic ≡ true
  pub in_rows : row_of t v < P.m
  pub holds : basic_at t (row_of t v) ≡ v

pub record HasColumn (P : Problem (ℤ × ℤ)) (t : Tableau) (v : ℕ) : Type 0 where
  pub flag : (seat_at t v).basic ≡ false
  pub in-columns : column_of t v < P.n
  pub holds : nonbasic_at t (column_of t v) ≡ v

-- arrays as long as they are declared, and the problem no larger than they are
pub record Sized (P : Problem (ℤ × ℤ)) (t : Tableau) : Type 0 where
  pub rows_is : t.rows ≡ P.m
  pub columns-is : t.columns ≡ P.n
  pub few-rows : P.m ≤ most_rows
  pub few-columns : P.n ≤ most_columns
  pub entries-long : length t.entries ≡ most_entries
  pub basic-long : length t.basic ≡ most_rows
  pub nonbasic-long : length t.nonbasic ≡ most_columns
  pub values-long : length t.values ≡ most_columns
  pub smalls-long : length t.smalls ≡ most_columns
  pub seats-long : length t.seats ≡ most_variables

-- the variables and the places are one to one
pub record Placed (P : Problem (ℤ × ℤ)) (t : Tableau) (s : State (ℤ × ℤ)) : Type 0 where
  pub in_row : (i : ℕ) → i < P.m → InRow P t s i
  pub in-column : (j : ℕ) → j < P.n → InColumn P t s j
  pub has-row : (v : ℕ) → v < vars P → seat s v ≡ none → HasRow P t v
  pub has-column : (v : ℕ) (x : ℤ × ℤ) → v < vars P → seat s v ≡ some x → HasColumn P t v

-- the numbers are those of the state, and a cell that is not in use is 0
pub record Numbers (P : Problem (ℤ × ℤ)) (t : Tableau) (s : State (ℤ × ℤ)) : Type 0 where
  pub common-is : t.common ≡ common s
  pub cell-is : (i j : ℕ) → i < P.m → j < P.n → cell_at t i j ≡ entry s.tableau (basic_at t i) (nonbasic_at t j)
  pub unused : (k : ℕ) → live P.m P.n ≤ k → cell t k ≡ pos 0

-- the limits are the problem's, in range, and where the flag says so none is strict
pub record Serves (P : Problem (ℤ × ℤ)) (l : Limits) : Type 0 where
  pub lower-is : (v : ℕ) → v < vars P → P.lower v ≡ lowest_of l v
  pub upper_is : (v : ℕ) → v < vars P → P.upper v ≡ highest_of l v
  pub lowers-within : (v : ℕ) → Within (lower_given l v).plain largest_limit
  pub uppers-within : (v : ℕ) → Within (upper_given l v).plain largest_limit
  pub lowers-plain : l.strict ≡ false → (v : ℕ) → (lower_given l v).strict ≡ false
  pub uppers-plain : l.strict ≡ false → (v : ℕ) → (upper_given l v).strict ≡ false

pub record Stands (P : Problem (ℤ × ℤ)) (t : Tableau) (s : State (ℤ × ℤ)) : Type 0 where
  pub sized : Sized P t
  pub placed : Placed P t s
  pub numbers : Numbers P t s
  pub serves : Serves P t.limits

-- every number may stand in a tableau; every value is 0 or what a limit stands for, so its small part is -1, 0 or 1,
-- and 0 where no limit is strict
pub record Ranged (t : Tableau) : Type 0 where
  pub cells : Cells t
  pub values-within : (j : ℕ) → Within (plain_at t j) largest_limit
  pub smalls-within : (j : ℕ) → Within (small_at t j) 1
  pub smalls-plain : t.limits.strict ≡ false → (j : ℕ) → small_at t j ≡ pos 0
