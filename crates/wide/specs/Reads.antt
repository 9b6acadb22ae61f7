-- The numbers of an answer as limbs, and the checker's sums and tests over them.
use Rattle.std.specs.Prelude.{Bool, ◌&&◌, ◌||◌, List, ℕ, ◌+◌, ◌*◌, ◌<◌, ℤ, pos, ◌+ℤ◌, ◌-ℤ◌, ◌*ℤ◌}
use Rattle.whole.specs.Below.{all_below, some_below}
use Rattle.whole.specs.Numbers.{eq_z}
use Rattle.whole.specs.Sums.{sum}
use Rattle.rules.specs.Sizes.{largest_coefficient, largest_limit, limb_turn, most_columns, most_rows, most_variables}
use Rattle.rules.specs.Evidence.{owed, plain_of, strict_named}
use Rattle.rules.specs.Facts.Wide.{Formed}
use Rattle.rules.specs.Wide.{limb_at, numbers_of, wide_at, wide_lower, wide_upper}
use Rattle.layout.specs.Layout.{entry_in}
use Rattle.limbs.specs.declared.Wide.{Wide}
use Rattle.parts.specs.Reads.{meets_both}
use Rattle.tableau.specs.declared.Limits.{Limits}
use Rattle.tableau.specs.Parts.{lower_of, upper_of}

-- the most numbers of an answer
abbrev pub most_numbers : ℕ
most_numbers = numbers_of most_variables

-- the limbs of a number
abbrev pub wide_in : List ℤ → ℕ → Wide
wide_in a slot = record { a = limb_at a slot 0; b = limb_at a slot 1; c = limb_at a slot 2; d = limb_at a slot 3 }

-- the words of the first numbers are in their ranges
pub record AllFormed (a : List ℤ) (numbers : ℕ) : Type 0 where
  pub each : (slot : ℕ) → slot < numbers → Formed a slot

-- ---- verdict 1

-- of a term of a row, and of a row
abbrev pub term_most : ℕ
term_most = largest_coefficient * limb_turn

abbrev pub row_most : ℕ
row_most = most_columns * term_most

-- row place i over the first k numbers from a slot on
unfoldable pub row_in : List ℤ → List ℤ → ℕ → ℕ → ℕ → ℕ → ℕ → ℤ
row_in entries a first rows columns i k = sum k (λ j. entry_in rows columns entries i j *ℤ wide_at a (first + j))

-- the first k rows hold of the numbers from a slot on
unfoldable pub rows_solved : List ℤ → List ℤ → ℕ → ℕ → ℕ → ℕ → Bool
rows_solved entries a first rows columns k =
    all_below k (λ i. eq_z (wide_at a (first + (columns + i))) (row_in entries a first rows columns i columns))

-- the first k of so many variables meet their limits
unfoldable pub limits_met : Limits → List ℤ → ℕ → ℤ → ℕ → Bool
limits_met l a variables d k =
    all_below k (λ v. meets_both (lower_of l v) (upper_of l v) d (wide_lower a v, wide_upper variables a v))

-- ---- verdict 2

unfoldable pub all_owed : Limits → List ℤ → ℕ → ℕ → Bool
all_owed l a variables k =
    all_below k (λ v. owed (lower_of l v) (wide_lower a v) && owed (upper_of l v) (wide_upper variables a v))

abbrev pub balance_in : List ℤ → ℕ → ℕ → ℤ
balance_in a variables v = wide_lower a v -ℤ wide_upper variables a v

-- of a term of a column, and of a column
abbrev pub share_most : ℕ
share_most = largest_coefficient * (limb_turn + limb_turn)

abbrev pub column_most : ℕ
column_most = (limb_turn + limb_turn) + most_rows * share_most

-- column place j of the multipliers put through the first k rows
unfoldable pub column_in : List ℤ → List ℤ → ℕ → ℕ → ℕ → ℕ → ℤ
column_in entries a rows columns k j = balance_in a (columns + rows) j
    +ℤ sum k (λ i. entry_in rows columns entries i j *ℤ balance_in a (columns + rows) (columns + i))

unfoldable pub columns_vanish : List ℤ → List ℤ → ℕ → ℕ → ℕ → Bool
columns_vanish entries a rows columns k = all_below k (λ j. eq_z (column_in entries a rows columns rows j) (pos 0))

-- of a limit's number times a multiplier, and of all
abbrev pub weight_most : ℕ
weight_most = largest_limit * limb_turn

abbrev pub surplus_most : ℕ
surplus_most = most_variables * (weight_most + weight_most)

unfoldable pub surplus_in : Limits → List ℤ → ℕ → ℕ → ℤ
surplus_in l a variables k =
    sum k (λ v. plain_of (lower_of l v) *ℤ wide_lower a v -ℤ plain_of (upper_of l v) *ℤ wide_upper variables a v)

unfoldable pub some_marked : Limits → List ℤ → ℕ → ℕ → Bool
some_marked l a variables k =
    some_below k (λ v. strict_named (lower_of l v) (wide_lower a v) || strict_named (upper_of l v)
    (wide_upper variables a v))
