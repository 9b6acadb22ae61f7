-- The problem that a tableau's entries and limits hold at its start, and the checker's sums and tests over them.
use Rattle.std.specs.Prelude.{◌≡◌, Bool, false, ◌&&◌, ◌||◌, List, ℕ, ◌+◌, ◌*◌, ◌≤◌, ◌<◌, ℤ, pos, ◌+ℤ◌, ◌-ℤ◌, ◌*ℤ◌}
use Rattle.std.specs.Prelude.{◌∷◌, [], ◌++◌, length, ltb}
use Rattle.std.proofs.Math.Option.{Option}
use Rattle.whole.specs.Below.{all_below, some_below}
use Rattle.whole.specs.Numbers.{Within, AllWithin, within, eq_z}
use Rattle.whole.specs.Sums.{sum}
use Rattle.rules.specs.Sizes.{most_rows, most_columns, largest_coefficient, largest_limit, largest_number}
use Rattle.rules.specs.Limit.{Limit}
use Rattle.rules.specs.Problem.{Problem, problem, vars_of}
use Rattle.rules.specs.Refusal.{Accepted, first, problem_tests}
use Rattle.rules.specs.Evidence.{lower_part, upper_part, pair_part, at_least, at_most, fair, plain_of, strict_named}
use Rattle.layout.specs.Layout.{entry_in}
use Rattle.tableau.specs.declared.Limits.{Limits}
use Rattle.judge.specs.Words.{Framed}
use Rattle.tableau.specs.Start.{limits_for, start_entries}
use Rattle.tableau.specs.Parts.{lower_given, upper_given, lower_of, upper_of}

-- ---- the problem: at the start the entries are the coefficients

unfoldable pub problem_of : List ℤ → Limits → ℕ → ℕ → Problem Limit
problem_of entries limits rows columns = record {
  n = columns;
  m = rows;
  coefficient = entry_in rows columns entries;
  lower = lower_of limits;
  upper = upper_of limits;
}

-- every limit's number is within its range, and where the flag says so none is strict
pub record Limited (l : Limits) : Type 0 where
  pub lowers-within : (v : ℕ) → Within (lower_given l v).plain largest_limit
  pub uppers-within : (v : ℕ) → Within (upper_given l v).plain largest_limit
  pub lowers-plain : l.strict ≡ false → (v : ℕ) → (lower_given l v).strict ≡ false
  pub uppers-plain : l.strict ≡ false → (v : ℕ) → (upper_given l v).strict ≡ false

-- entries and limits within their ranges
pub record InRanges (entries : List ℤ) (limits : Limits) (rows columns : ℕ) : Type 0 where
  pub few-rows : rows ≤ most_rows
  pub few-columns : columns ≤ most_columns
  pub entries-within : AllWithin entries largest_coefficient
  pub limited : Limited limits

-- .. and an answer that is long enough
pub record Readable (entries : List ℤ) (limits : Limits) (rows columns : ℕ) (a : List ℤ) : Type 0 where
  pub few-rows : rows ≤ most_rows
  pub few-columns : columns ≤ most_columns
  pub long : 3 + 2 * (columns + rows) ≤ length a
  pub entries-within : AllWithin entries largest_coefficient
  pub limited : Limited limits

-- ---- the problem of words and an answer beside it

-- what refuses them, with room for an answer that has `head` words and `each` more for each variable
abbrev pub case_refusal : List ℤ → ℕ → ℕ → ℕ → ℕ
case_refusal ws room head each = first (problem_tests most_rows ws ++ ((ltb room (head + each * vars_of ws), 7) ∷ []))

-- the sizes of words that are accepted, and an answer that is long enough
pub record SizesOf (ws a : List ℤ) (head each rows columns : ℕ) : Type 0 where
  pub framed : Framed ws columns rows
  pub accepted : Accepted most_rows ws
  pub long : head + each * (columns + rows) ≤ length a

-- what was read from words that are accepted, and an answer that is long enough
pub record CaseOf (ws a : List ℤ) (head each : ℕ) (entries : List ℤ) (limits : Limits) (rows columns : ℕ)
    (answer : List ℤ) : Type 0 where
  pub framed : Framed ws columns rows
  pub accepted : Accepted most_rows ws
  pub entries-are : entries ≡ start_entries (problem ws)
  pub limits-are : limits ≡ limits_for (problem ws)
  pub answer-is : answer ≡ a
  pub long : head + each * (columns + rows) ≤ length a

-- ---- verdict 1: a half of the answer is a list that has its numbers where the answer has the numerators

-- the numbers of so many variables are within a range
abbrev pub numerators_fit : ℕ → List ℤ → ℕ → Bool
numerators_fit largest a variables = all_below variables (λ v. within largest (lower_part a v))

-- row place i over the numbers of the first k of the problem's variables
unfoldable pub row_up_to : List ℤ → List ℤ → ℕ → ℕ → ℕ → ℕ → ℤ
row_up_to entries a rows columns i k = sum k (λ j. entry_in rows columns entries i j *ℤ lower_part a j)

abbrev pub row_sum_at : List ℤ → List ℤ → ℕ → ℕ → ℕ → ℤ
row_sum_at entries a rows columns i = row_up_to entries a rows columns i columns

abbrev pub rows_hold : List ℤ → List ℤ → ℕ → ℕ → Bool
rows_hold entries a rows columns =
    all_below rows (λ i. eq_z (lower_part a (columns + i)) (row_sum_at entries a rows columns i))

abbrev pub half_holds : ℕ → List ℤ → List ℤ → ℕ → ℕ → Bool
half_holds largest entries a rows columns =
    numerators_fit largest a (columns + rows) && rows_hold entries a rows columns

abbrev pub is_zero : List ℤ → ℕ → Bool
is_zero a variables = all_below variables (λ v. eq_z (lower_part a v) (pos 0))

-- a numerator and its small part, over d, against two limits that may be missing
abbrev pub meets_both : Option Limit → Option Limit → ℤ → ℤ × ℤ → Bool
meets_both lower upper d x = at_least lower d x && at_most upper d x

-- the first k of so many variables meet their limits
unfoldable pub limits_up_to : Limits → List ℤ → ℕ → ℤ → ℕ → Bool
limits_up_to l a variables d k = all_below k (λ v. meets_both (lower_of l v) (upper_of l v) d (pair_part variables a v))

abbrev pub limits_hold : Limits → List ℤ → ℕ → ℤ → Bool
limits_hold l a variables d = limits_up_to l a variables d variables

-- ---- verdict 2

-- both multipliers of a variable
abbrev pub fair_at : Limits → List ℤ → ℕ → ℕ → Bool
fair_at l a variables v = fair (lower_of l v) (lower_part a v) && fair (upper_of l v) (upper_part variables a v)

unfoldable pub multipliers_fair : Limits → List ℤ → ℕ → Bool
multipliers_fair l a variables = all_below variables (fair_at l a variables)

-- every multiplier is within the largest number
pub record Multiplied (a : List ℤ) (variables : ℕ) : Type 0 where
  pub lower-within : (v : ℕ) → v < variables → Within (lower_part a v) largest_number
  pub upper-within : (v : ℕ) → v < variables → Within (upper_part variables a v) largest_number

abbrev pub balance_at : List ℤ → ℕ → ℕ → ℤ
balance_at a variables v = lower_part a v -ℤ upper_part variables a v

-- column place j of the multipliers put through the first k rows
unfoldable pub column_up_to : List ℤ → List ℤ → ℕ → ℕ → ℕ → ℕ → ℕ → ℤ
column_up_to entries a rows columns variables k j = balance_at a variables j
    +ℤ sum k (λ i. entry_in rows columns entries i j *ℤ balance_at a variables (columns + i))

abbrev pub column_at_entries : List ℤ → List ℤ → ℕ → ℕ → ℕ → ℤ
column_at_entries entries a rows columns j = column_up_to entries a rows columns (columns + rows) rows j

abbrev pub columns_cancel : List ℤ → List ℤ → ℕ → ℕ → Bool
columns_cancel entries a rows columns =
    all_below columns (λ j. eq_z (column_at_entries entries a rows columns j) (pos 0))

-- what multipliers make of the limits of the first k variables: lower ones added, upper ones taken away
unfoldable pub surplus_up_to : Limits → List ℤ → ℕ → ℕ → ℤ
surplus_up_to l a variables k =
    sum k (λ v. plain_of (lower_of l v) *ℤ lower_part a v -ℤ plain_of (upper_of l v) *ℤ upper_part variables a v)

abbrev pub surplus_of : Limits → List ℤ → ℕ → ℤ
surplus_of l a variables = surplus_up_to l a variables variables

-- a strict limit of a variable has a multiplier other than 0
abbrev pub named_at : Limits → List ℤ → ℕ → ℕ → Bool
named_at l a variables v =
    strict_named (lower_of l v) (lower_part a v) || strict_named (upper_of l v) (upper_part variables a v)

unfoldable pub some_named : Limits → List ℤ → ℕ → Bool
some_named l a variables = some_below variables (named_at l a variables)
