-- The words of an answer, from the struct: docs/RULES.md, "Refusal numbers and their order", the paragraph on answered
-- output.
use Rattle.std.specs.Prelude.{Bool, true, false, List, ◌∷◌, ◌++◌, ◌≡◌, ℕ, ◌+◌, ◌*◌, ◌≤◌, ◌<◌, ltb, ℤ, pos, ◌*ℤ◌, get_or}
use Rattle.std.specs.Prelude.{drop, replicate}
use Rattle.whole.specs.Numbers.{Within}
use Rattle.whole.specs.Tables.{table, filled}
use Rattle.rules.specs.Sizes.{most_columns, most_rows, most_variables, largest_limit, largest_number}
use Rattle.tableau.specs.declared.Seat.{Seat}
use Rattle.tableau.specs.declared.Tableau.{Tableau}
use Rattle.layout.specs.Layout.{Order, in_use}
use Rattle.tableau.specs.Parts.{nowhere}
use Rattle.search.specs.Search.{row_sum_laid}
use Rattle.answers.specs.declared.Verdict.{Verdict}
use Rattle.answers.specs.declared.Verdict.TheVariants as verdicts

-- no room for the answer of N variables
abbrev pub is_short : (room N : ℕ) → Bool
is_short room N = ltb room (3 + 2 * N)

-- word 0: 1 can, 2 cannot, 3 out of range
unfoldable pub verdict_number : Verdict → ℤ
verdict_number verdicts.Can = pos 1
verdict_number verdicts.Cannot = pos 2
verdict_number verdicts.Range = pos 3

-- D times the value of the variable of a seat: the sum of its row, or D times the value of its column. Values are plain
-- parts, or small parts
abbrev pub numerator_from : Bool → ℤ → ℤ → ℤ
numerator_from true basic seated = basic
numerator_from false basic seated = seated

unfoldable pub numerator_laid : Order → List ℤ → List ℤ → ℕ → ℕ → ℤ → Seat → ℤ
numerator_laid o l x rows columns common s =
    numerator_from s.basic (row_sum_laid o rows columns l x s.row.0) (common *ℤ get_or x s.column.0 (pos 0))

-- .. of every variable, by the seats
unfoldable pub numerators_laid : Order → List ℤ → List ℤ → List Seat → ℤ → ℕ → ℕ → List ℤ
numerators_laid o l x seats common rows columns =
    filled most_variables (pos 0) (rows + columns) (λ v. numerator_laid o l x rows columns common
    (get_or seats v nowhere))

-- .. in the order in use
abbrev pub numerator_of : List ℤ → List ℤ → ℕ → ℕ → ℤ → Seat → ℤ
numerator_of = numerator_laid in_use

abbrev pub numerator_in : List ℤ → List ℤ → List Seat → ℤ → ℕ → ℕ → ℕ → ℤ
numerator_in l x seats common rows columns v = numerator_of l x rows columns common (get_or seats v nowhere)

abbrev pub numerators_in : List ℤ → List ℤ → List Seat → ℤ → ℕ → ℕ → List ℤ
numerators_in = numerators_laid in_use

-- .. and of a tableau, from plain parts or from small parts
abbrev pub numerator_at : Tableau → List ℤ → ℕ → ℤ
numerator_at t x v = numerator_in t.entries x t.seats t.common t.rows t.columns v

abbrev pub numerators_at : Tableau → List ℤ → List ℤ
numerators_at t x = numerators_in t.entries x t.seats t.common t.rows t.columns

-- a seat that is a place, and numbers in range
pub record Numerable (l x : List ℤ) (rows columns : ℕ) (common : ℤ) (s : Seat) : Type 0 where
  pub few-rows : rows ≤ most_rows
  pub few-columns : columns ≤ most_columns
  pub common-within : Within common largest_number
  pub entries-within : (k : ℕ) → Within (get_or l k (pos 0)) largest_number
  pub values-within : (j : ℕ) → Within (get_or x j (pos 0)) largest_limit
  pub in_rows : s.basic ≡ true → s.row.0 < rows
  pub in-columns : s.basic ≡ false → s.column.0 < columns

-- ---- writing

-- an array of zeros
abbrev pub noughts : List ℤ
noughts = replicate most_variables (pos 0)

-- the first words of an array
abbrev pub first_of : ℕ → List ℤ → List ℤ
first_of N l = table N (λ v. get_or l v (pos 0))

-- verdict, count, denominator, and two words for each variable
unfoldable pub words_at : Verdict → ℕ → ℤ → ℕ → List ℤ → List ℤ → List ℤ
words_at verdict count denominator N lower upper =
    verdict_number verdict ∷ pos count ∷ denominator ∷ first_of N lower ++ first_of N upper

-- the answer's words, and then the words that were there
abbrev pub laid_over : ℕ → List ℤ → List ℤ → List ℤ
laid_over N before words = words ++ drop (3 + 2 * N) before
