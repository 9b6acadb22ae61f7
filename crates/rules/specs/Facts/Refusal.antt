-- docs/RULES.md, "Refusal numbers and their order": the table in plain words, line by line, with no test inside.
--   Line        a number, what it means that its line applies, and what that it does not
--   First       which number a table gives: that of its first line that applies, or 0
--   AllFine     no line applies
--   Tests       a test is true exactly where a line applies, and false exactly where it does not
--   problem_table, solver_table    the lines of the page; solver_table_within, within any most rows
-- specs/Refusal has the tests that compute; they give what these lines say (`refusal-exactly`).
use Rattle.std.specs.Prelude.{Bool, false, true, List, [], ◌++◌, ◌∷◌, ◌≢◌, ◌⊎◌, ◌≡◌, ℕ, ◌*◌, ◌+◌, ◌<◌, ◌≤◌, pos, ℤ}
use Rattle.std.specs.Prelude.{length, ◌<ℤ◌, ◌≤ℤ◌}
use Rattle.whole.specs.Numbers.{Within}
use Rattle.whole.specs.Tells.{Tells}
use Rattle.rules.specs.Limit.{has_lower, has_upper, strict_lower, strict_upper}
use Rattle.rules.specs.Problem.{answer_length, coefficient_word, kind, lower_word, m_of, n_of, upper_word, vars_of}
use Rattle.rules.specs.Problem.{word}
use Rattle.rules.specs.Refusal.{FineLimit}
use Rattle.rules.specs.Sizes.{largest_coefficient, largest_limit, most_columns, most_rows}

-- ---- tables

pub record Line : Type 1 where
  pub number : ℕ
  pub Bad : Type 0
  pub Fine : Type 0

abbrev pub line_of : ℕ → (Bad Fine : Type 0) → Line
line_of k Bad Fine = record { number = k; Bad = Bad; Fine = Fine }

abbrev pub First : List Line → ℕ → Type 0
First [] k = k ≡ 0
First (l ∷ ls) k = (l.Bad × (k ≡ l.number)) ⊎ ((¬ l.Bad) × First ls k)

abbrev pub AllFine : List Line → Type 0
AllFine [] = Unit {0}
AllFine (l ∷ ls) = l.Fine × AllFine ls

abbrev pub Tests : Bool → Line → Type 0
Tests b l = Tells b l.Bad l.Fine

-- ---- words

abbrev pub OutOfRange : ℕ → ℕ → ℤ → Type 0
OutOfRange lo hi z = (z <ℤ pos lo) ⊎ (pos hi <ℤ z)

abbrev pub InRange : ℕ → ℕ → ℤ → Type 0
InRange lo hi z = (pos lo ≤ℤ z) × (z ≤ℤ pos hi)

-- out of range where the limit is present, not 0 where it is missing
abbrev pub BadLimit : Bool → ℤ → Type 0
BadLimit true z = ¬ Within z largest_limit
BadLimit false z = z ≢ pos 0

-- outside 0 to 15, or a strict mark on a missing limit
abbrev pub BadKind : ℤ → Type 0
BadKind k = OutOfRange 0 15 k
    ⊎ (((strict_lower k ≡ true) × (has_lower k ≡ false)) ⊎ ((strict_upper k ≡ true) × (has_upper k ≡ false)))

abbrev pub FineKind : ℤ → Type 0
FineKind k = InRange 0 15 k × ((strict_lower k ≡ true → has_lower k ≡ true) ×
    (strict_upper k ≡ true → has_upper k ≡ true))

-- ---- the lines of a problem

abbrev pub few_line : List ℤ → Line
few_line ws = line_of 1 (length ws < 2) (2 ≤ length ws)

-- n or m is outside its range; the most rows are an argument
abbrev pub size_line : ℕ → List ℤ → Line
size_line rows ws = line_of 2 (OutOfRange 1 most_columns (word ws 0) ⊎ OutOfRange 0 rows (word ws 1))
    (InRange 1 most_columns (word ws 0) × InRange 0 rows (word ws 1))

abbrev pub length_line : List ℤ → Line
length_line ws = line_of 3 (length ws ≢ 2 + m_of ws * n_of ws + 3 * vars_of ws)
    (length ws ≡ 2 + m_of ws * n_of ws + 3 * vars_of ws)

abbrev pub coefficient_line : List ℤ → Line
coefficient_line ws = line_of 4
    ((i : ℕ) × (i < m_of ws * n_of ws) × (¬ Within (word ws (2 + i)) largest_coefficient))
    ((i : ℕ) → i < m_of ws * n_of ws → Within (word ws (2 + i)) largest_coefficient)

abbrev pub kind_line : List ℤ → Line
kind_line ws = line_of 5 ((v : ℕ) × (v < vars_of ws) × BadKind (kind ws v))
    ((v : ℕ) → v < vars_of ws → FineKind (kind ws v))

-- a variable has a bad word for its lower or for its upper limit, be that limit present or missing
abbrev pub limit_line : List ℤ → Line
limit_line ws = line_of 6
    ((v : ℕ) × (v < vars_of ws)
    × (BadLimit (has_lower (kind ws v)) (lower_word ws v) ⊎ BadLimit (has_upper (kind ws v)) (upper_word ws v)))
    ((v : ℕ) → v < vars_of ws →
    FineLimit (has_lower (kind ws v)) (lower_word ws v) × FineLimit (has_upper (kind ws v)) (upper_word ws v))

-- some row is blank: each of its n coefficients is 0
abbrev pub blank_line : List ℤ → Line
blank_line ws = line_of 10 ((i : ℕ) × (i < m_of ws) × ((j : ℕ) → j < n_of ws → coefficient_word ws i j ≡ pos 0))
    ((i : ℕ) → i < m_of ws → (j : ℕ) × (j < n_of ws) × (coefficient_word ws i j ≢ pos 0))

-- the output, or the checker's answer, is too short
abbrev pub room_line : List ℤ → ℕ → Line
room_line ws room = line_of 7 (room < answer_length ws) (answer_length ws ≤ room)

abbrev pub problem_table : ℕ → List ℤ → List Line
problem_table rows ws =
    few_line ws ∷ size_line rows ws ∷ length_line ws ∷ coefficient_line ws ∷ kind_line ws ∷ limit_line ws ∷ blank_line
    ws ∷ []

abbrev pub solver_table_within : ℕ → List ℤ → ℕ → List Line
solver_table_within rows ws room = problem_table rows ws ++ (room_line ws room ∷ [])

abbrev pub solver_table : List ℤ → ℕ → List Line
solver_table ws room = solver_table_within most_rows ws room
