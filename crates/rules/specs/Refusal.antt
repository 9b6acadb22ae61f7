-- docs/RULES.md, "Refusal numbers and their order": a list of tests with their numbers, each asked of all words, the
-- first that applies winning.
use Rattle.std.specs.Prelude.{◌≡◌, ◌≢◌, Bool, true, false, ◌||◌, not, List, [], ◌∷◌, ◌++◌, ℕ, min, ◌+◌, ◌*◌, ◌≤◌, ◌<◌}
use Rattle.std.specs.Prelude.{ℤ, pos, ltb, eqb, length, ◌≤ℤ◌}
use Rattle.whole.specs.Below.{all_below, some_below}
use Rattle.whole.specs.Numbers.{Within, eq_z, outside, within}
use Rattle.rules.specs.Sizes.{most_columns, most_rows, largest_coefficient, largest_limit}
use Rattle.rules.specs.Limit.{has_lower, has_upper, bad_limit_word, strict_lower, strict_upper, bad_kind_word}
use Rattle.rules.specs.Problem.{word, n_of, m_of, vars_of, coefficient_word, kind, lower_word, upper_word}
use Rattle.rules.specs.Problem.{answer_length}

-- the number beside the first test that applies, or 0
unfoldable pub first : List (Bool × ℕ) → ℕ
first [] = 0
first (t ∷ ts) = elim t.0 [ true ↦ t.1 | false ↦ first ts ]

unfoldable pub too_few : List ℤ → Bool
too_few ws = ltb (length ws) 2

-- the most rows are an argument
unfoldable pub bad_size : ℕ → List ℤ → Bool
bad_size rows ws = outside 1 most_columns (word ws 0) || outside 0 rows (word ws 1)

unfoldable pub bad_length : List ℤ → Bool
bad_length ws = not (eqb (length ws) (2 + m_of ws * n_of ws + 3 * vars_of ws))

unfoldable pub bad_coefficient : List ℤ → Bool
bad_coefficient ws = some_below (m_of ws * n_of ws) (λ i. not (within largest_coefficient (word ws (2 + i))))

unfoldable pub bad_kind : List ℤ → Bool
bad_kind ws = some_below (vars_of ws) (λ v. bad_kind_word (kind ws v))

unfoldable pub bad_limit : List ℤ → Bool
bad_limit ws = some_below (vars_of ws) (λ v.
    bad_limit_word (has_lower (kind ws v)) (lower_word ws v) || bad_limit_word (has_upper (kind ws v))
    (upper_word ws v))

-- a blank row: each of its n coefficients is 0
unfoldable pub blank_row : List ℤ → ℕ → Bool
blank_row ws i = all_below (n_of ws) (λ j. eq_z (coefficient_word ws i j) (pos 0))

unfoldable pub some_blank : List ℤ → Bool
some_blank ws = some_below (m_of ws) (blank_row ws)

-- room is the length of the output, or of the checker's answer
unfoldable pub too_short : List ℤ → ℕ → Bool
too_short ws room = ltb room (answer_length ws)

-- refusals 1 to 6, then 10: the problem alone
unfoldable pub problem_tests : ℕ → List ℤ → List (Bool × ℕ)
problem_tests rows ws =
    (too_few ws, 1) ∷ (bad_size rows ws, 2) ∷ (bad_length ws, 3) ∷
    (bad_coefficient ws, 4) ∷ (bad_kind ws, 5) ∷ (bad_limit ws, 6)
    ∷ (some_blank ws, 10) ∷ []

-- within so many rows
abbrev pub problem_refusal_within : ℕ → List ℤ → ℕ
problem_refusal_within rows ws = first (problem_tests rows ws)

abbrev pub refusal_within : ℕ → List ℤ → ℕ → ℕ
refusal_within rows ws room = first (problem_tests rows ws ++ ((too_short ws room, 7) ∷ []))

-- within the most
unfoldable pub problem_refusal : List ℤ → ℕ
problem_refusal ws = problem_refusal_within most_rows ws

unfoldable pub refusal : List ℤ → ℕ → ℕ
refusal ws room = refusal_within most_rows ws room

-- as many rows as are asked for, and no more than the most
abbrev pub rows_within : ℕ → ℕ
rows_within rows = min rows most_rows

-- ---- all ranges together: what refusals 1 to 6 and 10 leave

-- a limit's word that is fine: in range, and 0 where the limit is missing
abbrev pub FineLimit : Bool → ℤ → Type 0
FineLimit true z = Within z largest_limit
FineLimit false z = z ≡ pos 0

pub record Accepted (rows : ℕ) (ws : List ℤ) : Type 0 where
  pub enough : 2 ≤ length ws
  pub n-least : pos 1 ≤ℤ word ws 0
  pub n-most : word ws 0 ≤ℤ pos most_columns
  pub m-least : pos 0 ≤ℤ word ws 1
  pub m-most : word ws 1 ≤ℤ pos rows
  pub exact : length ws ≡ 2 + m_of ws * n_of ws + 3 * vars_of ws
  pub coefficients : (i : ℕ) → i < m_of ws * n_of ws → Within (word ws (2 + i)) largest_coefficient
  pub kind-least : (v : ℕ) → v < vars_of ws → pos 0 ≤ℤ kind ws v
  pub kind-most : (v : ℕ) → v < vars_of ws → kind ws v ≤ℤ pos 15
  pub lower-marked : (v : ℕ) → v < vars_of ws → strict_lower (kind ws v) ≡ true → has_lower (kind ws v) ≡ true
  pub upper-marked : (v : ℕ) → v < vars_of ws → strict_upper (kind ws v) ≡ true → has_upper (kind ws v) ≡ true
  pub lowers : (v : ℕ) → v < vars_of ws → FineLimit (has_lower (kind ws v)) (lower_word ws v)
  pub uppers : (v : ℕ) → v < vars_of ws → FineLimit (has_upper (kind ws v)) (upper_word ws v)
  pub no-blank : (i : ℕ) → i < m_of ws → (j : ℕ) × (j < n_of ws) × (coefficient_word ws i j ≢ pos 0)
