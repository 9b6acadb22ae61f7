-- The words of a problem whose sizes and whose length are fine, with n and m at hand: what the loops over words ask.
-- And the tests of a variable, which one loop makes.
use Rattle.std.specs.Prelude.{ℕ, ◌+◌, ◌*◌, ◌≤◌, ◌≡◌, Bool, ◌||◌, List, ℤ, length}
use Rattle.rules.specs.Limit.{bad_kind_word, bad_limit_word, has_lower, has_upper}
use Rattle.rules.specs.Refusal.{bad_kind, bad_limit}
use Rattle.rules.specs.Sizes.{most_columns, most_rows}
use Rattle.rules.specs.Problem.{n_of, m_of}
use Rattle.judge.specs.declared.Asked.{Asked}
use Rattle.judge.specs.declared.Asked.TheVariants.{Kind, Limits}

pub record Framed (ws : List ℤ) (n m : ℕ) : Type 0 where
  pub columns-are : n ≡ n_of ws
  pub rows_are : m ≡ m_of ws
  pub few-columns : n ≤ most_columns
  pub few-rows : m ≤ most_rows
  pub exact : length ws ≡ 2 + m * n + 3 * (n + m)

-- the test of a variable's kind, or of its limits
abbrev pub bad_by : Asked → ℤ → ℤ → ℤ → Bool
bad_by Kind kind lower upper = bad_kind_word kind
bad_by Limits kind lower upper = bad_limit_word (has_lower kind) lower || bad_limit_word (has_upper kind) upper

-- .. at some variable
abbrev pub bad_variable : Asked → List ℤ → Bool
bad_variable Kind ws = bad_kind ws
bad_variable Limits ws = bad_limit ws
