-- What judging the words goes through, and what it leaves.
use Rattle.std.specs.Prelude.{◌≡◌, Bool, List, ℕ, ◌+◌, ◌*◌, ◌≤◌, ℤ, pos, length, ◌≤ℤ◌}
use Rattle.whole.specs.Below.{some_below}
use Rattle.rules.specs.Sizes.{most_vertices, most_time_rows}
use Rattle.rules.specs.Problem.{word, n_of, m_of}
use Rattle.rules.specs.Times.Words.{bad_end, bad_strict, bad_row_length, times_length, AcceptedTimes}

-- words whose sizes and whose length are fine
pub record TimeFramed (ws : List ℤ) : Type 0 where
  pub n-least : pos 1 ≤ℤ word ws 0
  pub n-few : n_of ws ≤ most_vertices
  pub m-few : m_of ws ≤ most_time_rows
  pub exact : length ws ≡ 2 + 4 * m_of ws

-- what is wrong with some row below k: an end, the strict word, the length
pub record Faulty (ws : List ℤ) (k : ℕ) (vertex strict span : Bool) : Type 0 where
  pub ends : vertex ≡ some_below k (bad_end ws)
  pub stricts : strict ≡ some_below k (bad_strict ws)
  pub lengths : span ≡ some_below k (bad_row_length ws)

-- what refusals 11 to 16 leave
abbrev pub Fine : List ℤ → Type 0
Fine ws = AcceptedTimes ws (times_length ws)
