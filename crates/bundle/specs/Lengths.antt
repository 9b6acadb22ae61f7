-- Lengths that a file can be made of: few, none negative, and so small together that every place has 32 bits.
use Rattle.std.specs.Prelude.{List, ℕ, ◌<◌, ◌≤◌, ℤ, pos, length, ◌≤ℤ◌}
use Rattle.whole.specs.Sums.{sum}
use Rattle.rules.specs.Problem.{word}
use Rattle.rules.specs.Sizes.{most_bodies, most_file_words}

-- no length is negative
pub record Counts (lengths : List ℤ) : Type 0 where
  pub few : length lengths ≤ most_bodies
  pub least : (i : ℕ) → i < length lengths → pos 0 ≤ℤ word lengths i

-- .. and together they are no more words than a file has
pub record Fillable (lengths : List ℤ) : Type 0 where
  pub counts : Counts lengths
  pub total : sum (length lengths) (word lengths) ≤ℤ pos most_file_words
