-- What the code's lengths and arrays stand for. A length is a pair, minutes and small amounts, as one number: the pair
-- with 1 / 65,536 put for the small amount, times 65,536. Small parts of fewer than 32,768 keep the order of the pairs.
use Rattle.std.specs.Prelude.{List, ℕ, ◌+◌, ◌*◌, ◌/◌, ◌%◌, ℤ, pos, nat_abs, get_or, ◌≤ℤ◌}
use Rattle.whole.specs.Numbers.{Within}
use Rattle.whole.specs.Values.{mixed}
use Rattle.rules.specs.Sizes.{most_vertices, most_time_rows, largest_length}
use Rattle.lengths.specs.declared.Length.{Length}

-- small amounts to a minute, in the code's numbers
abbrev pub unit : ℕ
unit = 65536

abbrev pub key_of : ℤ × ℤ → ℤ
key_of p = mixed (pos 1) (pos unit) p

abbrev pub length_of : Length → ℤ
length_of l = l.0

-- the length of no rows
abbrev pub no_rows : Length
no_rows = record { 0 = pos 0 }

-- ---- sizes

-- the looks of k passes and at i rows more
abbrev pub looks_made : ℕ → ℕ → ℕ
looks_made k i = most_time_rows * k + i

-- as far from 0 as so many rows may lead, in both parts
pub record Near (p : ℤ × ℤ) (rows : ℕ) : Type 0 where
  pub plain : Within p.0 (largest_length * rows)
  pub small : Within p.1 rows

-- at most what all passes add up to
abbrev pub ModestLength : Length → Type 0
ModestLength l = Within (length_of l) ((unit * largest_length + 1) * looks_made most_vertices 0)

-- ---- times

-- a distance that may be one of a time: not above 0
pub record Passed (l : Length) : Type 0 where
  pub modest : ModestLength l
  pub low : length_of l ≤ℤ pos 0

-- the parts of the time of a vertex at this distance
abbrev pub plain_part : Length → ℤ
plain_part l = pos (nat_abs (length_of l) / unit)

abbrev pub small_part : Length → ℤ
small_part l = pos (nat_abs (length_of l) % unit)

-- ---- arrays

-- the distance of v, as a length and as its number; past an array's end these are 0
abbrev pub length_at : List Length → ℕ → Length
length_at best v = get_or best v no_rows

abbrev pub key_at : List Length → ℕ → ℤ
key_at best v = length_of (length_at best v)
