-- The first cells of a list: their greatest common divisor with a number, and their quotients.
use Rattle.std.specs.Prelude.{ℕ, List, ◌++◌, ◌≢◌, ℤ, pos, nat_abs, drop, get_or}
use Rattle.std.specs.Int.Signed.{quot_z}
use Rattle.whole.specs.Below.{fold_below}
use Rattle.whole.specs.Divisors.{gcd}
use Rattle.whole.specs.Tables.{table}

-- the largest size of a signed number of 64 bits whose opposite is one too
abbrev pub largest_size : ℕ
largest_size = 9223372036854775807

-- a number that may divide
pub record Divides (by : ℤ) : Type 0 where
  pub nonzero : by ≢ pos 0

-- the greatest common divisor of a number and the first k cells
unfoldable pub divisor_below : ℕ → List ℤ → ℤ → ℕ
divisor_below k l common = fold_below k (λ i g. gcd (nat_abs (get_or l i (pos 0))) g) (nat_abs common)

abbrev pub quotients : List ℤ → ℤ → ℕ → ℤ
quotients l by k = quot_z (get_or l k (pos 0)) by

-- the first k cells divided, the others as they were
abbrev pub divided_cells : ℕ → List ℤ → ℤ → List ℤ
divided_cells k l by = table k (quotients l by) ++ drop k l
