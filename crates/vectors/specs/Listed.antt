-- An answer of time rows as the test program looks at it: whether it names a cycle, how many rows it lists, and which.
use Rattle.std.specs.Prelude.{Bool, cond, ◌&&◌, List, ℕ, ◌+◌, ◌-◌, min, eqb, leb, ℤ, pos, nat_abs, length}
use Rattle.whole.specs.Below.{some_below}
use Rattle.whole.specs.Numbers.{eq_z, is_neg}
use Rattle.rules.specs.Problem.{word}

-- the number is 0, there are two words, and the first is 2
unfoldable pub is_told : ℕ → List ℤ → Bool
is_told number out = eqb number 0 && leb 2 (length out) && eq_z (word out 0) (pos 2)

-- word 1, but not below 0, and no more than there are words behind it
unfoldable pub rows_told : List ℤ → ℕ
rows_told out = cond (is_neg (word out 1)) 0 (min (nat_abs (word out 1)) (length out - 2))

-- the row is one of so many that are listed
unfoldable pub is_listed : List ℤ → ℕ → ℤ → Bool
is_listed out rows row = some_below rows (λ i. eq_z (word out (2 + i)) row)
