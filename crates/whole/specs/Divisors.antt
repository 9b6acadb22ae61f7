-- The greatest common divisor of two natural numbers by Euclid. `gcd a 0` is a, so the divisor of 0 and 0 is 0.
use Rattle.std.specs.Prelude.{ℕ, zero, suc, ◌%◌}

-- the second number falls at each turn, so its successor is enough fuel
unfoldable pub gcd_turns : ℕ → ℕ → ℕ → ℕ
gcd_turns zero a b = a
gcd_turns (suc k) a zero = a
gcd_turns (suc k) a (suc b) = gcd_turns k (suc b) (a % suc b)

unfoldable pub gcd : ℕ → ℕ → ℕ
gcd a b = gcd_turns (suc b) a b
