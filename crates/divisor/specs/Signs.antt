-- A size with the sign of a number.
use Rattle.std.specs.Prelude.{ℕ, cond, ℤ, pos, neg_ℤ}
use Rattle.whole.specs.Numbers.{is_neg}

-- minus the size where the number is below 0, else the size
unfoldable pub signed_by : ℤ → ℕ → ℤ
signed_by sign size = cond (is_neg sign) (neg_ℤ (pos size)) (pos size)
