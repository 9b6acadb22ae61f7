-- Sums over the numbers below k, by a zero and an addition; and of whole numbers. The sum of nothing is the zero.
use Rattle.std.specs.Prelude.{ℕ, zero, suc, ℤ, pos, ◌+ℤ◌}

unfoldable pub sum_by : {X : Type 0} → X → (X → X → X) → ℕ → (ℕ → X) → X
sum_by nil plus zero f = nil
sum_by nil plus (suc k) f = plus (sum_by nil plus k f) (f k)

abbrev pub sum : ℕ → (ℕ → ℤ) → ℤ
sum k f = sum_by (pos 0) ◌+ℤ◌ k f
