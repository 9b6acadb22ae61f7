-- Searches and tests over the numbers below k, each in rising order.
-- `lowest k f`: the answer of f at the lowest number below k that has one. `some_below`, `all_below`: a test passes at
-- one, at each. `fold_below k g a`: g 0, g 1, .. applied one after the other, a first. Below 0 there is nothing: none,
-- false, true, a.
use Rattle.std.specs.Prelude.{Bool, true, false, ℕ, zero, suc}
use Rattle.std.proofs.Math.Option.{Option, none, some}

unfoldable pub lowest : {A : Type 0} → ℕ → (ℕ → Option A) → Option A
lowest zero f = none
lowest (suc k) f = elim (lowest k f) [ none ↦ f k | some a ↦ some a ]

unfoldable pub some_below : ℕ → (ℕ → Bool) → Bool
some_below zero f = false
some_below (suc k) f = elim (some_below k f) [ true ↦ true | false ↦ f k ]

unfoldable pub all_below : ℕ → (ℕ → Bool) → Bool
all_below zero f = true
all_below (suc k) f = elim (all_below k f) [ true ↦ f k | false ↦ false ]

unfoldable pub fold_below : {A : Type 0} → ℕ → (ℕ → A → A) → A → A
fold_below zero g a = a
fold_below (suc k) g a = g k (fold_below k g a)
