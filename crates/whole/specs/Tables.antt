-- Lists made of a function: `table k f` is f 0, f 1, .., f (k - 1), and `matrix k f` is k rows of k numbers each.
-- `filled size rest k f` is an array of `size` elements, the first k by f and the others `rest`.
use Rattle.std.specs.Prelude.{List, [], ◌∷◌, ◌++◌, ℕ, zero, suc, ℤ, drop, replicate}

-- f a, f (a + 1), .., k of them
unfoldable pub table_from : {A : Type 0} → ℕ → ℕ → (ℕ → A) → List A
table_from a zero f = []
table_from a (suc k) f = f a ∷ table_from (suc a) k f

abbrev pub table : {A : Type 0} → ℕ → (ℕ → A) → List A
table k f = table_from 0 k f

unfoldable pub matrix : ℕ → (ℕ → ℕ → ℤ) → List (List ℤ)
matrix k f = table k (λ v. table k (f v))

unfoldable pub filled : {A : Type 0} → ℕ → A → ℕ → (ℕ → A) → List A
filled size rest k f = table k f ++ drop k (replicate size rest)
