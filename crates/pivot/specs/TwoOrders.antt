-- The same entries in two orders, which may be by rows and by columns.
use Rattle.std.specs.Prelude.{List, ◌≡◌, ℕ, ◌<◌, ℤ}
use Rattle.layout.specs.Layout.{Order, entry_laid}
use Rattle.pivot.specs.Pivot.{common_laid, entries_laid, fits_laid}

-- two arrays hold the same entries of m rows and n columns, l in order o and r in order u
pub record SameCells (o u : Order) (m n : ℕ) (l r : List ℤ) : Type 0 where
  pub same-cell : (i j : ℕ) → i < m → j < n → entry_laid o m n l i j ≡ entry_laid u m n r i j

-- after the pivot of row place p and column place q of both: the same common number, the same range verdict, the same
-- entries
pub record SamePivot (o u : Order) (m n : ℕ) (l r : List ℤ) (common : ℤ) (p q : ℕ) : Type 0 where
  pub same-common : common_laid o m n l common p q ≡ common_laid u m n r common p q
  pub same-range : fits_laid o m n l common p q ≡ fits_laid u m n r common p q
  pub same_entries : SameCells o u m n (entries_laid o m n l common p q) (entries_laid u m n r common p q)
