-- The sum of a row: one column more, its size, and where every value is 0.
--   row_more, row_within, row-nothing
use mathlib.Core.List.{List}
use mathlib.Core.Path.{◌≡◌, refl, ap, ◌∙◌}
use Prim.Native.Nat.{ℕ, ◌+◌, ◌*◌}
use native.Mathlib.Numerals.{add-one}
use lib.IntN.{ℤ, pos, *ℤ-zero, ◌+ℤ◌, ◌*ℤ◌}
use lib.ListN.{get_or}
use Rattle.whole.specs.Numbers.{Within}
use Rattle.whole.specs.Sums.{sum_by}
use Rattle.whole.proofs.Numbers.Sizes.{within-*}
use Rattle.whole.proofs.Numbers.Sums.{sum-within, sum-zero}
use Rattle.rules.specs.Sizes.{largest_number}
use Rattle.layout.specs.Layout.{flat, entry_in}
use Rattle.search.specs.Search.{part_sum, sum_laid}

module _ (m n : ℕ) (l x : List ℤ) (i : ℕ) where
  pub row_more : (j : ℕ) → part_sum m n l x i (j + 1) ≡ part_sum m n l x i j +ℤ entry_in m n l i j *ℤ get_or x j (pos 0)
  unfolding sum_laid sum_by
  row_more j = rw add-one refl

  pub row_within : {b : ℕ} → ((k : ℕ) → Within (get_or l k (pos 0)) largest_number) →
      ((j : ℕ) → Within (get_or x j (pos 0)) b) → (k : ℕ) → Within (part_sum m n l x i k) (k * (largest_number * b))
  unfolding sum_laid
  row_within h g k = sum-within k (λ j p. within-* (h (flat m n i j)) (g j))

  pub row-nothing : ((j : ℕ) → get_or x j (pos 0) ≡ pos 0) → (k : ℕ) → part_sum m n l x i k ≡ pos 0
  unfolding sum_laid
  row-nothing g k = sum-zero k (λ j. entry_in m n l i j *ℤ get_or x j (pos 0))
      (λ j p. ap (λ z. entry_in m n l i j *ℤ z) (g j) ∙ *ℤ-zero (entry_in m n l i j))
