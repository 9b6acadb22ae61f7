-- Both orders of the entries hold the same numbers after any pivot.
--   cell-filled, same_back      an array filled by places; the same entries, the other way round
--   divisor-same, small_same    their divisor and their range test
--   same-pivot                  after any pivot: the same common number, the same range verdict, the same entries
use Prim.Native.Nat.{ℕ, ◌<◌, ◌∣◌}
use native.Mathlib.Nat.{dvd_antisymm}
use mathlib.Core.Bool.{true, ◌&&◌}
use mathlib.Core.List.{List}
use mathlib.Core.Path.{◌≡◌, ap, ap₂, refl, sym, ◌∙◌}
use lib.IntN.{ℤ, pos, nat_abs, ◌*ℤ◌}
use lib.ListN.{get_or}
use lib.Signed.{quot_z}
use Rattle.whole.specs.Below.{all_below}
use Rattle.whole.specs.Tables.{filled}
use Rattle.whole.proofs.Lists.Below.{all-each, all_of}
use Rattle.whole.proofs.Bools.{same_tests}
use Rattle.whole.proofs.Lists.Tables.{filled_in}
use Rattle.divisor.specs.Cells.{divisor_below, quotients}
use Rattle.divisor.specs.Signs.{signed_by}
use Rattle.divisor.proofs.Laws.Cells.{cells-divide, cells-greatest}
use Rattle.layout.specs.Layout.{Order, most_entries, flat_laid, row_laid, column_laid, live, entry_laid}
use Rattle.pivot.specs.Pivot.{mixed_laid, mix_laid, product_laid, by_laid, common_laid, entries_laid}
use Rattle.pivot.specs.Pivot.{in_range, small_below}
use Rattle.pivot.specs.TwoOrders.{SameCells, SamePivot}
use Rattle.layout.proofs.Laws.Layout.{row_laid_lem, column-laid, flat-laid-back, flat-laid-live, row-laid-live}
use Rattle.layout.proofs.Laws.Layout.{column-laid-live}

-- an array filled by the places of its cells
pub cell-filled : (o : Order) (m n : ℕ) (f : ℕ → ℕ → ℤ) (i j : ℕ) → i < m → j < n →
    entry_laid o m n (filled most_entries (pos 0) (live m n) (λ k. f (row_laid o m n k) (column_laid o m n k))) i j ≡
    f i j
cell-filled o m n f i j h k =
    filled_in most_entries (pos 0) (live m n) (λ k. f (row_laid o m n k) (column_laid o m n k)) (flat_laid o m n i j)
    (flat-laid-live o m n i j h k)
    ∙ ap₂ f (row_laid_lem o m n i j h k) (column-laid o m n i j h k)

same_back : {o u : Order} {m n : ℕ} {l r : List ℤ} → SameCells o u m n l r → SameCells u o m n r l
same_back S = record { same-cell = λ i j h k. sym (S.same-cell i j h k) }

module _ {o u : Order} {m n : ℕ} {l r : List ℤ} (S : SameCells o u m n l r) where
  -- what holds of each live cell of one array holds of each of the other
  each_live : (Q : ℤ → Type 0) → ((k : ℕ) → k < live m n → Q (get_or l k (pos 0))) →
      (k : ℕ) → k < live m n → Q (get_or r k (pos 0))
  each_live Q g k h =
      let a = row-laid-live u m n k h in let b = column-laid-live u m n k h in
      rw (← e, ← S.same-cell (row_laid u m n k) (column_laid u m n k) a b) (g _ (flat-laid-live o m n _ _ a b))
    where
      e : entry_laid u m n r (row_laid u m n k) (column_laid u m n k) ≡ get_or r k (pos 0)
      e = ap (λ x. get_or r x (pos 0)) (flat-laid-back u m n k)

  divisor-divides-other : (d : ℤ) → divisor_below (live m n) l d ∣ divisor_below (live m n) r d
  divisor-divides-other d = let g = cells-divide l d (live m n) in
      cells-greatest r d (live m n) _ g.0 (each_live (λ z. divisor_below (live m n) l d ∣ nat_abs z) g.1)

  in-range-other : all_below (live m n) (λ k. in_range (get_or l k (pos 0))) ≡ true →
      all_below (live m n) (λ k. in_range (get_or r k (pos 0))) ≡ true
  in-range-other e = all_of (live m n) _ (each_live (λ z. in_range z ≡ true) (all-each (live m n) _ e))

module _ {o u : Order} {m n : ℕ} {l r : List ℤ} (S : SameCells o u m n l r) (d : ℤ) where
  divisor-same : divisor_below (live m n) l d ≡ divisor_below (live m n) r d
  divisor-same = dvd_antisymm (divisor-divides-other S d) (divisor-divides-other (same_back S) d)

  small_same : small_below (live m n) l d ≡ small_below (live m n) r d
  unfolding small_below
  small_same = ap (λ b. in_range d && b) (same_tests _ _ (in-range-other S) (in-range-other (same_back S)))

-- ---- a pivot

module _ {o u : Order} {m n : ℕ} {l r : List ℤ} (S : SameCells o u m n l r) (c : ℤ) (p q : ℕ)
    (a : p < m) (b : q < n) where
  mixed-same : (i j : ℕ) → i < m → j < n → mixed_laid o m n c l p q i j ≡ mixed_laid u m n c r p q i j
  unfolding mixed_laid
  mixed-same i j h k =
      rw (S.same-cell p q a b, S.same-cell i j h k, S.same-cell i q h b, S.same-cell p j a k) refl

  mix-same : SameCells o u m n (mix_laid o m n c l p q) (mix_laid u m n c r p q)
  mix-same = record {
    same-cell = λ i j h k. cell-filled o m n (mixed_laid o m n c l p q) i j h k ∙ mixed-same i j h k
        ∙ sym (cell-filled u m n (mixed_laid u m n c r p q) i j h k);
  }

  product-same : product_laid o m n l c p q ≡ product_laid u m n r c p q
  product-same = ap (λ z. z *ℤ c) (S.same-cell p q a b)

  by-same : by_laid o m n l c p q ≡ by_laid u m n r c p q
  by-same = ap₂ signed_by product-same
      (divisor-same mix-same (product_laid o m n l c p q)
      ∙ ap (divisor_below (live m n) (mix_laid u m n c r p q)) product-same)

  common-same : common_laid o m n l c p q ≡ common_laid u m n r c p q
  common-same = ap₂ quot_z product-same by-same

  -- a cell after it
  module _ (i j : ℕ) (h : i < m) (k : j < n) where
    divided : (x : Order) (w : List ℤ) → entry_laid x m n (entries_laid x m n w c p q) i j
        ≡ quot_z (entry_laid x m n (mix_laid x m n c w p q) i j) (by_laid x m n w c p q)
    divided x w = filled_in most_entries (pos 0) (live m n) (quotients (mix_laid x m n c w p q) (by_laid x m n w c p q))
        (flat_laid x m n i j) (flat-laid-live x m n i j h k)

    after_same : entry_laid o m n (entries_laid o m n l c p q) i j ≡ entry_laid u m n (entries_laid u m n r c p q) i j
    after_same = divided o l ∙ ap₂ quot_z (mix-same.same-cell i j h k) by-same ∙ sym (divided u r)

  entries-same : SameCells o u m n (entries_laid o m n l c p q) (entries_laid u m n r c p q)
  entries-same = record { same-cell = after_same }

  pub same-pivot : SamePivot o u m n l r c p q
  same-pivot = record {
    same-common = common-same;
    same-range = small_same entries-same (common_laid o m n l c p q)
        ∙ ap (small_below (live m n) (entries_laid u m n r c p q)) common-same;
    same_entries = entries-same;
  }
