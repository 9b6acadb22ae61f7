-- The border of a pivot: with it one formula gives the cells of all four kinds.
--   kinds                             .. over plain numbers
--   besides-bear, aboves-bear         its row and its column lie in the array, and bear the common number
--   bordered                          its numbers are in range
--   beside-is, above-is               what stands in it
--   difference-is                        a cell by the border is the definition's
use Prim.Native.Nat.{ℕ, ◌+◌, ◌≤◌, ◌<◌}
use native.Mathlib.Nat.{le_trans}
use native.Mathlib.Decide.{ℕ_discrete}
use native.Mathlib.Omega.{arith}
use mathlib.Core.Path.{◌≡◌, refl, ap, ap₂, sym, ◌∙◌}
use mathlib.Core.List.{List, [], ◌∷◌}
use borrow.Author.Tests.{eq-eqb, ne_eqb}
use lib.Dec.{eqb, lit≤}
use lib.IntN.{ℤ, pos, neg_ℤ, nat_abs, ◌+ℤ◌, ◌-ℤ◌, ◌*ℤ◌}
use lib.ListN.{get_or}
use Rattle.whole.specs.Numbers.{Within, AllWithin}
use Rattle.whole.proofs.Ring.Reify.{reify}
use Rattle.whole.proofs.Numbers.Sizes.{abs-+, abs_neg, all-within-filled}
use Rattle.whole.proofs.Lists.Tables.{filled_in}
use Rattle.whole.proofs.Ring.Tools.{ring-at}
use Rattle.rules.specs.Sizes.{most_rows, largest_number}
use Rattle.pivot.specs.declared.border.Border.{Border}
use Rattle.layout.specs.declared.Strip.{Strip}
use Rattle.layout.specs.Layout.{flat, row_at, column_at, live, along, row_strip, column_strip, entry_in}
use Rattle.pivot.specs.Pivot.{mixed_of, mixed_laid, mixed_at, Pivotable}
use Rattle.pivot.specs.Border.{raised_by, raised_at, raised_strip, Bears, border_at, Bordered, difference_of}
use Rattle.pivot.specs.Border.{difference_at}
use Rattle.layout.proofs.Laws.Layout.{flat_in, flat_back, row-live, column-live}
use Rattle.layout.proofs.Laws.Layout.{row-strip, row_count, column-strip, column-count}

-- ---- over plain numbers: p is the pivot, c the common number

at-pivot : (p c : ℤ) → p *ℤ p -ℤ (p +ℤ c) *ℤ (p +ℤ neg_ℤ c) ≡ c *ℤ c
at-pivot p c = ring-at (p ∷ c ∷ []) (search reify depth 30) refl

in_row : (p c x : ℤ) → p *ℤ x -ℤ (p +ℤ c) *ℤ x ≡ neg_ℤ (c *ℤ x)
in_row p c x = ring-at (p ∷ c ∷ x ∷ []) (search reify depth 30) refl

in-column : (p c y : ℤ) → p *ℤ y -ℤ y *ℤ (p +ℤ neg_ℤ c) ≡ y *ℤ c
in-column p c y = ring-at (p ∷ c ∷ y ∷ []) (search reify depth 30) refl

kinds : (A : ℕ → ℕ → ℤ) (c : ℤ) (p q i j : ℕ) →
    difference_of (A p q) (A i j) (raised_by (eqb i p) (A i q) c) (raised_by (eqb j q) (A p j) (neg_ℤ c))
    ≡ mixed_of (eqb i p) (eqb j q) c (A p q) (A i j) (A i q) (A p j)
kinds A c p q i j = go (ℕ_discrete i p) (ℕ_discrete j q)
  where
    go : Dec (i ≡ p) → Dec (j ≡ q) →
        difference_of (A p q) (A i j) (raised_by (eqb i p) (A i q) c) (raised_by (eqb j q) (A p j) (neg_ℤ c))
        ≡ mixed_of (eqb i p) (eqb j q) c (A p q) (A i j) (A i q) (A p j)
    go (yes e) (yes f) = rw (eq-eqb i p e, eq-eqb j q f, e, f) (at-pivot (A p q) c)
    go (yes e) (no n) = rw (eq-eqb i p e, ne_eqb j q n, e) (in_row (A p q) c (A p j))
    go (no n) (yes f) = rw (ne_eqb i p n, eq-eqb j q f, f) (in-column (A p q) c (A i q))
    go (no n) (no o) = rw (ne_eqb i p n, ne_eqb j q o) refl

-- ---- the border

strip-within : {l : List ℤ} {w : Strip} {at : ℕ} {x : ℤ} → AllWithin l largest_number → Bears l w at x →
    AllWithin (raised_strip l w at x) largest_number
unfolding raised_at
strip-within {l} {w} {at} {x} a B =
    all-within-filled most_rows w.count (raised_at l w at x) (λ i h. one i h (ℕ_discrete i at))
  where
    one : (i : ℕ) → i < w.count → Dec (i ≡ at) →
        Within (raised_by (eqb i at) (get_or l (along w i) (pos 0)) x) largest_number
    one i h (yes e) = rw (eq-eqb i at e, e) (B.bears (let z = e in omega arith))
    one i h (no n) = rw (ne_eqb i at n) (a.each (along w i))

module _ {m n : ℕ} {l : List ℤ} {c : ℤ} {p q : ℕ} (h : Pivotable m n l c p q)
    (near : nat_abs (entry_in m n l p q) + nat_abs c ≤ largest_number) where
  pub besides-bear : Bears l (column_strip m n q) p c
  besides-bear = record {
    few = rw (column-count m n q) h.few-rows;
    in_array = λ i b. rw (column-strip m n i q)
        (flat_in m n i q (rw (column-count m n q) at b) h.in-columns h.few-rows h.few-columns);
    bears = λ b. rw (column-strip m n p q) (record { within = le_trans (abs-+ (entry_in m n l p q) c) near });
  }

  pub aboves-bear : Bears l (row_strip m n p) q (neg_ℤ c)
  aboves-bear = record {
    few = rw (row_count m n p) (le_trans h.few-columns (lit≤ tt));
    in_array = λ j b. rw (row-strip m n p j)
        (flat_in m n p j h.in_rows (rw (row_count m n p) at b) h.few-rows h.few-columns);
    bears = λ b. rw (row-strip m n p q)
        (record { within = le_trans (abs-+ (entry_in m n l p q) (neg_ℤ c)) (rw (abs_neg c) near) });
  }

  pub bordered : Bordered (border_at m n l c p q)
  bordered = record {
    few-rows = h.few-rows;
    few-columns = h.few-columns;
    pivot-within = h.all-within.each (flat m n p q);
    besides-within = strip-within h.all-within besides-bear;
    aboves-within = strip-within h.all-within aboves-bear;
  }

module _ (m n : ℕ) (l : List ℤ) (c : ℤ) (p q : ℕ) where
  abbrev made : Border
  made = border_at m n l c p q

  pub beside-is : (i : ℕ) → i < m → get_or made.besides i (pos 0) ≡ raised_by (eqb i p) (entry_in m n l i q) c
  unfolding raised_at
  beside-is i b =
      filled_in most_rows (pos 0) (column_strip m n q).count (raised_at l (column_strip m n q) p c) i
      (rw (column-count m n q) b)
      ∙ ap (λ k. raised_by (eqb i p) (get_or l k (pos 0)) c) (column-strip m n i q)

  pub above-is : (j : ℕ) → j < n → get_or made.aboves j (pos 0) ≡ raised_by (eqb j q) (entry_in m n l p j) (neg_ℤ c)
  unfolding raised_at
  above-is j b =
      filled_in most_rows (pos 0) (row_strip m n p).count (raised_at l (row_strip m n p) q (neg_ℤ c)) j
      (rw (row_count m n p) b)
      ∙ ap (λ k. raised_by (eqb j q) (get_or l k (pos 0)) (neg_ℤ c)) (row-strip m n p j)

  pub difference-is : (k : ℕ) → k < live m n → difference_at l made k ≡ mixed_at m n c l p q k
  unfolding mixed_laid
  difference-is k b =
      let i = row_at m n k in
      let j = column_at m n k in
      ap₂ (λ x y. difference_of (entry_in m n l p q) (get_or l k (pos 0)) x y)
      (beside-is i (row-live m n k b)) (above-is j (column-live m n k b))
      ∙ ap (λ e. difference_of (entry_in m n l p q) (get_or l e (pos 0)) (raised_by (eqb i p) (entry_in m n l i q) c)
      (raised_by (eqb j q) (entry_in m n l p j) (neg_ℤ c))) (sym (flat_back m n k))
      ∙ kinds (entry_in m n l) c p q i j
