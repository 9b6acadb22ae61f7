-- A pivot by place stands for the move of the state. The divisor of the mixed entries is that of the whole solved
-- tableau, since each of its numbers is 0, the common number or a cell.
--   product_is                            the new common number, before reduction
--   cell-mixed, mixed-flat                each mixed cell, by place
--   divisor-is, by-is                     the divisor, and with its sign
--   rowed-next, stands-next               the rows of the next state hold, and the next tableau stands for it
use Prim.Native.Nat.{ℕ, ◌≤◌, ◌<◌, ◌∣◌}
use native.Mathlib.Nat.{dvd_antisymm, dvd-zero}
use mathlib.Core.Path.{◌≡◌, ap, ap₂, refl, sym, ◌∙◌}
use mathlib.Core.Logic.{◌≢◌}
use mathlib.Core.List.{List}
use lib.IntN.{ℤ, pos, nat_abs, ◌*ℤ◌, *ℤ-zero}
use lib.ListN.{get_or}
use lib.Signed.{quot_z}
use Rattle.whole.specs.Values.{pairs}
use Rattle.whole.proofs.Numbers.Sizes.{product-nonzero}
use Rattle.whole.proofs.Lists.Tables.{filled_in, filled-out}
use Rattle.divisor.specs.Cells.{divisor_below, quotients}
use Rattle.divisor.specs.Signs.{signed_by}
use Rattle.divisor.proofs.Laws.Cells as cells
use Rattle.rules.specs.Problem.{Problem, vars}
use Rattle.rules.specs.Step.{State, Leaving, moved, common}
use Rattle.rules.specs.Tableau.{entry, solved, reduced, divisor_size, divisor, pivot}
use Rattle.rules.specs.Tableau as rules
use Rattle.rules.proofs.Tableau.Lowest.{Factored, factored, divisor-divides, divisor-greatest, reduced-entry}
use Rattle.rules.proofs.Tableau.Pivot.{rowed-moved}
use Rattle.rules.specs.Facts.State.{Rowed}
use Rattle.layout.specs.Layout.{most_entries, flat, row_at, column_at, live}
use Rattle.pivot.specs.Pivot.{mixed_cell, mixed_at, product, mix, by}
use Rattle.layout.proofs.Laws.Layout.{row-live, column-live}
use Rattle.tableau.specs.declared.Tableau.{Tableau}
use Rattle.tableau.specs.Parts.{cell, cell_at, basic_at, nonbasic_at}
use Rattle.tableau.specs.Pivot.{pivoted_laid, swapped_at}
use Rattle.tableau.specs.Stands.{Serves, Stands}
use Rattle.tableau.proofs.Laws.Pivot.Cells.{Kind, none-there, own, cell-there, entry-kind}
use Rattle.tableau.proofs.Laws.Live.{end, live-place, place-back}
use Rattle.tableau.proofs.Laws.Pivot.Mixed.{mixed-is}
use Rattle.tableau.proofs.Laws.Pivot.Places.{Turn, p, q, after_turn, pivot-is, turn-nonzero}
use Rattle.tableau.proofs.Laws.Pivot.Places.{common-nonzero, placed-next, sized-next}

module _ {P : Problem (ℤ × ℤ)} {t : Tableau} {s : State (ℤ × ℤ)} {r : Leaving (ℤ × ℤ)} {w : ℕ}
    (M : Turn P t s r w) where
  abbrev N : ℕ
  N = vars P

  abbrev after : State (ℤ × ℤ)
  after = moved pairs P s r w

  abbrev T1 : rules.Tableau
  T1 = solved N s.tableau r.variable w

  -- the parts of the pivot
  abbrev m : ℕ
  m = t.rows

  abbrev n : ℕ
  n = t.columns

  abbrev mixed : ℕ → ℤ
  mixed = mixed_at m n t.common t.entries (p M) (q M)

  abbrev new : ℤ
  new = product m n t.entries t.common (p M) (q M)

  abbrev mixes : List ℤ
  mixes = mix m n t.entries t.common (p M) (q M)

  abbrev part : ℤ
  part = by m n t.entries t.common (p M) (q M)

  abbrev g : ℕ
  g = divisor_below (end t) mixes new

  product_is : new ≡ T1.common
  unfolding solved
  product_is = ap₂ (λ a b. a *ℤ b) (pivot-is M) M.stands.numbers.common-is

  solved-nonzero : T1.common ≢ pos 0
  solved-nonzero e = product-nonzero (turn-nonzero M) (common-nonzero M) (product_is ∙ e)

  F : Factored N T1
  F = factored N T1 solved-nonzero

  rowed-next : Rowed pairs P after
  rowed-next = rowed-moved pairs P s M.rowed r w M.left M.entered

  -- ---- the cells by place and by row and column

  cell-mixed : (k : ℕ) → k < end t → get_or mixes k (pos 0) ≡ mixed k
  cell-mixed k h = filled_in most_entries (pos 0) (end t) mixed k h

  mixed-flat : (i j : ℕ) → i < P.m → j < P.n →
      mixed (flat m n i j) ≡ entry T1 (basic_at (after_turn M) i) (nonbasic_at (after_turn M) j)
  mixed-flat i j h k =
      let b = place-back M.stands.sized i j h k in
      ap₂ (mixed_cell m n t.common t.entries (p M) (q M)) b.0 b.1 ∙ mixed-is M i j h k

  -- ---- the divisor of the cells divides every number of the solved tableau

  g-common : g ∣ nat_abs T1.common
  g-common = rw (← product_is) (cells.cells-divide mixes new (end t)).0

  g-cell : (k : ℕ) → k < end t → g ∣ nat_abs (mixed k)
  g-cell k h = rw (← cell-mixed k h) ((cells.cells-divide mixes new (end t)).1 k h)

  g-entry : (v u : ℕ) → v < N → u < N → g ∣ nat_abs (entry T1 v u)
  unfolding moved pivot
  g-entry v u h k = go (entry-kind P (after_turn M) after rowed-next (placed-next M) v u h k)
    where
      go : Kind P (after_turn M) after v u → g ∣ nat_abs (entry T1 v u)
      go (none-there e) = rw (sym (F.of_entry v u h k) ∙ ap (λ z. F.by *ℤ z) e ∙ *ℤ-zero F.by) (dvd-zero g)
      go (own e) = rw (sym (F.of_entry v u h k) ∙ ap (λ z. F.by *ℤ z) e ∙ F.of-common) g-common
      go (cell-there i j a b e f) = rw (← e, ← f, ← mixed-flat i j a b)
          (g-cell (flat m n i j) (live-place M.stands.sized i j a b))

  -- ---- the divisor of the whole tableau divides each cell

  whole-cell : (k : ℕ) → k < end t → divisor_size N T1 ∣ nat_abs (get_or mixes k (pos 0))
  whole-cell k h =
      let a : row_at m n k < P.m = rw (← M.stands.sized.rows_is) (row-live m n k h) in
      let b : column_at m n k < P.n = rw (← M.stands.sized.columns-is) (column-live m n k h) in
      rw (cell-mixed k h, mixed-is M (row_at m n k) (column_at m n k) a b)
      ((divisor-divides N T1).1 (basic_at (after_turn M) (row_at m n k)) (nonbasic_at (after_turn M) (column_at m n k))
      ((placed-next M).in_row (row_at m n k) a).variable-in ((placed-next M).in-column (column_at m n k) b).variable-in)

  divisor-is : g ≡ divisor_size N T1
  divisor-is = dvd_antisymm (divisor-greatest N T1 g g-common g-entry)
      (cells.cells-greatest mixes new (end t) (divisor_size N T1)
      (rw product_is (divisor-divides N T1).0) whole-cell)

  by-is : part ≡ divisor N T1
  unfolding signed_by divisor
  by-is = ap₂ signed_by product_is divisor-is

  -- ---- the numbers afterwards

  common-next : (after_turn M).common ≡ common after
  unfolding swapped_at pivoted_laid moved pivot reduced
  common-next = ap₂ quot_z product_is by-is

  cell-live : (k : ℕ) → k < end t → cell (after_turn M) k ≡ quot_z (mixed k) (divisor N T1)
  unfolding swapped_at pivoted_laid
  cell-live k h = filled_in most_entries (pos 0) (end t) (quotients mixes part) k h
      ∙ ap₂ quot_z (cell-mixed k h) by-is

  cell-past : (k : ℕ) → end t ≤ k → cell (after_turn M) k ≡ pos 0
  unfolding swapped_at pivoted_laid
  cell-past k h = filled-out most_entries (pos 0) (end t) (quotients mixes part) k h

  entry_next : (v u : ℕ) → v < N → u < N → entry after.tableau v u ≡ quot_z (entry T1 v u) (divisor N T1)
  unfolding moved pivot
  entry_next v u h k = reduced-entry N T1 v u h k

  same_place : (i j : ℕ) → cell_at (after_turn M) i j ≡ cell (after_turn M) (flat m n i j)
  unfolding swapped_at pivoted_laid
  same_place i j = refl

  cell-next : (i j : ℕ) → i < P.m → j < P.n →
      cell_at (after_turn M) i j ≡ entry after.tableau (basic_at (after_turn M) i) (nonbasic_at (after_turn M) j)
  cell-next i j h k =
      same_place i j ∙ cell-live (flat m n i j) (live-place M.stands.sized i j h k)
      ∙ ap (λ z. quot_z z (divisor N T1)) (mixed-flat i j h k)
      ∙ sym (entry_next (basic_at (after_turn M) i) (nonbasic_at (after_turn M) j)
      ((placed-next M).in_row i h).variable-in
      ((placed-next M).in-column j k).variable-in)

  unused-next : (k : ℕ) → live P.m P.n ≤ k → cell (after_turn M) k ≡ pos 0
  unused-next k h = cell-past k (rw (M.stands.sized.rows_is, M.stands.sized.columns-is) h)

  serves-next : Serves P (after_turn M).limits
  unfolding swapped_at pivoted_laid
  serves-next = M.stands.serves

  pub stands-next : Stands P (after_turn M) after
  stands-next = record {
    sized = sized-next M;
    placed = placed-next M;
    numbers = record { common-is = common-next; cell-is = cell-next; unused = unused-next };
    serves = serves-next;
  }
