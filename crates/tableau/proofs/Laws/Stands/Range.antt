-- The range test by place, of any tableau that stands for a state: it is the state's, and what passes it is in range.
--   small_is       the test of the live cells is the test of the whole tableau by variable
--   cells-small    what passes the test may stand in a tableau
use Prim.Native.Nat.{ℕ, ◌<◌}
use native.Mathlib.Omega.{arith}
use native.Mathlib.Decide.{dec_lt}
use mathlib.Core.Path.{◌≡◌, refl, ap, sym, ◌∙◌}
use mathlib.Core.Bool.{Bool, true}
use lib.IntN.{ℤ, pos}
use Rattle.whole.specs.Below.{all_below}
use Rattle.whole.specs.Numbers.{Within, within}
use Rattle.whole.specs.Values.{pairs}
use Rattle.whole.proofs.Lists.Below.{all-each, all_of}
use Rattle.whole.proofs.Bools.{and-true, and-of, same_tests}
use Rattle.whole.proofs.Tells.{tells-within}
use Rattle.rules.specs.Problem.{Problem, vars}
use Rattle.rules.specs.Sizes.{largest_number}
use Rattle.rules.specs.Step.{State}
use Rattle.rules.specs.Tableau.{entry, small}
use Rattle.rules.specs.Facts.State.{Rowed}
use Rattle.layout.specs.Layout.{flat, row_at, column_at}
use Rattle.pivot.specs.Pivot.{in_range, small_below}
use Rattle.layout.proofs.Laws.Layout.{flat_back, row-live, column-live}
use Rattle.tableau.specs.declared.Tableau.{Tableau}
use Rattle.tableau.specs.Parts.{cell, basic_at, nonbasic_at}
use Rattle.tableau.specs.Pivot.{Cells}
use Rattle.tableau.specs.Stands.{Stands}
use Rattle.tableau.proofs.Laws.Pivot.Cells.{Kind, none-there, own, cell-there, entry-kind}
use Rattle.tableau.proofs.Laws.Live.{end, live-place}

zero_in : in_range (pos 0) ≡ true
unfolding within
zero_in = refl

module _ {P : Problem (ℤ × ℤ)} {t : Tableau} {s : State (ℤ × ℤ)} (St : Stands P t s) where
  abbrev N : ℕ
  N = vars P

  abbrev fine : ℕ → Bool
  fine k = in_range (cell t k)

  abbrev m : ℕ
  m = t.rows

  abbrev n : ℕ
  n = t.columns

  row-used : (k : ℕ) → k < end t → row_at m n k < P.m
  row-used k h = rw (← St.sized.rows_is) (row-live m n k h)

  column-used : (k : ℕ) → k < end t → column_at m n k < P.n
  column-used k h = rw (← St.sized.columns-is) (column-live m n k h)

  -- the entry at a live place
  cell-used : (k : ℕ) → k < end t →
      cell t k ≡ entry s.tableau (basic_at t (row_at m n k)) (nonbasic_at t (column_at m n k))
  cell-used k h = ap (cell t) (sym (flat_back m n k))
      ∙ St.numbers.cell-is (row_at m n k) (column_at m n k) (row-used k h) (column-used k h)

  pub small_is : Rowed pairs P s → small_below (end t) t.entries t.common ≡ small N s.tableau
  unfolding small_below small
  small_is R = same_tests _ _ to back
    where
      to : small_below (end t) t.entries t.common ≡ true → small N s.tableau ≡ true
      to e =
          let z = and-true _ _ e in
          and-of (ap in_range (sym St.numbers.common-is) ∙ z.0)
          (all_of N _ (λ v h. all_of N _ (λ u k. each v u h k z.0 z.1)))
        where
          each : (v u : ℕ) → v < N → u < N → in_range t.common ≡ true → all_below (end t) fine ≡ true →
              in_range (entry s.tableau v u) ≡ true
          each v u h k c a = go (entry-kind P t s R St.placed v u h k)
            where
              go : Kind P t s v u → in_range (entry s.tableau v u) ≡ true
              go (none-there z) = rw z zero_in
              go (own z) = rw (z, ← St.numbers.common-is) c
              go (cell-there i j l r f d) =
                  rw (← f, ← d, ← St.numbers.cell-is i j l r)
                  (all-each (end t) fine a (flat m n i j) (live-place St.sized i j l r))

      back : small N s.tableau ≡ true → small_below (end t) t.entries t.common ≡ true
      back e =
          let z = and-true _ _ e in
          and-of (ap in_range St.numbers.common-is ∙ z.0)
          (all_of (end t) fine (λ k h. each k z.1 h))
        where
          each : (k : ℕ) → all_below N (λ v. all_below N (λ u. within largest_number (entry s.tableau v u))) ≡ true →
              k < end t → fine k ≡ true
          each k a h = rw (cell-used k h)
              (all-each N _ (all-each N _ a (basic_at t (row_at m n k))
              (St.placed.in_row (row_at m n k) (row-used k h)).variable-in)
              (nonbasic_at t (column_at m n k)) (St.placed.in-column (column_at m n k) (column-used k h)).variable-in)

  pub cells-small : small_below (end t) t.entries t.common ≡ true → Cells t
  unfolding small_below
  cells-small e = let z = and-true _ _ e in
      record {
        common-within = (tells-within largest_number t.common).if-true z.0;
        cell-within = λ k. go k z.1 (dec_lt k (end t));
      }
    where
      go : (k : ℕ) → all_below (end t) fine ≡ true → Dec (k < end t) → Within (cell t k) largest_number
      go k a (yes h) = (tells-within largest_number (cell t k)).if-true (all-each (end t) fine a k h)
      go k a (no h) = rw (St.numbers.unused k (rw (← St.sized.rows_is, ← St.sized.columns-is) (omega arith)))
          (record { within = omega arith })
