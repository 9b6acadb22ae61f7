-- A divisor that is tried: it lies above the greatest common divisor of a number and all cells.
--   Trying                       what is known of it
--   trying_start, trying-less    the number itself; what a column leaves of it
--   less-falls                   .. is smaller, where it is another number
--   exceeds                      a cell of a column is beyond the range
use Prim.Native.Nat.{ℕ, ◌+◌, ◌*◌, ◌≤◌, ◌<◌, ◌∣◌}
use native.Mathlib.Nat.{dvd_refl, dvd_trans, le_of_dvd, le_trans, pos_of_dvd_of_pos}
use native.Mathlib.Decide.{ℕ_discrete}
use native.Mathlib.Omega.{arith}
use mathlib.Core.Path.{◌≡◌, ap, sym, subst, ◌∙◌}
use mathlib.Core.Bool.{true}
use mathlib.Core.List.{List}
use mathlib.Core.Logic.{◌≢◌}
use lib.IntN.{ℤ, pos, nat_abs}
use Rattle.whole.specs.Numbers.{Within}
use Rattle.whole.proofs.Numbers.Sizes.{size-pos}
use Rattle.divisor.specs.Signs.{signed_by}
use Rattle.divisor.proofs.Laws.Signs.{signed-nonzero, size-signed, signed-again, signed-size}
use Rattle.rules.specs.Sizes.{largest_number}
use Rattle.pivot.specs.declared.border.Border.{Border}
use Rattle.layout.specs.Layout.{line_at}
use Rattle.pivot.specs.Border.{difference_at, in_border}
use Rattle.pivot.specs.Trials.{border_column, column_divisor, some_above, Exceeds}
use Rattle.pivot.proofs.Laws.Trial.Columns.{column-divides, column-greatest, column-inside, cell-here, above_at}

pub record Trying (l : List ℤ) (b : Border) (from z : ℤ) : Type 0 where
  pub nonzero : z ≢ pos 0
  pub in-range : Within z largest_number
  pub sign-is : z ≡ signed_by from (nat_abs z)
  pub divides : nat_abs z ∣ nat_abs from
  pub greatest : (d : ℕ) → d ∣ nat_abs from → ((k : ℕ) → k < in_border b → d ∣ nat_abs (difference_at l b k)) → d ∣
      nat_abs z

module _ (l : List ℤ) (b : Border) (from : ℤ) where
  pub trying_start : from ≢ pos 0 → Within from largest_number → Trying l b from from
  trying_start o w = record {
    nonzero = o;
    in-range = w;
    sign-is = sym (signed-size from);
    divides = dvd_refl (nat_abs from);
    greatest = λ d p q. p;
  }

  module _ (z : ℤ) (j : ℕ) (in-columns : j < b.columns) (t : Trying l b from z) where
    abbrev less : ℕ
    less = column_divisor l b.besides (border_column b j) b.rows (nat_abs z)

    above : 0 < nat_abs z
    above = size-pos z t.nonzero

    parts : less ∣ nat_abs z
    parts = (column-divides l b.besides (border_column b j) b.rows (nat_abs z)).0

    less-above : 0 < less
    less-above = pos_of_dvd_of_pos parts above

    less-most : less ≤ nat_abs z
    less-most = le_of_dvd above parts

    pub trying-less : Trying l b from (signed_by z less)
    trying-less = record {
      nonzero = signed-nonzero z less less-above;
      in-range = record {
        within = subst (λ k. k ≤ largest_number) (sym (size-signed z less)) (le_trans less-most t.in-range.within);
      };
      sign-is = ap (λ y. signed_by y less) t.sign-is ∙ signed-again from (nat_abs z) less above
          ∙ ap (signed_by from) (sym (size-signed z less));
      divides = subst (λ k. k ∣ nat_abs from) (sym (size-signed z less)) (dvd_trans less parts t.divides);
      greatest = λ d p q. subst (λ k. d ∣ k) (sym (size-signed z less))
          (column-greatest l b.besides (border_column b j) b.rows (nat_abs z) d (t.greatest d p q)
          (λ i h. subst (λ y. d ∣ nat_abs y) (cell-here l b j in-columns i h)
          (q _ (column-inside l b j in-columns i h))));
    }

    pub less-falls : signed_by z less ≢ z → nat_abs (signed_by z less) < nat_abs z
    less-falls o = subst (λ k. k < nat_abs z) (sym (size-signed z less)) (go (ℕ_discrete less (nat_abs z)))
      where
        go : Dec (less ≡ nat_abs z) → less < nat_abs z
        go (yes e) = absurd (o (ap (signed_by z) e ∙ signed-size z))
        go (no e) = let h = less-most in omega arith

    -- a quotient of the column that is beyond the range
    pub exceeds : some_above l b.besides (border_column b j) b.rows (nat_abs z * largest_number) ≡ true →
        Exceeds l b from
    exceeds e = let w = above_at l b.besides (border_column b j) (nat_abs z * largest_number) b.rows e in record {
      size = nat_abs z;
      place = line_at b.rows b.columns j + w.0;
      some_size = above;
      in-live = column-inside l b j in-columns w.0 w.1;
      above = subst (λ y. nat_abs z * largest_number < nat_abs y) (sym (cell-here l b j in-columns w.0 w.1)) w.2;
      greatest = t.greatest;
    }
