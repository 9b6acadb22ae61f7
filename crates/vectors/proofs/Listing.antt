-- What the test program sees in an answer of time rows.
--   told-refused, told-short, told-first    no cycle; no cycle; the first word says
--   rows_none, rows-least                   no rows; as many as are told, or as there are words
--   none-listed, one-listed, more-listed    for a loop: nothing passed yet, the row found, one row more
use borrow.Author.Tests.{eq-eqb, ne_eqb, le-leb, lt-leb}
use mathlib.Core.Bool.{true, false}
use mathlib.Core.List.{List}
use mathlib.Core.Logic.{◌≢◌}
use mathlib.Core.Path.{◌≡◌, refl, ◌∙◌}
use Prim.Native.Nat.{ℕ, ◌+◌, ◌-◌, ◌≤◌, ◌<◌, min}
use native.Mathlib.Numerals.{add-one}
use lib.IntN.{ℤ, pos, nat_abs}
use lib.ListN.{length}
use lib.Signed.{◌≤ℤ◌, ◌<ℤ◌}
use Rattle.whole.specs.Numbers.{eq_z}
use Rattle.whole.proofs.Lists.Below.{some-start, some_more, some_of}
use Rattle.whole.proofs.Numbers.Order.{lt→true, le→false}
use Rattle.whole.proofs.Tells.{tells-true, tells-false, tells-eq_z}
use Rattle.rules.specs.Problem.{word}
use Rattle.vectors.specs.Listed.{is_told, rows_told, is_listed}

module _ (number : ℕ) (out : List ℤ) where
  pub told-refused : number ≢ 0 → is_told number out ≡ false
  unfolding is_told
  told-refused n = rw (ne_eqb number 0 n) refl

  pub told-short : number ≡ 0 → length out < 2 → is_told number out ≡ false
  unfolding is_told
  told-short e h = rw (eq-eqb number 0 e, lt-leb 2 (length out) h) refl

  pub told-first : number ≡ 0 → 2 ≤ length out → is_told number out ≡ eq_z (word out 0) (pos 2)
  unfolding is_told
  told-first e h = rw (eq-eqb number 0 e, le-leb 2 (length out) h) refl

module _ (out : List ℤ) where
  pub rows_none : word out 1 <ℤ pos 0 → rows_told out ≡ 0
  unfolding rows_told
  rows_none h = rw (lt→true h) refl

  pub rows-least : pos 0 ≤ℤ word out 1 → rows_told out ≡ min (nat_abs (word out 1)) (length out - 2)
  unfolding rows_told
  rows-least h = rw (le→false {a = pos 0} {b = word out 1} h) refl

module _ (out : List ℤ) (row : ℤ) where
  pub none-listed : is_listed out 0 row ≡ false
  unfolding is_listed
  none-listed = some-start _

  pub one-listed : (rows i : ℕ) → i < rows → word out (2 + i) ≡ row → is_listed out rows row ≡ true
  unfolding is_listed
  one-listed rows i h e = some_of rows i _ h (tells-true (tells-eq_z (word out (2 + i)) row) e)

  pub more-listed : (i : ℕ) → is_listed out i row ≡ false → word out (2 + i) ≢ row → is_listed out (i + 1) row ≡ false
  unfolding is_listed
  more-listed i e n = rw (add-one i) (some_more i _
      ∙ (rw e (tells-false (tells-eq_z (word out (2 + i)) row) n)))
