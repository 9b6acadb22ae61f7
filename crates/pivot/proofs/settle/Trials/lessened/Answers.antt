-- `pivot::settle::Trials::lessened` meets its contract: the divisor of a column is no larger than the one that was
-- tried. Assumes nothing.
use Rattle.std.proofs.Common.{List, pos, ◌≢◌}
use Rattle.std.proofs.Common.{rules, arith, ap, ap₂, ◌∙◌, ◌≡◌}
use Rattle.std.proofs.Common.{◌≤◌, ℕ, ℤ, nat_abs, FitsSigned, w32, w64, to_z-of_z}
use native.Mathlib.Nat.{le_of_dvd, le_trans}
use Rattle.whole.proofs.Numbers.Sizes.{size-pos, fits-by}
use Rattle.whole.proofs.Numbers.Halves.{widened}
use Rattle.whole.specs.Numbers.{Within}
use Rattle.divisor.specs.Signs.{signed_by}
use Rattle.divisor.proofs.Laws.Signs.{size-signed}
use Rattle.rules.specs.Sizes.{largest_number}
use Rattle.pivot.specs.declared.border.Border.{Border}
use Rattle.pivot.specs.declared.column.Column.{Column}
use Rattle.pivot.specs.Trials.{border_column, column_divisor}
use Rattle.pivot.proofs.Laws.Trial.Columns.{column-divides}
use Rattle.pivot.proofs.settle.Trials.lessened.Goals as goal

-- what a column leaves of a divisor
module _ (l : List ℤ) (b : Border) (j : ℕ) (by : ℤ) (nonzero : by ≢ pos 0) (most : Within by largest_number) where
  abbrev left : ℕ
  left = column_divisor l b.besides (border_column b j) b.rows (nat_abs by)

  left-most : left ≤ largest_number
  left-most = le_trans
      (le_of_dvd (size-pos by nonzero) (column-divides l b.besides (border_column b j) b.rows (nat_abs by)).0)
      most.within

  -- .. with its sign
  left-half : FitsSigned w32 (signed_by by left)
  left-half = let w : Within (signed_by by left) largest_number = record { within = rw size-signed left-most } in
      fits-by w tt

  -- .. as the code finds it
  left_is : {e bs : List ℤ} {k : Column} {n r : ℕ} → r ≡ column_divisor e bs k k.rows n → e ≡ l → bs ≡ b.besides →
      k ≡ border_column b j → n ≡ nat_abs by → r ≡ left
  left_is {e} {bs} {k} {n} {r} p q f g h = p ∙ ap₂ (λ (e bs : List ℤ). column_divisor e bs k k.rows n) q f
      ∙ ap₂ (λ (k : Column) (n : ℕ). column_divisor l b.besides k k.rows n) g h

pub signed-requires : goal.signed-requires
signed-requires c =
    let a = c.args in
    let h = c.requires in
    let e = left_is a.self.entries.now a.self.border.now a.j a.by h.1 h.2 c.divisor-less.ensures
    c.column.ensures.entries c.column.ensures.besides c.column.ensures.column
    (c.from.ensures ∙ (simp (to_z-of_z c.ranges.by) at c.unsigned_abs.ensures.value)) in
    omega (arith, e, left-most a.self.entries.now a.self.border.now a.j a.by h.1 h.2)

pub overflow_cast-result : goal.overflow_cast-result
overflow_cast-result c =
    let a = c.args in
    let h = c.requires in
    let e = left_is a.self.entries.now a.self.border.now a.j a.by h.1 h.2 c.divisor-less.ensures
    c.column.ensures.entries c.column.ensures.besides c.column.ensures.column
    (c.from.ensures ∙ (simp (to_z-of_z c.ranges.by) at c.unsigned_abs.ensures.value)) in
    let fit : FitsSigned w64 c.signed.result = search rules in
    let r = (simp (widened c.ranges.by) at c.signed.ensures) ∙ ap (signed_by a.by) e in
    simp (to_z-of_z fit) (rw r (left-half a.self.entries.now a.self.border.now a.j a.by h.1 h.2))

pub returns : goal.returns
returns c =
    let a = c.args in
    let h = c.requires in
    let e = left_is a.self.entries.now a.self.border.now a.j a.by h.1 h.2 c.divisor-less.ensures
    c.column.ensures.entries c.column.ensures.besides c.column.ensures.column
    (c.from.ensures ∙ (simp (to_z-of_z c.ranges.by) at c.unsigned_abs.ensures.value)) in
    let fit : FitsSigned w64 c.signed.result = search rules in
    let r = (simp (widened c.ranges.by) at c.signed.ensures) ∙ ap (signed_by a.by) e in
    simp (to_z-of_z fit) (rw r (to_z-of_z (left-half a.self.entries.now a.self.border.now a.j a.by h.1 h.2)))
