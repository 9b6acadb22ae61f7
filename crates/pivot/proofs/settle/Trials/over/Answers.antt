-- `pivot::settle::Trials::over` meets its contract. The invariant: the columns passed are written with right quotients,
-- the others are as they were. Assumes nothing.
use Rattle.std.proofs.Common.{arith, ◌≡◌, sym, subst, ◌∙◌, List, ℕ, ◌+◌, ◌<◌, ℤ, pos, get_or, to_z-of_z}
use Rattle.layout.specs.Layout.{line_at, live}
use Rattle.pivot.specs.declared.border.Border.{Border}
use Rattle.pivot.specs.declared.column.Column.{Column}
use Rattle.pivot.specs.Border.{difference_at}
use Rattle.pivot.specs.Trials.{Spared, Quotient, border_column, difference_in}
use Rattle.pivot.proofs.Laws.Trial.Columns.{spared-then, spared-wider, column-end, column-most, columns-all}
use Rattle.pivot.proofs.Laws.Trial.Columns.{quotients-then}
use Rattle.pivot.proofs.settle.Trials.over.Goals as goal

-- what a column's call wrote, and what it says of it
module _ (l : List ℤ) (b : Border) (j : ℕ) (by : ℤ) (new : List ℤ) where
  abbrev Right : List ℤ → List ℤ → Column → ℤ → Type 0
  Right e bs k z = (i : ℕ) → i < k.rows → Quotient z (difference_in e bs k i) (get_or new (k.start + i) (pos 0))

  right-is : {e bs : List ℤ} {k : Column} {z : ℤ} → Right e bs k z → e ≡ l → bs ≡ b.besides → k ≡ border_column b j →
      z ≡ by → Right l b.besides (border_column b j) by
  right-is {e} {bs} {k} {z} h p q f g = subst (λ z. Right l b.besides (border_column b j) z) g
      (subst (λ k. Right l b.besides k z) f (subst (λ bs. Right l bs k z) q (subst (λ e. Right e bs k z) p h)))

  written : {k : Column} {old : List ℤ} → Spared k.start k.rows old new → k ≡ border_column b j →
      Spared (line_at b.rows b.columns j) b.rows old new
  written {k} {old} h f = subst (λ k. Spared k.start k.rows old new) f h

pub returns-then-not-over-clause-apart : goal.returns-then-not-over-clause-apart
returns-then-not-over-clause-apart c =
    let l = c.args.self.entries.now in
    let b = c.args.self.border.now in
    let j = c.loop-j.j in
    let inside : j < b.columns = omega arith in
    let here = written l b j c.args.by c.over.new.out c.over.ensures.apart c.column.ensures.column in
    spared-wider (line_at b.rows b.columns j + b.rows) (live b.rows b.columns) c.args.out.now c.over.new.out
    (column-most l b j inside)
    (spared-then (line_at b.rows b.columns j) b.rows c.args.out.now c.loop-j.out c.over.new.out c.loop-j.invariant.0
    here)

pub loop-j-preserved : goal.loop-j-preserved
loop-j-preserved c =
    let l = c.args.self.entries.now in
    let b = c.args.self.border.now in
    let j = c.loop-j.j in
    let inside : j < b.columns = omega arith in
    let here = written l b j c.args.by c.over.new.out c.over.ensures.apart c.column.ensures.column in
    let right = right-is l b j c.args.by c.over.new.out (c.over.ensures.right c.if-not-over.false)
    c.column.ensures.entries c.column.ensures.besides c.column.ensures.column
    (c.divider_of-divider.ensures ∙ to_z-of_z c.ranges.by) in
    let e = column-end l b j inside in (
      subst (λ (k : ℕ). Spared 0 k c.args.out.now c.over.new.out) e
          (spared-then (line_at b.rows b.columns j) b.rows c.args.out.now c.loop-j.out c.over.new.out
          c.loop-j.invariant.0 here),
      simp (to_z-of_z c.ranges.by) (λ k h. quotients-then l b j inside c.args.by c.loop-j.out c.over.new.out here
          (simp (to_z-of_z c.ranges.by) at c.loop-j.invariant.1) right k (subst (λ (n : ℕ). k < n) (sym e) h)),
    )

pub returns-clause-apart : goal.returns-clause-apart
returns-clause-apart c =
    let b = c.args.self.border.now in
    let f = columns-all b {j = c.loop-j.j} (omega arith) in
    subst (λ (k : ℕ). Spared 0 k c.args.out.now c.loop-j.out) f c.loop-j.invariant.0

pub returns-clause-tells : goal.returns-clause-tells
returns-clause-tells c =
    let b = c.args.self.border.now in
    let f = columns-all b {j = c.loop-j.j} (omega arith) in
    subst (λ (n : ℕ). (k : ℕ) → k < n →
    Quotient c.args.by (difference_at c.args.self.entries.now b k) (get_or c.loop-j.out k (pos 0))) f
    (simp (to_z-of_z c.ranges.by) at c.loop-j.invariant.1)
