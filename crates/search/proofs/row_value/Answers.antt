-- `search::row_value` meets its contract. The loop's invariant: the sum is that of the columns passed. The sum of at
-- most 8 products stays in 64 bits. Assumes nothing.
use mathlib.Core.List.{List}
use mathlib.Core.Path.{◌≡◌, refl, ap, subst, sym, ◌∙◌}
use Prim.Native.Nat.{ℕ, ◌*◌, ◌<◌}
use native.Mathlib.Omega.{arith}
use borrow.Author.Rules.{rules}
use lib.IntN.{ℤ, pos, ◌+ℤ◌, ◌*ℤ◌}
use lib.ListN.{get_or}
use mir.Facts.{to_z-of_z}
use mir.Syntax.{w32, w64}
use mir.Val.{SFits, of_z, to_z}
use Rattle.whole.specs.Numbers.{Within}
use Rattle.whole.specs.Sums.{sum_by}
use Rattle.whole.proofs.Numbers.Sizes.{within-+, within-*, within-le, fits-by}
use Rattle.rules.specs.Sizes.{most_columns, largest_number, largest_limit}
use Rattle.layout.specs.Layout.{flat, entry_in}
use Rattle.search.specs.Search.{part_sum, sum_laid}
use Rattle.search.proofs.Laws.Sums.{row_more, row_within}
use Rattle.search.proofs.row_value.Goals as goal

pub loop-j-init : goal.loop-j-init
unfolding sum_laid sum_by
loop-j-init c = refl

-- a term, and the sum with it
module _ (rows columns : ℕ) (l x : List ℤ) (i j : ℕ)
    (hl : (k : ℕ) → Within (get_or l k (pos 0)) largest_number)
    (hx : (k : ℕ) → Within (get_or x k (pos 0)) largest_limit) where
  abbrev old : ℤ
  old = part_sum rows columns l x i j

  abbrev term : ℤ
  term = entry_in rows columns l i j *ℤ get_or x j (pos 0)

  fit-sum : j < most_columns → (p : ℤ) → p ≡ term → SFits w64 (old +ℤ p)
  fit-sum h p e =
      let a : Within old (most_columns * (largest_number * largest_limit)) =
      within-le (row_within rows columns l x i hl hx j) (omega arith) in
      let b : Within term (largest_number * largest_limit) = within-* (hl (flat rows columns i j)) (hx j) in
      subst (λ z. SFits w64 (old +ℤ z)) (sym e) (fits-by (within-+ a b) tt)

-- the product of an entry and a value, by their bits
product-is : {e a x p : ℤ} → SFits w32 e → SFits w32 x → e ≡ a →
    p ≡ to_z w32 (of_z w32 e) *ℤ to_z w32 (of_z w32 x) → p ≡ a *ℤ x
product-is {x} f g q h = (simp (to_z-of_z f, to_z-of_z g) at h) ∙ ap (λ e. e *ℤ x) q

pub overflow_add-sum : goal.overflow_add-sum
overflow_add-sum c = let s = c.args in let r = c.requires in
    let fit-entry : SFits w32 c.entry_at-entry.result = search rules in
    let fit-value : SFits w32 (get_or s.values.now c.loop-j.j (pos 0)) = search rules in
    let fit-product : SFits w64 c.product-sum.result = search rules in
    let p = product-is fit-entry fit-value c.entry_at-entry.ensures c.product-sum.ensures in
    let f = fit-sum s.size.rows s.size.columns s.entries.now s.values.now s.row.0 c.loop-j.j
    r.by_index r.by_index_2 (omega arith) _ p in
    simp (to_z-of_z fit-product, c.loop-j.invariant) f

pub loop-j-preserved : goal.loop-j-preserved
loop-j-preserved c = let s = c.args in let r = c.requires in
    let fit-entry : SFits w32 c.entry_at-entry.result = search rules in
    let fit-value : SFits w32 (get_or s.values.now c.loop-j.j (pos 0)) = search rules in
    let fit-product : SFits w64 c.product-sum.result = search rules in
    let p = product-is fit-entry fit-value c.entry_at-entry.ensures c.product-sum.ensures in
    let f = fit-sum s.size.rows s.size.columns s.entries.now s.values.now s.row.0 c.loop-j.j
    r.by_index r.by_index_2 (omega arith) _ p in
    let sum = part_sum s.size.rows s.size.columns s.entries.now s.values.now s.row.0 c.loop-j.j in
    simp (to_z-of_z fit-product, c.loop-j.invariant, to_z-of_z f) (ap (λ z. sum +ℤ z) p
    ∙ sym (row_more s.size.rows s.size.columns s.entries.now s.values.now s.row.0 c.loop-j.j))

pub returns : goal.returns
returns c = let s = c.args in
    let all : c.loop-j.j ≡ s.size.columns = omega arith in
    c.loop-j.invariant ∙ ap (part_sum s.size.rows s.size.columns s.entries.now s.values.now s.row.0) all
