-- `cannot::column_sum` meets its contract. Assumes nothing.
use Rattle.std.proofs.Common.{◌≡◌, ap, sym, ◌∙◌, List, ℕ, ◌+◌, ◌*◌, ◌≤◌, ◌<◌, ℤ, pos, ◌+ℤ◌, ◌*ℤ◌, rules, arith, get_or}
use Rattle.std.proofs.Common.{of_z, to_z, w32, w64}
use lib.IntN.{+ℤ_idr, +ℤ_assoc}
use mir.Facts.{to_z-of_z}
use mir.Val.{SFits}
use Rattle.whole.specs.Numbers.{AllWithin, Within}
use Rattle.whole.specs.Sums.{sum_by}
use Rattle.whole.proofs.Numbers.Sizes.{within-*, within-+, within--, within-le, fits-by}
use Rattle.whole.proofs.Numbers.Sums.{sum_step, sum-within}
use Rattle.rules.specs.Sizes.{largest_coefficient, largest_number, most_rows}
use Rattle.layout.specs.Layout.{entry_in, flat, most_entries}
use Rattle.layout.proofs.Laws.Layout.{flat_in}
use Rattle.parts.specs.Reads.{Multiplied, balance_at, column_up_to}
use Rattle.cannot.proofs.column_sum.Goals as goal
use Rattle.cannot.proofs.column_sum.Goals.{After-place-k}

pub loop-i-init : goal.loop-i-init
unfolding column_up_to sum_by
loop-i-init c =
    let first : SFits w64 c.own_balance-sum.result = search rules in
    (omega arith, to_z-of_z first ∙ c.own_balance-sum.ensures ∙ sym (+ℤ_idr _))

-- the flat place
in-entries : (c : After-place-k) → c.place-k.result < most_entries
in-entries c = let case = c.args.case.now in
    rw c.place-k.ensures
    (flat_in case.rows case.columns c.loop-i.i c.args.column.0 (omega arith) (omega arith) case.in_ranges.few-rows
    case.in_ranges.few-columns)

pub offset_bounds-case-k : goal.offset_bounds-case-k
offset_bounds-case-k c = let h = in-entries c in omega arith

pub bounds-case-k : goal.bounds-case-k
bounds-case-k c = let h = in-entries c in omega arith

-- one more row
module _ (entries a : List ℤ) (rows columns column i : ℕ) where
  abbrev balance : ℕ → ℤ
  balance v = balance_at a (columns + rows) v

  abbrev term : ℕ → ℤ
  term k = entry_in rows columns entries k column *ℤ balance (columns + k)

  abbrev up_to : ℕ → ℤ
  up_to k = column_up_to entries a rows columns (columns + rows) k column

  more : up_to i +ℤ term i ≡ up_to (i + 1)
  unfolding column_up_to
  more = +ℤ_assoc (balance column) _ (term i) ∙ ap (λ (z : ℤ). balance column +ℤ z) (sym (sum_step i term))

  module _ (W : AllWithin entries largest_coefficient) (few : rows ≤ most_rows) (M : Multiplied a (columns + rows))
      (there : column < columns) (here : i < rows) where
    within-balance : (v : ℕ) → v < columns + rows → Within (balance v) (largest_number + largest_number)
    within-balance v h = within-- (M.lower-within v h) (M.upper-within v h)

    within-term : (k : ℕ) → k < rows → Within (term k) (largest_coefficient * (largest_number + largest_number))
    within-term k h = within-* (W.each _) (within-balance (columns + k) (omega arith))

    fit-term : SFits w64 (term i)
    fit-term = fits-by (within-term i here) tt

    fit-sum : SFits w64 (up_to i +ℤ term i)
    unfolding column_up_to
    fit-sum = rw more (fits-by (within-+ (within-balance column (omega arith))
        (within-le (sum-within (i + 1) (λ k h. within-term k (omega arith))) bound)) tt)
      where
        bound : (i + 1) * (largest_coefficient * (largest_number + largest_number))
            ≤ most_rows * (largest_coefficient * (largest_number + largest_number))
        bound = omega arith

    -- the product of what is read
    product-is : (k : ℕ) (z : ℤ) → k ≡ flat rows columns i column → z ≡ balance (columns + i) →
        to_z w64 (of_z w64 (to_z w32 (of_z w32 (get_or entries k (pos 0))))) *ℤ to_z w64 (of_z w64 z) ≡ term i
    product-is k z e f =
        let short : SFits w32 (entry_in rows columns entries i column) = fits-by (W.each _) tt in
        let long : SFits w64 (entry_in rows columns entries i column) = fits-by (W.each _) tt in
        let value : SFits w64 (balance (columns + i)) = fits-by (within-balance (columns + i) (omega arith)) tt in
        rw (e, f) (simp (to_z-of_z short, to_z-of_z long, to_z-of_z value))

pub overflow_mul-sum : goal.overflow_mul-sum
overflow_mul-sum c =
    let case = c.args.case.now in
    let product = product-is case.entries.now case.answer.now case.rows case.columns c.args.column.0 c.loop-i.i
    case.in_ranges.entries-within case.in_ranges.few-rows c.requires.multiplied c.requires.column_lt_columns
    (omega arith)
    c.place-k.result _ c.place-k.ensures c.balance.ensures in
    let fits = fit-term case.entries.now case.answer.now case.rows case.columns c.args.column.0 c.loop-i.i
    case.in_ranges.entries-within case.in_ranges.few-rows c.requires.multiplied c.requires.column_lt_columns
    (omega arith) in
    rw product fits

pub overflow_add-sum : goal.overflow_add-sum
overflow_add-sum c =
    let case = c.args.case.now in
    let product = product-is case.entries.now case.answer.now case.rows case.columns c.args.column.0 c.loop-i.i
    case.in_ranges.entries-within case.in_ranges.few-rows c.requires.multiplied c.requires.column_lt_columns
    (omega arith)
    c.place-k.result _ c.place-k.ensures c.balance.ensures in
    let fits = fit-term case.entries.now case.answer.now case.rows case.columns c.args.column.0 c.loop-i.i
    case.in_ranges.entries-within case.in_ranges.few-rows c.requires.multiplied c.requires.column_lt_columns
    (omega arith) in
    rw (c.loop-i.invariant.1, product, to_z-of_z fits)
    (fit-sum case.entries.now case.answer.now case.rows case.columns c.args.column.0 c.loop-i.i
    case.in_ranges.entries-within case.in_ranges.few-rows c.requires.multiplied c.requires.column_lt_columns
    (omega arith))

pub loop-i-preserved : goal.loop-i-preserved
loop-i-preserved c =
    let case = c.args.case.now in
    let product = product-is case.entries.now case.answer.now case.rows case.columns c.args.column.0 c.loop-i.i
    case.in_ranges.entries-within case.in_ranges.few-rows c.requires.multiplied c.requires.column_lt_columns
    (omega arith)
    c.place-k.result _ c.place-k.ensures c.balance.ensures in
    let fits = fit-term case.entries.now case.answer.now case.rows case.columns c.args.column.0 c.loop-i.i
    case.in_ranges.entries-within case.in_ranges.few-rows c.requires.multiplied c.requires.column_lt_columns
    (omega arith) in
    let sum = fit-sum case.entries.now case.answer.now case.rows case.columns c.args.column.0 c.loop-i.i
    case.in_ranges.entries-within case.in_ranges.few-rows c.requires.multiplied c.requires.column_lt_columns
    (omega arith) in (
      omega arith,
      rw (
        c.loop-i.invariant.1,
        product,
        to_z-of_z fits,
        to_z-of_z sum,
      ) (more case.entries.now case.answer.now case.rows case.columns c.args.column.0 c.loop-i.i),
    )
