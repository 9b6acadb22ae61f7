-- `can::row_sum` meets its contract. Assumes nothing.
use Rattle.std.proofs.Common.{◌≡◌, refl, sym, ℕ, ◌+◌, ◌*◌, ◌≤◌, ◌<◌, ℤ, pos, ◌+ℤ◌, ◌*ℤ◌, arith}
use Rattle.std.proofs.Common.{List, get_or, of_z, to_z, w32, w64}
use mir.Facts.{to_z-of_z}
use mir.Val.{SFits}
use Rattle.whole.specs.Numbers.{AllWithin, Within}
use Rattle.whole.specs.Sums.{sum_by}
use Rattle.whole.proofs.Numbers.Sizes.{within-*, within-le, fits-by}
use Rattle.whole.proofs.Numbers.Sums.{sum_step, sum-within}
use Rattle.rules.specs.Sizes.{largest_coefficient, largest_numerator, most_columns}
use Rattle.rules.specs.Evidence.{lower_part}
use Rattle.layout.specs.Layout.{entry_in, flat, most_entries}
use Rattle.layout.proofs.Laws.Layout.{flat_in}
use Rattle.parts.proofs.Laws.Halves.{window}
use Rattle.parts.specs.Reads.{row_up_to}
use Rattle.can.proofs.row_sum.Goals as goal
use Rattle.can.proofs.row_sum.Goals.{After-place-k}

pub loop-j-init : goal.loop-j-init
unfolding row_up_to sum_by
loop-j-init c = (omega arith, refl)

-- the flat place
in-entries : (c : After-place-k) → c.place-k.result < most_entries
in-entries c = let case = c.args.case.now in
    rw c.place-k.ensures
    (flat_in case.rows case.columns c.args.row.0 c.loop-j.j (omega arith) (omega arith) case.in_ranges.few-rows
    case.in_ranges.few-columns)

pub offset_bounds-case-k : goal.offset_bounds-case-k
offset_bounds-case-k c = let h = in-entries c in omega arith

pub bounds-case-k : goal.bounds-case-k
bounds-case-k c = let h = in-entries c in omega arith

-- one more term
module _ (entries half : List ℤ) (rows columns row j : ℕ) where
  abbrev term : ℕ → ℤ
  term k = entry_in rows columns entries row k *ℤ lower_part half k

  abbrev up_to : ℕ → ℤ
  up_to k = row_up_to entries half rows columns row k

  module _ (W : AllWithin entries largest_coefficient) (few : columns ≤ most_columns) (here : j < columns)
      (N : (v : ℕ) → v < columns → Within (lower_part half v) largest_numerator) where
    within-term : (k : ℕ) → k < columns → Within (term k) (largest_coefficient * largest_numerator)
    within-term k h = within-* (W.each _) (N k h)

    fit-term : SFits w64 (term j)
    fit-term = fits-by (within-term j here) tt

    more : up_to j +ℤ term j ≡ up_to (j + 1)
    unfolding row_up_to
    more = sym (sum_step j term)

    fit-sum : SFits w64 (up_to j +ℤ term j)
    unfolding row_up_to
    fit-sum = rw more (fits-by (within-le (sum-within (j + 1) (λ k h. within-term k (omega arith))) bound) tt)
      where
        bound : (j + 1) * (largest_coefficient * largest_numerator)
            ≤ most_columns * (largest_coefficient * largest_numerator)
        bound = omega arith

    -- the product of what is read
    product-is : (k : ℕ) (x : ℤ) → k ≡ flat rows columns row j → x ≡ lower_part half j →
        to_z w64 (of_z w64 (to_z w32 (of_z w32 (get_or entries k (pos 0))))) *ℤ to_z w64 (of_z w64 x) ≡ term j
    product-is k x e f =
        let short : SFits w32 (entry_in rows columns entries row j) = fits-by (W.each _) tt in
        let long : SFits w64 (entry_in rows columns entries row j) = fits-by (W.each _) tt in
        let value : SFits w64 (lower_part half j) = fits-by (N j here) tt in
        rw (e, f) (simp (to_z-of_z short, to_z-of_z long, to_z-of_z value))

pub overflow_mul-sum : goal.overflow_mul-sum
overflow_mul-sum c =
    let product =
    product-is c.args.case.now.entries.now c.args.half.now c.args.case.now.rows c.args.case.now.columns c.args.row.0
    c.loop-j.j
    c.args.case.now.in_ranges.entries-within c.args.case.now.in_ranges.few-columns (omega arith) c.requires.by_index
    c.place-k.result _ c.place-k.ensures (window c.args.half.now 3 c.args.case.now.columns c.loop-j.j (omega arith)) in
    let fits =
    fit-term c.args.case.now.entries.now c.args.half.now c.args.case.now.rows c.args.case.now.columns c.args.row.0
    c.loop-j.j
    c.args.case.now.in_ranges.entries-within c.args.case.now.in_ranges.few-columns (omega arith) c.requires.by_index in
    rw product fits

pub overflow_add-sum : goal.overflow_add-sum
overflow_add-sum c =
    let product =
    product-is c.args.case.now.entries.now c.args.half.now c.args.case.now.rows c.args.case.now.columns c.args.row.0
    c.loop-j.j
    c.args.case.now.in_ranges.entries-within c.args.case.now.in_ranges.few-columns (omega arith) c.requires.by_index
    c.place-k.result _ c.place-k.ensures (window c.args.half.now 3 c.args.case.now.columns c.loop-j.j (omega arith)) in
    let fits =
    fit-term c.args.case.now.entries.now c.args.half.now c.args.case.now.rows c.args.case.now.columns c.args.row.0
    c.loop-j.j
    c.args.case.now.in_ranges.entries-within c.args.case.now.in_ranges.few-columns (omega arith) c.requires.by_index in
    rw (
      c.loop-j.invariant.1,
      product,
      to_z-of_z fits,
    ) (fit-sum c.args.case.now.entries.now c.args.half.now c.args.case.now.rows c.args.case.now.columns
    c.args.row.0 c.loop-j.j
    c.args.case.now.in_ranges.entries-within c.args.case.now.in_ranges.few-columns (omega arith) c.requires.by_index)

pub loop-j-preserved : goal.loop-j-preserved
loop-j-preserved c =
    let product =
    product-is c.args.case.now.entries.now c.args.half.now c.args.case.now.rows c.args.case.now.columns c.args.row.0
    c.loop-j.j
    c.args.case.now.in_ranges.entries-within c.args.case.now.in_ranges.few-columns (omega arith) c.requires.by_index
    c.place-k.result _ c.place-k.ensures (window c.args.half.now 3 c.args.case.now.columns c.loop-j.j (omega arith)) in
    let fits =
    fit-term c.args.case.now.entries.now c.args.half.now c.args.case.now.rows c.args.case.now.columns c.args.row.0
    c.loop-j.j
    c.args.case.now.in_ranges.entries-within c.args.case.now.in_ranges.few-columns (omega arith) c.requires.by_index in
    let sum = fit-sum c.args.case.now.entries.now c.args.half.now c.args.case.now.rows c.args.case.now.columns
    c.args.row.0 c.loop-j.j
    c.args.case.now.in_ranges.entries-within c.args.case.now.in_ranges.few-columns (omega arith)
    c.requires.by_index in (
      omega arith,
      rw (c.loop-j.invariant.1, product, to_z-of_z fits, to_z-of_z sum)
          (more c.args.case.now.entries.now c.args.half.now c.args.case.now.rows c.args.case.now.columns c.args.row.0
          c.loop-j.j
          c.args.case.now.in_ranges.entries-within c.args.case.now.in_ranges.few-columns
          (omega arith) c.requires.by_index),
    )
