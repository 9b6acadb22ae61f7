-- `wide::cannot::column_sum` meets its contract. Assumes nothing.
use Rattle.std.proofs.Common.{◌≡◌, ap, sym, ◌∙◌, List, ℕ, ◌+◌, ◌*◌, ◌≤◌, ◌<◌, ℤ, pos, ◌+ℤ◌, ◌*ℤ◌, get_or, arith, w32}
use lib.Dec.{lit≤}
use lib.IntN.{+ℤ_assoc, +ℤ_idr}
use mir.Facts.{to_z-of_z}
use mir.Val.{SFits}
use Rattle.whole.specs.Numbers.{Within}
use Rattle.whole.specs.Sums.{sum_by}
use Rattle.whole.proofs.Numbers.Sizes.{fits-by, within-le}
use Rattle.whole.proofs.Numbers.Sums.{sum_step}
use Rattle.rules.specs.Sizes.{largest_coefficient, limb_turn}
use Rattle.layout.specs.Layout.{entry_in, flat, most_entries}
use Rattle.layout.proofs.Laws.Layout.{flat_in}
use Rattle.limbs.proofs.Laws.Sizes.{sized-le}
use Rattle.limbs.proofs.Laws.Stands.{stands-for, stands-is, stands-le, stands-plus, stands-times}
use Rattle.wide.specs.Reads.{balance_in, column_most, column_in, share_most}
use Rattle.wide.proofs.cannot.column_sum.Goals as goal
use Rattle.wide.proofs.cannot.column_sum.Goals.{After-loop-i, After-place-k}

pub loop-i-init : goal.loop-i-init
unfolding column_in sum_by
loop-i-init c = (omega arith, stands-for (sym (+ℤ_idr _)) (stands-le c.balance-sum.ensures (lit≤ tt)))

-- the flat place
in-entries : (c : After-place-k) → c.place-k.result < most_entries
in-entries c = let case = c.args.case.now in
    rw c.place-k.ensures
    (flat_in case.rows case.columns c.loop-i.i c.args.column.0 (omega arith) (omega arith) case.in_ranges.few-rows
    case.in_ranges.few-columns)

pub offset_bounds-case-k : goal.offset_bounds-case-k
offset_bounds-case-k c = let h = in-entries c in omega arith

pub bounds-case-k : goal.bounds-case-k
bounds-case-k c = let h = in-entries c in omega arith

-- one more row
module _ (entries a : List ℤ) (rows columns column k : ℕ) where
  abbrev share : ℕ → ℤ
  share v = balance_in a (columns + rows) v

  abbrev term : ℕ → ℤ
  term i = entry_in rows columns entries i column *ℤ share (columns + i)

  abbrev up_to : ℕ → ℤ
  up_to i = column_in entries a rows columns i column

  more : (place : ℕ) → place ≡ flat rows columns k column →
      up_to k +ℤ get_or entries place (pos 0) *ℤ share (columns + k) ≡ up_to (k + 1)
  unfolding column_in
  more place e = ap (λ (j : ℕ). up_to k +ℤ get_or entries j (pos 0) *ℤ share (columns + k)) e
      ∙ +ℤ_assoc (share column) _ (term k)
      ∙ ap (λ (z : ℤ). share column +ℤ z) (sym (sum_step k term))

wider : (k : ℕ) →
    (limb_turn + limb_turn) + k * share_most + share_most ≤ (limb_turn + limb_turn) + (k + 1) * share_most
wider k = omega arith

so_far : (k : ℕ) → k ≤ 24 → (limb_turn + limb_turn) + k * share_most ≤ column_most
so_far k h = omega arith

pub times-requires : goal.times-requires
times-requires c =
    let case = c.args.case.now in
    let i = c.loop-i.i in
    let small : Within (get_or case.entries.now c.place-k.result (pos 0)) largest_coefficient =
    case.in_ranges.entries-within.each _ in
    let fit : SFits w32 (get_or case.entries.now c.place-k.result (pos 0)) = fits-by small tt in
    simp (to_z-of_z fit) (sized-le c.balance-more.ensures.size (lit≤ tt), within-le small (lit≤ tt))

pub plus-sum-requires : goal.plus-sum-requires
plus-sum-requires c =
    let case = c.args.case.now in
    let i = c.loop-i.i in
    let small : Within (get_or case.entries.now c.place-k.result (pos 0)) largest_coefficient =
    case.in_ranges.entries-within.each _ in
    let fit : SFits w32 (get_or case.entries.now c.place-k.result (pos 0)) = fits-by small tt in
    let product = stands-is (simp (to_z-of_z fit) at c.times.ensures) (stands-times small c.balance-more.ensures) in
    let few = case.in_ranges.few-rows in (
      sized-le (sized-le c.loop-i.invariant.1.size (so_far i (omega (arith, few)))) (lit≤ tt),
      sized-le product.size (lit≤ tt),
    )

pub loop-i-preserved : goal.loop-i-preserved
loop-i-preserved c =
    let case = c.args.case.now in
    let i = c.loop-i.i in
    let small : Within (get_or case.entries.now c.place-k.result (pos 0)) largest_coefficient =
    case.in_ranges.entries-within.each _ in
    let fit : SFits w32 (get_or case.entries.now c.place-k.result (pos 0)) = fits-by small tt in
    let product = stands-is (simp (to_z-of_z fit) at c.times.ensures) (stands-times small c.balance-more.ensures) in (
      omega arith,
      stands-is c.plus-sum.ensures
          (stands-for (more case.entries.now case.answer.now case.rows case.columns c.args.column.0 i
          c.place-k.result c.place-k.ensures) (stands-le (stands-plus c.loop-i.invariant.1 product) (wider i))),
    )

all : (c : After-loop-i) → c.loop-i.i ≡ c.args.case.now.rows
all c = omega arith

pub returns : goal.returns
returns c =
    let case = c.args.case.now in
    let few = case.in_ranges.few-rows in
    stands-for (ap (λ (k : ℕ). column_in case.entries.now case.answer.now case.rows case.columns k c.args.column.0)
    (all c)) (stands-le c.loop-i.invariant.1 (so_far c.loop-i.i (omega (arith, few))))
