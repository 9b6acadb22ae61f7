-- `wide::can::row_sum` meets its contract. Assumes nothing.
use Rattle.std.proofs.Common.{◌≡◌, ap, sym, ◌∙◌, List, ℕ, ◌+◌, ◌*◌, ◌≤◌, ◌<◌, ℤ, pos, ◌+ℤ◌, ◌*ℤ◌, get_or, arith, w32}
use lib.Dec.{lit≤}
use mir.Facts.{to_z-of_z}
use mir.Val.{SFits}
use Rattle.whole.specs.Numbers.{Within}
use Rattle.whole.specs.Sums.{sum_by}
use Rattle.whole.proofs.Numbers.Sizes.{fits-by, within-le}
use Rattle.whole.proofs.Numbers.Sums.{sum_step}
use Rattle.rules.specs.Sizes.{largest_coefficient}
use Rattle.rules.specs.Wide.{wide_at}
use Rattle.layout.specs.Layout.{entry_in, flat, most_entries}
use Rattle.layout.proofs.Laws.Layout.{flat_in}
use Rattle.limbs.proofs.Laws.Sizes.{sized-le}
use Rattle.limbs.proofs.Laws.Stands.{stands-for, stands-is, stands-le, stands-plus, stands-times}
use Rattle.limbs.proofs.Laws.Stands.{stands-zero}
use Rattle.wide.specs.Reads.{row_most, row_in, term_most}
use Rattle.wide.proofs.Laws.Reads.{stands-in}
use Rattle.wide.proofs.can.row_sum.Goals as goal
use Rattle.wide.proofs.can.row_sum.Goals.{After-loop-j, After-place-k}

pub loop-j-init : goal.loop-j-init
unfolding row_in sum_by
loop-j-init c = (omega arith, stands-is c.zero-sum.ensures (stands-zero (0 * term_most)))

-- the flat place
in-entries : (c : After-place-k) → c.place-k.result < most_entries
in-entries c = let case = c.args.case.now in
    rw c.place-k.ensures
    (flat_in case.rows case.columns c.args.row.0 c.loop-j.j (omega arith) (omega arith) case.in_ranges.few-rows
    case.in_ranges.few-columns)

pub offset_bounds-case-k : goal.offset_bounds-case-k
offset_bounds-case-k c = let h = in-entries c in omega arith

pub bounds-case-k : goal.bounds-case-k
bounds-case-k c = let h = in-entries c in omega arith

-- one more term
module _ (entries a : List ℤ) (first rows columns row k : ℕ) where
  abbrev term : ℕ → ℤ
  term j = entry_in rows columns entries row j *ℤ wide_at a (first + j)

  abbrev up_to : ℕ → ℤ
  up_to j = row_in entries a first rows columns row j

  more : (place : ℕ) → place ≡ flat rows columns row k →
      up_to k +ℤ get_or entries place (pos 0) *ℤ wide_at a (first + k) ≡ up_to (k + 1)
  unfolding row_in
  more place e = ap (λ (i : ℕ). up_to k +ℤ get_or entries i (pos 0) *ℤ wide_at a (first + k)) e ∙ sym (sum_step k term)

  wider : k * term_most + term_most ≤ (k + 1) * term_most
  wider = omega arith

so_far : (k : ℕ) → k ≤ 8 → k * term_most ≤ row_most
so_far k h = omega arith

pub times-requires : goal.times-requires
times-requires c =
    let case = c.args.case.now in
    let j = c.loop-j.j in
    let small : Within (get_or case.entries.now c.place-k.result (pos 0)) largest_coefficient =
    case.in_ranges.entries-within.each _ in
    let fit : SFits w32 (get_or case.entries.now c.place-k.result (pos 0)) = fits-by small tt in
    let number = stands-is c.number_at-x.ensures (stands-in c.requires.all_formed (c.args.first + j) (omega arith)) in
    simp (to_z-of_z fit) (sized-le number.size (lit≤ tt), within-le small (lit≤ tt))

pub plus-sum-requires : goal.plus-sum-requires
plus-sum-requires c =
    let case = c.args.case.now in
    let j = c.loop-j.j in
    let small : Within (get_or case.entries.now c.place-k.result (pos 0)) largest_coefficient =
    case.in_ranges.entries-within.each _ in
    let fit : SFits w32 (get_or case.entries.now c.place-k.result (pos 0)) = fits-by small tt in
    let number = stands-is c.number_at-x.ensures (stands-in c.requires.all_formed (c.args.first + j) (omega arith)) in
    let product = stands-is (simp (to_z-of_z fit) at c.times.ensures) (stands-times small number) in
    let few = case.in_ranges.few-columns in (
      sized-le (sized-le c.loop-j.invariant.1.size (so_far j (omega (arith, few)))) (lit≤ tt),
      sized-le product.size (lit≤ tt),
    )

pub loop-j-preserved : goal.loop-j-preserved
loop-j-preserved c =
    let case = c.args.case.now in
    let j = c.loop-j.j in
    let small : Within (get_or case.entries.now c.place-k.result (pos 0)) largest_coefficient =
    case.in_ranges.entries-within.each _ in
    let fit : SFits w32 (get_or case.entries.now c.place-k.result (pos 0)) = fits-by small tt in
    let number = stands-is c.number_at-x.ensures (stands-in c.requires.all_formed (c.args.first + j) (omega arith)) in
    let product = stands-is (simp (to_z-of_z fit) at c.times.ensures) (stands-times small number) in (
      omega arith,
      stands-is c.plus-sum.ensures (stands-for (more case.entries.now case.answer.now c.args.first case.rows
          case.columns c.args.row.0 j c.place-k.result c.place-k.ensures)
          (stands-le (stands-plus c.loop-j.invariant.1 product)
          (wider case.entries.now case.answer.now c.args.first case.rows
          case.columns c.args.row.0 j))),
    )

all : (c : After-loop-j) → c.loop-j.j ≡ c.args.case.now.columns
all c = omega arith

pub returns : goal.returns
returns c =
    let case = c.args.case.now in
    let few = case.in_ranges.few-columns in
    stands-for (ap (λ (k : ℕ). row_in case.entries.now case.answer.now c.args.first case.rows case.columns c.args.row.0
    k) (all c)) (stands-le c.loop-j.invariant.1 (so_far c.loop-j.j (omega (arith, few))))
