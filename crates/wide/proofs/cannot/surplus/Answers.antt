-- `wide::cannot::surplus` meets its contract. Assumes nothing.
use Rattle.std.proofs.Common.{◌≡◌, ap, sym, List, ℕ, ◌+◌, ◌*◌, ◌≤◌, ℤ, ◌+ℤ◌, ◌-ℤ◌, ◌*ℤ◌, arith}
use lib.Dec.{lit≤}
use Rattle.whole.specs.Sums.{sum_by}
use Rattle.whole.proofs.Numbers.Sums.{sum_step}
use Rattle.rules.specs.Evidence.{plain_of}
use Rattle.rules.specs.Wide.{wide_lower, wide_upper}
use Rattle.limbs.proofs.Laws.Sizes.{sized-le}
use Rattle.limbs.proofs.Laws.Stands.{stands-for, stands-is, stands-le, stands-less, stands-plus}
use Rattle.limbs.proofs.Laws.Stands.{stands-zero}
use Rattle.tableau.specs.Parts.{lower_of, upper_of}
use Rattle.tableau.specs.declared.Limits.{Limits}
use Rattle.wide.specs.Reads.{surplus_in, surplus_most, weight_most}
use Rattle.wide.proofs.Laws.Reads.{stands-in}
use Rattle.wide.proofs.cannot.surplus.Goals as goal
use Rattle.wide.proofs.cannot.surplus.Goals.{After-loop-v}

pub loop-v-init : goal.loop-v-init
unfolding surplus_in sum_by
loop-v-init c = (omega arith, stands-is c.zero-sum.ensures (stands-zero (0 * (weight_most + weight_most))))

-- one more variable
module _ (limits : Limits) (a : List ℤ) (variables k : ℕ) where
  abbrev net_of : ℕ → ℤ
  net_of u = plain_of (lower_of limits u) *ℤ wide_lower a u -ℤ plain_of (upper_of limits u) *ℤ wide_upper variables a u

  more : surplus_in limits a variables k +ℤ net_of k ≡ surplus_in limits a variables (k + 1)
  unfolding surplus_in
  more = sym (sum_step k net_of)

wider : (k : ℕ) → k * (weight_most + weight_most) + (weight_most + weight_most) ≤ (k + 1) * (weight_most + weight_most)
wider k = omega arith

so_far : (k : ℕ) → k ≤ 32 → k * (weight_most + weight_most) ≤ surplus_most
so_far k h = omega arith

pub weighed-gain-requires : goal.weighed-gain-requires
weighed-gain-requires c =
    let case = c.args.case.now in
    let variables = case.columns + case.rows in
    let v = c.loop-v.v in
    let low = stands-is c.number_at-low.ensures (stands-in c.requires.all_formed (1 + v) (omega arith)) in
    let high = stands-is c.number_at-high.ensures (stands-in c.requires.all_formed (1 + variables + v) (omega arith)) in
    (low.size, case.in_ranges.limited.lowers-within v)

pub weighed-loss-requires : goal.weighed-loss-requires
weighed-loss-requires c =
    let case = c.args.case.now in
    let variables = case.columns + case.rows in
    let v = c.loop-v.v in
    let low = stands-is c.number_at-low.ensures (stands-in c.requires.all_formed (1 + v) (omega arith)) in
    let high = stands-is c.number_at-high.ensures (stands-in c.requires.all_formed (1 + variables + v) (omega arith)) in
    (high.size, case.in_ranges.limited.uppers-within v)

pub less-requires : goal.less-requires
less-requires c =
    let case = c.args.case.now in
    let variables = case.columns + case.rows in
    let v = c.loop-v.v in
    let low = stands-is c.number_at-low.ensures (stands-in c.requires.all_formed (1 + v) (omega arith)) in
    let high = stands-is c.number_at-high.ensures (stands-in c.requires.all_formed (1 + variables + v) (omega arith)) in
    let gained = stands-for
    (ap (λ (z : ℤ). plain_of (lower_of case.limits.now v) *ℤ z) low.number) c.weighed-gain.ensures in
    let lost = stands-for
    (ap (λ (z : ℤ). plain_of (upper_of case.limits.now v) *ℤ z) high.number) c.weighed-loss.ensures in
    (sized-le gained.size (lit≤ tt), sized-le lost.size (lit≤ tt))

pub plus-sum-requires : goal.plus-sum-requires
plus-sum-requires c =
    let case = c.args.case.now in
    let variables = case.columns + case.rows in
    let v = c.loop-v.v in
    let low = stands-is c.number_at-low.ensures (stands-in c.requires.all_formed (1 + v) (omega arith)) in
    let high = stands-is c.number_at-high.ensures (stands-in c.requires.all_formed (1 + variables + v) (omega arith)) in
    let gained = stands-for
    (ap (λ (z : ℤ). plain_of (lower_of case.limits.now v) *ℤ z) low.number) c.weighed-gain.ensures in
    let lost = stands-for
    (ap (λ (z : ℤ). plain_of (upper_of case.limits.now v) *ℤ z) high.number) c.weighed-loss.ensures in
    let net = stands-is c.less.ensures (stands-less gained lost) in
    let I = case.in_ranges in (
      sized-le (sized-le c.loop-v.invariant.1.size (so_far v (omega (arith, I.few-rows, I.few-columns)))) (lit≤ tt),
      sized-le net.size (lit≤ tt),
    )

pub loop-v-preserved : goal.loop-v-preserved
loop-v-preserved c =
    let case = c.args.case.now in
    let variables = case.columns + case.rows in
    let v = c.loop-v.v in
    let low = stands-is c.number_at-low.ensures (stands-in c.requires.all_formed (1 + v) (omega arith)) in
    let high = stands-is c.number_at-high.ensures (stands-in c.requires.all_formed (1 + variables + v) (omega arith)) in
    let gained = stands-for
    (ap (λ (z : ℤ). plain_of (lower_of case.limits.now v) *ℤ z) low.number) c.weighed-gain.ensures in
    let lost = stands-for
    (ap (λ (z : ℤ). plain_of (upper_of case.limits.now v) *ℤ z) high.number) c.weighed-loss.ensures in
    let net = stands-is c.less.ensures (stands-less gained lost) in
    let I = case.in_ranges in (
      omega arith,
      stands-is c.plus-sum.ensures (stands-for (more case.limits.now case.answer.now variables v)
          (stands-le (stands-plus c.loop-v.invariant.1 net) (wider v))),
    )

all : (c : After-loop-v) → c.loop-v.v ≡ c.args.case.now.columns + c.args.case.now.rows
all c = omega arith

pub returns : goal.returns
returns c =
    let case = c.args.case.now in
    let I = case.in_ranges in
    stands-for (ap (λ (k : ℕ). surplus_in case.limits.now case.answer.now (case.columns + case.rows) k) (all c))
    (stands-le c.loop-v.invariant.1 (so_far c.loop-v.v (omega (arith, I.few-rows, I.few-columns))))
