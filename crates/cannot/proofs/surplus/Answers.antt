-- `cannot::surplus` meets its contract. Assumes nothing.
use Rattle.std.proofs.Common.{◌≡◌, refl, sym, List, ℕ, ◌+◌, ◌*◌, ◌≤◌, ◌<◌, ℤ, ◌+ℤ◌, ◌-ℤ◌, ◌*ℤ◌, rules, arith, w64}
use mir.Facts.{to_z-of_z}
use mir.Val.{SFits}
use Rattle.whole.specs.Numbers.{Within}
use Rattle.whole.specs.Sums.{sum_by}
use Rattle.whole.proofs.Numbers.Sizes.{within-le, fits-by}
use Rattle.whole.proofs.Numbers.Sums.{sum_step, sum-within}
use Rattle.rules.specs.Sizes.{largest_limit, largest_number, most_variables}
use Rattle.rules.specs.Evidence.{lower_part, plain_of, upper_part}
use Rattle.tableau.specs.declared.Limits.{Limits}
use Rattle.tableau.specs.Parts.{lower_given, lower_of, upper_given, upper_of}
use Rattle.parts.specs.Reads.{Limited, Multiplied, surplus_up_to}
use Rattle.parts.proofs.Laws.Weights.{net-within}
use Rattle.cannot.proofs.surplus.Goals as goal

pub loop-v-init : goal.loop-v-init
unfolding surplus_up_to sum_by
loop-v-init c = (omega arith, refl)

-- one more variable
module _ (limits : Limits) (a : List ℤ) (variables k : ℕ) where
  abbrev gain : ℕ → ℤ
  gain u = plain_of (lower_of limits u) *ℤ lower_part a u

  abbrev loss : ℕ → ℤ
  loss u = plain_of (upper_of limits u) *ℤ upper_part variables a u

  abbrev up_to : ℕ → ℤ
  up_to u = surplus_up_to limits a variables u

  more : up_to k +ℤ (gain k -ℤ loss k) ≡ up_to (k + 1)
  unfolding surplus_up_to
  more = sym (sum_step k (λ u. gain u -ℤ loss u))

  module _ (L : Limited limits) (M : Multiplied a variables) (few : variables ≤ most_variables) (here : k < variables)
    where
      within-net : (u : ℕ) → u < variables →
          Within (gain u -ℤ loss u) (largest_limit * largest_number + largest_limit * largest_number)
      within-net u h = net-within (lower_given limits u) (upper_given limits u) _ _
          (L.lowers-within u) (M.lower-within u h) (L.uppers-within u) (M.upper-within u h)

      fit-net : SFits w64 (gain k -ℤ loss k)
      fit-net = fits-by (within-net k here) tt

      fit-sum : SFits w64 (up_to k +ℤ (gain k -ℤ loss k))
      unfolding surplus_up_to
      fit-sum = rw more (fits-by (within-le (sum-within (k + 1) (λ u h. within-net u (omega arith))) bound) tt)
        where
          bound : (k + 1) * (largest_limit * largest_number + largest_limit * largest_number)
              ≤ most_variables * (largest_limit * largest_number + largest_limit * largest_number)
          bound = omega arith

pub overflow_sub-sum : goal.overflow_sub-sum
overflow_sub-sum c =
    let case = c.args.case.now in
    let v = c.loop-v.v in
    let variables = case.columns + case.rows in
    let fit-low : SFits w64 (lower_part case.answer.now v) = search rules in
    let fit-high : SFits w64 (upper_part variables case.answer.now v) = search rules in
    let gain : c.weighed-gain.result ≡ plain_of (lower_of case.limits.now v) *ℤ lower_part case.answer.now v =
    simp (to_z-of_z fit-low) at c.weighed-gain.ensures in
    let loss : c.weighed-loss.result ≡ plain_of (upper_of case.limits.now v) *ℤ upper_part variables case.answer.now v =
    simp (to_z-of_z fit-high) at c.weighed-loss.ensures in
    let fit-gain : SFits w64 c.weighed-gain.result = search rules in
    let fit-loss : SFits w64 c.weighed-loss.result = search rules in
    let net = fit-net case.limits.now case.answer.now
    (case.columns + case.rows) c.loop-v.v case.in_ranges.limited c.requires.multiplied
    (omega (arith, case.in_ranges.few-rows, case.in_ranges.few-columns)) (omega arith) in
    rw (to_z-of_z fit-gain, to_z-of_z fit-loss, gain, loss) net

pub overflow_add-sum : goal.overflow_add-sum
overflow_add-sum c =
    let case = c.args.case.now in
    let v = c.loop-v.v in
    let variables = case.columns + case.rows in
    let fit-low : SFits w64 (lower_part case.answer.now v) = search rules in
    let fit-high : SFits w64 (upper_part variables case.answer.now v) = search rules in
    let gain : c.weighed-gain.result ≡ plain_of (lower_of case.limits.now v) *ℤ lower_part case.answer.now v =
    simp (to_z-of_z fit-low) at c.weighed-gain.ensures in
    let loss : c.weighed-loss.result ≡ plain_of (upper_of case.limits.now v) *ℤ upper_part variables case.answer.now v =
    simp (to_z-of_z fit-high) at c.weighed-loss.ensures in
    let fit-gain : SFits w64 c.weighed-gain.result = search rules in
    let fit-loss : SFits w64 c.weighed-loss.result = search rules in
    let net = fit-net case.limits.now case.answer.now
    (case.columns + case.rows) c.loop-v.v case.in_ranges.limited c.requires.multiplied
    (omega (arith, case.in_ranges.few-rows, case.in_ranges.few-columns)) (omega arith) in
    rw (to_z-of_z fit-gain, to_z-of_z fit-loss, gain, loss, to_z-of_z net, c.loop-v.invariant.1)
    (fit-sum case.limits.now case.answer.now
    (case.columns + case.rows) c.loop-v.v case.in_ranges.limited c.requires.multiplied
    (omega (arith, case.in_ranges.few-rows, case.in_ranges.few-columns)) (omega arith))

pub loop-v-preserved : goal.loop-v-preserved
loop-v-preserved c =
    let case = c.args.case.now in
    let v = c.loop-v.v in
    let variables = case.columns + case.rows in
    let fit-low : SFits w64 (lower_part case.answer.now v) = search rules in
    let fit-high : SFits w64 (upper_part variables case.answer.now v) = search rules in
    let gain : c.weighed-gain.result ≡ plain_of (lower_of case.limits.now v) *ℤ lower_part case.answer.now v =
    simp (to_z-of_z fit-low) at c.weighed-gain.ensures in
    let loss : c.weighed-loss.result ≡ plain_of (upper_of case.limits.now v) *ℤ upper_part variables case.answer.now v =
    simp (to_z-of_z fit-high) at c.weighed-loss.ensures in
    let fit-gain : SFits w64 c.weighed-gain.result = search rules in
    let fit-loss : SFits w64 c.weighed-loss.result = search rules in
    let net = fit-net case.limits.now case.answer.now
    (case.columns + case.rows) c.loop-v.v case.in_ranges.limited c.requires.multiplied
    (omega (arith, case.in_ranges.few-rows, case.in_ranges.few-columns)) (omega arith) in
    let sum = fit-sum case.limits.now case.answer.now
    (case.columns + case.rows) c.loop-v.v case.in_ranges.limited c.requires.multiplied
    (omega (arith, case.in_ranges.few-rows, case.in_ranges.few-columns)) (omega arith) in (
      omega arith,
      rw (to_z-of_z fit-gain, to_z-of_z fit-loss, gain, loss, to_z-of_z net, c.loop-v.invariant.1, to_z-of_z sum)
          (more case.limits.now case.answer.now variables v),
    )
