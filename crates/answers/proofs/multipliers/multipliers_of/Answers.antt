-- `answers::multipliers::multipliers_of` meets its contract. The loop's invariant: the multipliers of the variables
-- passed stand in the two arrays, and 0 elsewhere. Assumes nothing.
use Rattle.std.proofs.Common.{◌≡◌, ◌+◌, ◌<◌, pos, neg_ℤ, get_or, ap, ap₂, ◌∙◌, arith, rules, w32, w64, to_z, of_z}
use Rattle.std.proofs.Common.{SFits}
use Rattle.std.proofs.Math.Facts.{to_z-of_z}
use lib.IntN.{+ℤ_idl}
use Rattle.whole.specs.Numbers.{Within}
use Rattle.whole.specs.Tables.{filled}
use Rattle.whole.proofs.Lists.Prefix.{filled-start, filled_more}
use Rattle.whole.proofs.Numbers.Sizes.{fits-by, within-neg}
use Rattle.rules.specs.Sizes.{largest_number, most_variables}
use Rattle.rules.specs.Step.{positive}
use Rattle.tableau.specs.Parts.{nowhere}
use Rattle.answers.specs.Multipliers.{Blockable, multipliers_in, multipliers_laid, pull_in}
use Rattle.answers.proofs.Laws.Pull.{pull-within}
use Rattle.answers.proofs.multipliers.multipliers_of.Goals as goal

pub loop-v-init : goal.loop-v-init
loop-v-init c = record {
  lower = filled-start most_variables (pos 0) _;
  upper = filled-start most_variables (pos 0) _;
}

pub overflow_sub-pull : goal.overflow_sub-pull
overflow_sub-pull c = let a = c.args in
    let seat = get_or a.seats c.loop-v.v nowhere in
    let held : Blockable a.entries.now a.size.rows a.size.columns (to_z w32 (of_z w32 a.common)) a.blocked.row.0 seat =
    simp (to_z-of_z c.ranges.common) (c.requires.by_index c.loop-v.v c.loop-v-test.true) in
    let fit : SFits w64 c.pull_of-pull.result = search rules in
    let small : Within c.pull_of-pull.result largest_number =
    rw c.pull_of-pull.ensures (pull-within a.blocked seat held) in
    simp (to_z-of_z fit, +ℤ_idl) (fits-by (within-neg small) tt)

pub loop-v-preserved : goal.loop-v-preserved
loop-v-preserved c = let a = c.args in
    let few : c.loop-v.v < most_variables = omega arith in
    let pulls = pull_in a.entries.now a.seats a.size.rows a.size.columns (to_z w32 (of_z w32 a.common)) a.blocked in
    let fit : SFits w64 c.pull_of-pull.result = search rules in
    let fit-lower : SFits w64 c.max.result = search rules in
    let fit-upper : SFits w64 c.max-in-loop-v.result = search rules in
    let seat = get_or a.seats c.loop-v.v nowhere in
    let held : Blockable a.entries.now a.size.rows a.size.columns (to_z w32 (of_z w32 a.common)) a.blocked.row.0 seat =
    simp (to_z-of_z c.ranges.common) (c.requires.by_index c.loop-v.v c.loop-v-test.true) in
    let small : Within c.pull_of-pull.result largest_number =
    rw c.pull_of-pull.ensures (pull-within a.blocked seat held) in
    let fit-back : SFits w64 (neg_ℤ c.pull_of-pull.result) = fits-by (within-neg small) tt in
    let lower : c.max.result ≡ positive (neg_ℤ c.pull_of-pull.result) =
    simp (to_z-of_z fit, +ℤ_idl, to_z-of_z fit-back) at c.max.ensures.value in
    let upper : c.max-in-loop-v.result ≡ positive c.pull_of-pull.result =
    simp (to_z-of_z fit) at c.max-in-loop-v.ensures.value in
    record {
      lower = filled_more most_variables (pos 0) (λ v. positive (neg_ℤ (pulls v))) c.loop-v.v few
          c.loop-v.invariant.lower
          (to_z-of_z fit-lower ∙ lower ∙ ap (λ y. positive (neg_ℤ y)) c.pull_of-pull.ensures);
      upper = filled_more most_variables (pos 0) (λ v. positive (pulls v)) c.loop-v.v few c.loop-v.invariant.upper
          (to_z-of_z fit-upper ∙ upper ∙ ap (λ y. positive y) c.pull_of-pull.ensures);
    }

pub returns : goal.returns
unfolding multipliers_laid
returns c = let a = c.args in
    let e : c.loop-v.v ≡ a.size.rows + a.size.columns = omega arith in
    let pulls = pull_in a.entries.now a.seats a.size.rows a.size.columns (to_z w32 (of_z w32 a.common)) a.blocked in
    ap₂ (λ l u. record { lower = l; upper = u })
    (c.loop-v.invariant.lower ∙ ap (λ k. filled most_variables (pos 0) k (λ v. positive (neg_ℤ (pulls v)))) e)
    (c.loop-v.invariant.upper ∙ ap (λ k. filled most_variables (pos 0) k (λ v. positive (pulls v))) e)
    ∙ ap (λ d. multipliers_in a.entries.now a.seats d a.size.rows a.size.columns a.blocked)
    (to_z-of_z c.ranges.common)
