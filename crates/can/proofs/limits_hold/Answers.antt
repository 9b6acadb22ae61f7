-- `can::limits_hold` meets its contract. Assumes nothing.
use Rattle.std.proofs.Common.{◌≡◌, ap₂, sym, Bool, ◌&&◌, ◌+◌, rules, arith, w64}
use mir.Facts.{to_z-of_z}
use mir.Val.{SFits}
use Rattle.whole.proofs.Lists.Below.{all_start}
use Rattle.rules.specs.Evidence.{at_least, at_most, lower_part, pair_part, upper_part}
use Rattle.tableau.specs.Parts.{lower_of, upper_of}
use Rattle.parts.specs.Reads.{meets_both, limits_up_to}
use Rattle.rules.proofs.Evidence.Joined.{tests-more}
use Rattle.can.proofs.limits_hold.Goals as goal

pub loop-v-init : goal.loop-v-init
unfolding limits_up_to
loop-v-init c = (omega arith, sym (all_start _))

pub loop-v-preserved : goal.loop-v-preserved
unfolding limits_up_to
loop-v-preserved c =
    let case = c.args.case.now in
    let variables = case.columns + case.rows in
    let v = c.loop-v.v in
    let d = c.args.denominator in
    let f : SFits w64 d = c.ranges.denominator in
    let fit-x : SFits w64 (lower_part case.answer.now v) = search rules in
    let fit-small : SFits w64 (upper_part variables case.answer.now v) = search rules in
    let pair = pair_part variables case.answer.now v in
    let over : c.at_least-over.result ≡ at_least (lower_of case.limits.now v) d pair =
    simp (to_z-of_z f, to_z-of_z fit-x, to_z-of_z fit-small) at c.at_least-over.ensures in
    let under : c.at_most-under.result ≡ at_most (upper_of case.limits.now v) d pair =
    simp (to_z-of_z f, to_z-of_z fit-x, to_z-of_z fit-small) at c.at_most-under.ensures in (
      omega arith,
      simp (to_z-of_z f) (tests-more v
          (λ v. meets_both (lower_of case.limits.now v) (upper_of case.limits.now v) d
          (pair_part variables case.answer.now v))
          (simp (to_z-of_z f) at c.loop-v.invariant.1) (ap₂ (λ (a b : Bool). a && b) over under)),
    )
