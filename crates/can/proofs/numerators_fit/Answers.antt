-- `can::numerators_fit` meets its contract. Assumes nothing.
use Rattle.std.proofs.Common.{◌≡◌, subst, ap, sym, ◌∙◌, ◌+◌, ◌-◌, neg_ℤ, nat_abs, not, rules, arith, w64, take, drop}
use lib.IntN.{+ℤ_idl}
use mir.Facts.{to_z-of_z}
use mir.Val.{SFits}
use Rattle.whole.specs.Numbers.{within}
use Rattle.whole.proofs.Lists.Below.{all_start}
use Rattle.whole.proofs.Numbers.Sizes.{fits-by, within-neg}
use Rattle.rules.specs.Evidence.{lower_part}
use Rattle.rules.specs.Problem.{word}
use Rattle.rules.proofs.Evidence.Joined.{tests-more}
use Rattle.parts.proofs.Laws.Halves.{window}
use Rattle.parts.proofs.Laws.Tests.{not-not, outside-largest}
use Rattle.can.proofs.numerators_fit.Goals as goal

pub loop-x-init : goal.loop-x-init
loop-x-init c = (omega arith, sym (all_start _))

pub loop-x-preserved : goal.loop-x-preserved
loop-x-preserved c =
    let half = c.args.half.now in
    let largest = c.args.largest in
    let i = c.loop-x.x-index in
    let f : SFits w64 largest = c.ranges.largest in
    let back : SFits w64 (neg_ℤ largest) = fits-by (within-neg c.requires.pos_bound.1) tt in
    let read : word (take (3 + c.args.variables - 3) (drop 3 half)) i ≡ lower_part half i =
    window half 3 c.args.variables i (omega arith) in
    let given : SFits w64 (word (take (3 + c.args.variables - 3) (drop 3 half)) i) = search rules in
    let fit : SFits w64 (lower_part half i) = subst (λ z. SFits w64 z) read given in
    let told : not c.is_outside.result ≡ within (nat_abs largest) (lower_part half i) =
    ap not (simp (read, to_z-of_z fit, to_z-of_z f, +ℤ_idl, to_z-of_z back) at c.is_outside.ensures
    ∙ outside-largest largest (lower_part half i) c.requires.pos_bound.0)
    ∙ not-not (within (nat_abs largest) (lower_part half i)) in (
      omega arith,
      simp (to_z-of_z f) (tests-more i (λ v. within (nat_abs largest) (lower_part half v))
          (simp (to_z-of_z f) at c.loop-x.invariant.1) told),
    )
