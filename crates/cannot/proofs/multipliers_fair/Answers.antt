-- `cannot::multipliers_fair` meets its contract. Assumes nothing.
use Rattle.std.proofs.Common.{◌≡◌, ap₂, sym, Bool, ◌&&◌, ◌+◌, rules, arith, w64}
use mir.Facts.{to_z-of_z}
use mir.Val.{SFits}
use Rattle.whole.proofs.Lists.Below.{all_start}
use Rattle.rules.specs.Evidence.{fair, lower_part, upper_part}
use Rattle.tableau.specs.Parts.{lower_of, upper_of}
use Rattle.parts.specs.Reads.{multipliers_fair}
use Rattle.rules.proofs.Evidence.Joined.{tests-more}
use Rattle.cannot.proofs.multipliers_fair.Goals as goal
use Rattle.cannot.proofs.multipliers_fair.Goals.{After-loop-v}

pub loop-v-init : goal.loop-v-init
loop-v-init c = (omega arith, sym (all_start _))

pub loop-v-preserved : goal.loop-v-preserved
loop-v-preserved c =
    let case = c.args.case.now in
    let variables = case.columns + case.rows in
    let v = c.loop-v.v in
    let fit-low : SFits w64 (lower_part case.answer.now v) = search rules in
    let fit-high : SFits w64 (upper_part variables case.answer.now v) = search rules in
    let first : c.fair-first.result ≡ fair (lower_of case.limits.now v) (lower_part case.answer.now v) =
    simp (to_z-of_z fit-low) at c.fair-first.ensures in
    let second : c.fair-second.result ≡ fair (upper_of case.limits.now v) (upper_part variables case.answer.now v) =
    simp (to_z-of_z fit-high) at c.fair-second.ensures in
    (omega arith, tests-more v _ c.loop-v.invariant.1 (ap₂ (λ (a b : Bool). a && b) first second))

all : (c : After-loop-v) → c.loop-v.v ≡ c.args.case.now.columns + c.args.case.now.rows
all c = omega arith

pub returns : goal.returns
unfolding multipliers_fair
returns c = rw (all c) at c.loop-v.invariant.1
