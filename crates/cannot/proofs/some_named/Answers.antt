-- `cannot::some_named` meets its contract. Assumes nothing.
use Rattle.std.proofs.Common.{◌≡◌, ap₂, sym, Bool, ◌||◌, rules, arith, w64}
use mir.Facts.{to_z-of_z}
use mir.Val.{SFits}
use Rattle.whole.proofs.Lists.Below.{some-start}
use Rattle.rules.specs.Evidence.{lower_part, strict_named, upper_part}
use Rattle.tableau.specs.Parts.{lower_of, upper_of}
use Rattle.parts.specs.Reads.{some_named}
use Rattle.rules.proofs.Evidence.Joined.{finds-more}
use Rattle.cannot.proofs.some_named.Goals as goal
use Rattle.cannot.proofs.some_named.Goals.{After-loop-v}

pub loop-v-init : goal.loop-v-init
loop-v-init c = (omega arith, sym (some-start _))

pub loop-v-preserved : goal.loop-v-preserved
loop-v-preserved c =
    let limits = c.args.limits.now in
    let answer = c.args.answer.now in
    let variables = c.args.variables in
    let v = c.loop-v.v in
    let fit-low : SFits w64 (lower_part answer v) = search rules in
    let fit-high : SFits w64 (upper_part variables answer v) = search rules in
    let first : c.strict_named-first.result ≡ strict_named (lower_of limits v) (lower_part answer v) =
    simp (to_z-of_z fit-low) at c.strict_named-first.ensures in
    let second : c.strict_named-second.result ≡ strict_named (upper_of limits v) (upper_part variables answer v) =
    simp (to_z-of_z fit-high) at c.strict_named-second.ensures in
    (omega arith, finds-more v _ c.loop-v.invariant.1 (ap₂ (λ (a b : Bool). a || b) first second))

all : (c : After-loop-v) → c.loop-v.v ≡ c.args.variables
all c = omega arith

pub returns : goal.returns
unfolding some_named
returns c = rw (all c) at c.loop-v.invariant.1
