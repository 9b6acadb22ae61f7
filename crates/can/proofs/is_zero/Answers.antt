-- `can::is_zero` meets its contract. Assumes nothing.
use Rattle.std.proofs.Common.{ap, sym, ◌∙◌, ◌+◌, ◌-◌, ℤ, pos, rules, arith, w64, take, drop}
use lib.Dec.{lit<}
use mir.Val.{SFits}
use Rattle.whole.proofs.Lists.Below.{all_start}
use Rattle.whole.proofs.Tells.{bits-eq}
use Rattle.whole.specs.Numbers.{eq_z}
use Rattle.rules.specs.Problem.{word}
use Rattle.rules.proofs.Evidence.Joined.{tests-more}
use Rattle.parts.proofs.Laws.Halves.{window}
use Rattle.can.proofs.is_zero.Goals as goal

pub loop-x-init : goal.loop-x-init
loop-x-init c = (omega arith, sym (all_start _))

-- a test of a word's bits for 0 is one of the number
pub loop-x-preserved : goal.loop-x-preserved
loop-x-preserved c =
    let half = c.args.half.now in
    let i = c.loop-x.x-index in
    let fit : SFits w64 (word (take (3 + c.args.variables - 3) (drop 3 half)) i) = search rules in (
      omega arith,
      tests-more i _ c.loop-x.invariant.1 (bits-eq w64 fit (record { sfits = lit< tt })
          ∙ ap (λ (z : ℤ). eq_z z (pos 0)) (window half 3 c.args.variables i (omega arith))),
    )
