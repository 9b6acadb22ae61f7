-- `cannot::columns_cancel` meets its contract. Assumes nothing.
use Rattle.std.proofs.Common.{ap, sym, ◌∙◌, ℤ, pos, rules, arith, w64}
use lib.Dec.{lit<}
use mir.Val.{SFits}
use Rattle.whole.specs.Numbers.{eq_z}
use Rattle.whole.proofs.Lists.Below.{all_start}
use Rattle.whole.proofs.Tells.{bits-eq}
use Rattle.rules.proofs.Evidence.Joined.{tests-more}
use Rattle.cannot.proofs.columns_cancel.Goals as goal

pub loop-j-init : goal.loop-j-init
loop-j-init c = (sym (all_start _), omega arith)

pub loop-j-preserved : goal.loop-j-preserved
loop-j-preserved c =
    let fit : SFits w64 c.column_sum.result = search rules in (
      tests-more c.loop-j.j _ c.loop-j.invariant.0 (bits-eq w64 fit (record { sfits = lit< tt })
          ∙ ap (λ (z : ℤ). eq_z z (pos 0)) c.column_sum.ensures),
      omega arith,
    )
