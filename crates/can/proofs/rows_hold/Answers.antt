-- `can::rows_hold` meets its contract. Assumes nothing.
use Rattle.std.proofs.Common.{◌≡◌, ap, ap₂, sym, ◌∙◌, ◌+◌, ◌-◌, rules, arith, w64, take, drop}
use mir.Val.{SFits}
use Rattle.whole.specs.Numbers.{eq_z}
use Rattle.whole.proofs.Lists.Below.{all_start}
use Rattle.whole.proofs.Tells.{bits-eq}
use Rattle.rules.specs.Problem.{word}
use Rattle.rules.proofs.Evidence.Joined.{tests-more}
use Rattle.parts.proofs.Laws.Halves.{window}
use Rattle.can.proofs.rows_hold.Goals as goal

pub loop-i-init : goal.loop-i-init
loop-i-init c = (omega arith, sym (all_start _))

pub loop-i-preserved : goal.loop-i-preserved
loop-i-preserved c =
    let half = c.args.half.now in
    let columns = c.args.case.now.columns in
    let rows = c.args.case.now.rows in
    let i = c.loop-i.i in
    let given : SFits w64 (word (take (3 + columns + rows - (3 + columns)) (drop (3 + columns) half)) i) =
    search rules in
    let sum : SFits w64 c.row_sum.result = search rules in
    let there : 3 + columns + i ≡ 3 + (columns + i) = omega arith in (
      omega arith,
      tests-more i _ c.loop-i.invariant.1 (bits-eq w64 given sum
          ∙ ap₂ eq_z (window half (3 + columns) rows i (omega arith) ∙ ap (word half) there) c.row_sum.ensures),
    )
