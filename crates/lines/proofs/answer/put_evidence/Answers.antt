-- `lines::answer::put_evidence`: the lines of the variables passed are put. Assumes nothing.
use Rattle.std.proofs.Common.{arith}
use Rattle.rules.specs.Sizes.{most_variables, most_multiplier_lines}
use Rattle.rules.specs.Program.Text.{multiplier_lines}
use Rattle.lines.proofs.Texts.{lines-room, text-lines-more, text-lines-start}
use Rattle.lines.proofs.answer.put_evidence.Goals as goal

pub loop-v-init : goal.loop-v-init
loop-v-init c = (
  omega arith,
  text-lines-start (multiplier_lines c.args.answer.now c.args.variables) most_multiplier_lines c.args.out.now,
)

pub put_multipliers-requires : goal.put_multipliers-requires
put_multipliers-requires c =
    let room = lines-room
    (multiplier_lines c.args.answer.now c.args.variables) most_multiplier_lines c.loop-v.v most_variables
    c.loop-v.invariant.1 (omega (arith, c.requires.0)) c.requires.2 in
    (omega (arith, c.requires.1), omega (arith, c.requires.0), room)

pub loop-v-preserved : goal.loop-v-preserved
loop-v-preserved c = (
  omega arith,
  text-lines-more (multiplier_lines c.args.answer.now c.args.variables) most_multiplier_lines c.loop-v.v
      c.loop-v.invariant.1
      c.put_multipliers.ensures,
)
