-- `lines::answer::put_values`: the lines of the variables passed are put. Assumes nothing.
use Rattle.std.proofs.Common.{arith}
use Rattle.rules.specs.Sizes.{most_variables, most_value_line}
use Rattle.rules.specs.Program.Text.{value_line}
use Rattle.lines.proofs.Texts.{lines-room, text-lines-more, text-lines-start}
use Rattle.lines.proofs.answer.put_values.Goals as goal

pub loop-v-init : goal.loop-v-init
loop-v-init c = (
  omega arith,
  text-lines-start (value_line c.args.answer.now c.args.variables) most_value_line c.args.out.now,
)

pub put_value-requires : goal.put_value-requires
put_value-requires c =
    let room = lines-room (value_line c.args.answer.now c.args.variables) most_value_line c.loop-v.v most_variables
    c.loop-v.invariant.1 (omega (arith, c.requires.0)) c.requires.2 in
    (omega (arith, c.requires.1), omega (arith, c.requires.0), room)

pub loop-v-preserved : goal.loop-v-preserved
loop-v-preserved c = (
  omega arith,
  text-lines-more (value_line c.args.answer.now c.args.variables) most_value_line c.loop-v.v c.loop-v.invariant.1
      c.put_value.ensures,
)
