-- `sheet::text::put_names`: the lines of the variables passed are put. Assumes nothing.
use Rattle.std.proofs.Common.{arith, ◌≡◌}
use Rattle.rules.specs.Sizes.{most_variables}
use Rattle.rules.specs.Program.Text.{lines_below}
use Rattle.put.specs.Put.{Room}
use Rattle.put.proofs.Texts.{put-lines-more, put-lines-room, put-lines-start}
use Rattle.sheet.specs.Lines.{named_lines}
use Rattle.sheet.proofs.text.put_names.Invariants.{entry}
use Rattle.sheet.proofs.text.put_names.Goals as goal

pub loop-v-init : goal.loop-v-init
loop-v-init c = (omega arith, put-lines-start (entry c.args.lower c.args.upper) c.args.out.now)

pub put_named-requires : goal.put_named-requires
unfolding named_lines
put_named-requires c =
    let line-at = entry c.args.lower c.args.upper in
    let room : Room c.args.out.now (lines_below most_variables line-at) = c.requires in
    put-lines-room line-at most_variables c.loop-v.v room c.loop-v.invariant.1 (omega arith)

pub loop-v-preserved : goal.loop-v-preserved
loop-v-preserved c = (
  omega arith,
  put-lines-more (entry c.args.lower c.args.upper) c.loop-v.v c.loop-v.invariant.1 c.put_named.ensures,
)

pub returns : goal.returns
unfolding named_lines
returns c = let all : c.loop-v.v ≡ most_variables = omega arith in rw all at c.loop-v.invariant.1
