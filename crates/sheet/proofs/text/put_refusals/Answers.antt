-- `sheet::text::put_refusals`: the lines of the refusals passed are put. Assumes nothing.
use Rattle.std.proofs.Common.{arith, List, ℕ, ◌++◌, ◌≡◌}
use Rattle.rules.specs.Program.Text.{lines_below}
use Rattle.rules.specs.Sheet.Text.{refused_line, refused_lines}
use Rattle.put.specs.Put.{Room}
use Rattle.put.specs.declared.Writer.{Writer}
use Rattle.put.proofs.Texts.{put-lines-more, put-lines-room, put-lines-start, put_then, room-left, room-right}
use Rattle.sheet.specs.Lines.{count_at}
use Rattle.sheet.proofs.text.put_refusals.Invariants.{entry}
use Rattle.sheet.proofs.text.put_refusals.Goals as goal

pub loop-j-init : goal.loop-j-init
loop-j-init c = (omega arith, put-lines-start (entry c.args.refused) c.args.out.now)

-- room for 1 to 6, and then for 10
room : {w : Writer} (counts : List ℕ) → Room w (refused_lines (count_at counts)) →
    Room w (lines_below 6 (entry counts) ++ refused_line 10 (count_at counts 10))
unfolding refused_lines
room counts r = r

pub put_refused-requires : goal.put_refused-requires
put_refused-requires c =
    let counts = c.args.refused in
    put-lines-room (entry counts) 6 c.loop-j.j (room-left (refused_line 10 (count_at counts 10))
    (room counts c.requires)) c.loop-j.invariant.1 (omega arith)

pub loop-j-preserved : goal.loop-j-preserved
loop-j-preserved c = (
  omega arith,
  put-lines-more (entry c.args.refused) c.loop-j.j c.loop-j.invariant.1 c.put_refused.ensures,
)

pub put_refused-requires-2 : goal.put_refused-requires-2
put_refused-requires-2 c =
    let all : c.loop-j.j ≡ 6 = omega arith in
    let six = rw all at c.loop-j.invariant.1 in
    room-right six (room c.args.refused c.requires)

pub returns : goal.returns
unfolding refused_lines
returns c =
    let all : c.loop-j.j ≡ 6 = omega arith in
    let six = rw all at c.loop-j.invariant.1 in
    put_then six c.put_refused-2.ensures
