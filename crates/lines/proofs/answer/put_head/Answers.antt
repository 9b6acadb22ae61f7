-- `lines::answer::put_head`: the verdict's line and the pivots. Assumes nothing.
use Rattle.std.proofs.Common.{rules, ℕ, ◌+◌, ◌<◌, ◌^◌, List, ℤ, length, arith, w64}
use mir.Facts.{to_z-of_z}
use mir.Val.{SFits}
use Rattle.rules.specs.Problem.{word}
use Rattle.rules.specs.Sizes.{most_pivots_line}
use Rattle.rules.specs.Program.Text.{ascii, head_lines}
use Rattle.rules.proofs.Program.Lengths.{head-short}
use Rattle.put.specs.Put.{Room}
use Rattle.put.specs.declared.Writer.{Writer}
use Rattle.put.proofs.Texts.{put_then, room-left, room-right}
use Rattle.lines.proofs.answer.put_head.Goals as goal

-- a writer has room for both lines
room : (verdict : List ℕ) (ws : List ℤ) (w : Writer) → SFits w64 (word ws 1) →
    w.at + (length verdict + most_pivots_line) < 2 ^ 64 → Room w (head_lines verdict ws)
room verdict ws w f h = record { room = let s = head-short verdict ws f in omega arith }

pub text-requires : goal.text-requires
unfolding head_lines
text-requires c =
    let p : SFits w64 (word c.args.answer.now 1) = search rules in
    room-left _ (room c.args.verdict.now c.args.answer.now c.args.out.now p c.requires.1)

pub put_line-requires : goal.put_line-requires
unfolding head_lines ascii
put_line-requires c =
    let p : SFits w64 (word c.args.answer.now 1) = search rules in
    rw (to_z-of_z p)
    (room-right c.text.ensures (room c.args.verdict.now c.args.answer.now c.args.out.now p c.requires.1))

pub returns : goal.returns
unfolding head_lines ascii
returns c =
    let p : SFits w64 (word c.args.answer.now 1) = search rules in
    record {
      put = put_then c.text.ensures (rw (to_z-of_z p) at c.put_line.ensures);
      short = head-short c.args.verdict.now c.args.answer.now p;
    }
