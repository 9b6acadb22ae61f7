-- `lines::answer::put_can`: the head, the denominator and the values. Assumes nothing.
use Rattle.std.proofs.Common.{rules, arith, w64}
use mir.Facts.{to_z-of_z}
use mir.Val.{SFits}
use Rattle.rules.specs.Problem.{word}
use Rattle.rules.specs.Program.Text.{ascii, can_text}
use Rattle.rules.proofs.Program.Lengths.{can-short, line-short}
use Rattle.put.proofs.Texts.{put_then}
use Rattle.lines.proofs.answer.put_can.Goals as goal

pub put_line-requires : goal.put_line-requires
unfolding ascii
put_line-requires c =
    let p : SFits w64 (word c.args.answer.now 2) = search rules in
    let short = line-short (ascii "over ") (word c.args.answer.now 2) p in
    let head = c.put_head.ensures in
    rw (to_z-of_z p) (record { room = omega (arith, short, head.put.place, head.short, c.requires.2) })

pub put_values-requires : goal.put_values-requires
unfolding ascii
put_values-requires c =
    let p : SFits w64 (word c.args.answer.now 2) = search rules in
    let short = line-short (ascii "over ") (word c.args.answer.now 2) p in
    let head = c.put_head.ensures in
    let over = rw (to_z-of_z p) at c.put_line.ensures in
    (c.requires.0, c.requires.1, omega (arith, short, over.place, head.put.place, head.short, c.requires.2))

pub returns : goal.returns
unfolding can_text ascii
returns c =
    let p : SFits w64 (word c.args.answer.now 2) = search rules in
    let head = c.put_head.ensures in
    record {
      put = put_then (put_then head.put (rw (to_z-of_z p) at c.put_line.ensures)) c.put_values.ensures.put;
      short = can-short c.args.answer.now c.args.variables c.requires.0 head.short p c.put_values.ensures.short;
    }
