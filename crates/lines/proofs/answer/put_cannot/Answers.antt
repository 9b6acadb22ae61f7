-- `lines::answer::put_cannot`: the head and the multipliers. Assumes nothing.
use Rattle.rules.specs.Program.Text.{ascii, cannot_text}
use Rattle.rules.proofs.Program.Lengths.{cannot-short}
use Rattle.put.proofs.Texts.{put_then}
use Rattle.lines.proofs.answer.put_cannot.Goals as goal

pub returns : goal.returns
unfolding cannot_text ascii
returns c =
    let head = c.put_head.ensures in
    let rest = c.put_evidence.ensures in
    record {
      put = put_then head.put rest.put;
      short = cannot-short c.args.answer.now c.args.variables c.requires.0 head.short rest.short;
    }
