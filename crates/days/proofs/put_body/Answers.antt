-- `days::put_body`: the body is the part of the words that its pair names. Assumes nothing.
use Rattle.std.proofs.Common.{ap, arith, ◌∙◌}
use Rattle.rules.specs.Refusal.{problem_refusal_within, rows_within}
use Rattle.rules.specs.Program.Reply.{reply_to}
use Rattle.rules.specs.Bundle.File.{body_in, edition_in}
use Rattle.bundle.proofs.Parts.{part_body, part-within}
use Rattle.lines.proofs.Replies.{put_as}
use Rattle.days.proofs.Days.{body-reply}
use Rattle.days.proofs.put_body.Goals as goal

pub part_of-part-requires : goal.part_of-part-requires
part_of-part-requires c = (c.requires.0, c.requires.1)

pub returns : goal.returns
returns c =
    let a = c.args in
    put_as
    (ap (λ b. reply_to (problem_refusal_within (rows_within a.rows) b) b)
    (part_body c.requires.0.accepted a.i c.requires.1 c.part_of-part.result c.part_of-part.ensures)
    ∙ body-reply (edition_in a.words.now) a.rows c.requires.3 (body_in a.words.now a.i))
    c.put_reply.ensures

pub offset_bounds-words-part : goal.offset_bounds-words-part
offset_bounds-words-part c =
    let w = part-within c.requires.0.accepted c.args.i c.requires.1 c.part_of-part.result c.part_of-part.ensures in
    omega (arith, w.0, w.1)

pub slice_bounds-put_reply-count : goal.slice_bounds-put_reply-count
slice_bounds-put_reply-count c =
    let w = part-within c.requires.0.accepted c.args.i c.requires.1 c.part_of-part.result c.part_of-part.ensures in
    omega (arith, w.0, w.1)

pub slice_bounds-put_reply-start : goal.slice_bounds-put_reply-start
slice_bounds-put_reply-start c =
    (part-within c.requires.0.accepted c.args.i c.requires.1 c.part_of-part.result c.part_of-part.ensures).0

pub slice_bounds-put_reply-end : goal.slice_bounds-put_reply-end
slice_bounds-put_reply-end c =
    (part-within c.requires.0.accepted c.args.i c.requires.1 c.part_of-part.result c.part_of-part.ensures).1
