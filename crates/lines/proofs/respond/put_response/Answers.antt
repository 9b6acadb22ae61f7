-- `lines::respond::put_response`: the byte count is judged, then the words are replied to. Assumes nothing.
use Rattle.std.proofs.Common.{ap, arith, length-take, sym, ◌∙◌, List, ℤ}
use Rattle.refusals.proofs.Refused.{number-some}
use Rattle.rules.specs.Program.Reply.{reply_to}
use Rattle.rules.specs.Refusal.{problem_refusal}
use Rattle.lines.proofs.Replies.{front-words-long, front-words, program-refused, program-replied, put_as, words-few}
use Rattle.lines.proofs.respond.put_response.Goals as goal

pub words_of-count-requires : goal.words_of-count-requires
words_of-count-requires c = words-few c.args.input.now (sym c.in-Ok.ensures)

pub slice_bounds-words-end : goal.slice_bounds-words-end
slice_bounds-words-end c =
    let w = c.words_of-count in
    let h = front-words-long c.args.input.now _ w.ensures.count w.ensures.content in
    omega (arith, h, length-take w.result w.new.words)

pub slice_bounds-put_reply-end : goal.slice_bounds-put_reply-end
slice_bounds-put_reply-end c =
    front-words-long c.args.input.now _ c.words_of-count.ensures.count c.words_of-count.ensures.content

pub returns-in-Err : goal.returns-in-Err
returns-in-Err c =
    put_as (program-refused c.args.input.now c.number.result (c.number.ensures ∙ c.in-Err.ensures)
    (λ z. number-some c.in-Err.refusal (sym c.number.ensures ∙ z))) c.put_refusal.ensures

pub returns-in-Ok : goal.returns-in-Ok
unfolding problem_refusal
returns-in-Ok c =
    let w = c.words_of-count.ensures in
    put_as (ap (λ (ws : List ℤ). reply_to (problem_refusal ws) ws) (front-words c.args.input.now _ w.count w.content)
    ∙ program-replied c.args.input.now (sym c.in-Ok.ensures)) c.put_reply.ensures
