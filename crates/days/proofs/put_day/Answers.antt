-- `days::put_day`: the file is judged, then its bodies are put. Assumes nothing.
use Rattle.std.proofs.Common.{ap, arith, length-take, subst, sym, ◌∙◌}
use Rattle.refusals.proofs.Refused.{number-some}
use Rattle.rules.specs.Program.Text.{lines_below}
use Rattle.rules.specs.Bundle.File.{body_in, count_in, edition_in}
use Rattle.rules.specs.Bundle.Day.{body_text}
use Rattle.rules.proofs.Bundle.Day.{day-lines}
use Rattle.rules.proofs.Bundle.Exactly.{file-accepted-exactly}
use Rattle.lines.proofs.Replies.{front-words-long, front-words, put_as}
use Rattle.bundle.specs.Opened.{Opened}
use Rattle.days.proofs.Days.{day-refused-by, put-within}
use Rattle.days.proofs.put_day.Goals as goal

pub put_refusal-requires : goal.put_refusal-requires
put_refusal-requires c = omega (arith, c.requires)

pub returns-in-Err : goal.returns-in-Err
returns-in-Err c =
    put-within (omega arith) (put_as
    (day-refused-by c.args.file.now c.number.result (c.number.ensures ∙ c.in-Err.ensures)
    (λ z. number-some c.in-Err.refusal (sym c.number.ensures ∙ z)))
    c.put_refusal.ensures)

pub words_of-count-requires : goal.words_of-count-requires
words_of-count-requires c =
    let a = (file-accepted-exactly c.args.file.now).0 (sym c.in-Ok.ensures) in omega (arith, a.few)

pub slice_bounds-words-end : goal.slice_bounds-words-end
slice_bounds-words-end c =
    let w = c.words_of-count in
    let h = front-words-long c.args.file.now _ w.ensures.count w.ensures.content in
    omega (arith, h, length-take w.result w.new.words)

pub slice_bounds-put_bodies-end : goal.slice_bounds-put_bodies-end
slice_bounds-put_bodies-end c =
    front-words-long c.args.file.now _ c.words_of-count.ensures.count c.words_of-count.ensures.content

pub put_bodies-requires : goal.put_bodies-requires
put_bodies-requires c =
    let w = c.words_of-count.ensures in
    let a = (file-accepted-exactly c.args.file.now).0 (sym c.in-Ok.ensures) in (
      subst Opened (sym (front-words c.args.file.now _ w.count w.content))
          (record { bytes = c.args.file.now; accepted = a }),
      c.requires,
    )

pub returns-in-Ok : goal.returns-in-Ok
returns-in-Ok c =
    let w = c.words_of-count.ensures in
    put_as
    (ap (λ ws. lines_below (count_in ws) (λ i. body_text (edition_in ws) (body_in ws i)))
    (front-words c.args.file.now _ w.count w.content)
    ∙ sym (day-lines c.args.file.now (sym c.in-Ok.ensures)))
    c.put_bodies.ensures
