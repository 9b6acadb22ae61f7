-- `sheet::put_file`: the file is judged, then the totals of its bodies are put. Assumes nothing.
use Rattle.std.proofs.Common.{ap, arith, length-take, subst, sym, ◌∙◌}
use Rattle.refusals.proofs.Refused.{number-some}
use Rattle.rules.proofs.Bundle.Exactly.{file-accepted-exactly}
use Rattle.lines.proofs.Replies.{front-words-long, front-words}
use Rattle.bundle.specs.Opened.{Opened}
use Rattle.tally.specs.Sums.{totals_in}
use Rattle.sheet.proofs.Laws.Sheets.{refused-put, sheet-put, sheet-room}
use Rattle.sheet.proofs.put_file.Goals as goal

pub returns-in-Err : goal.returns-in-Err
returns-in-Err c =
    refused-put c.args.file.now c.number.result (c.number.ensures ∙ c.in-Err.ensures)
    (λ z. number-some c.in-Err.refusal (sym c.number.ensures ∙ z)) c.put_refusal.ensures

pub words_of-count-requires : goal.words_of-count-requires
words_of-count-requires c =
    let a = (file-accepted-exactly c.args.file.now).0 (sym c.in-Ok.ensures) in omega (arith, a.few)

pub slice_bounds-words-end : goal.slice_bounds-words-end
slice_bounds-words-end c =
    let w = c.words_of-count in
    let h = front-words-long c.args.file.now _ w.ensures.count w.ensures.content in
    omega (arith, h, length-take w.result w.new.words)

pub slice_bounds-totals-end : goal.slice_bounds-totals-end
slice_bounds-totals-end c =
    front-words-long c.args.file.now _ c.words_of-count.ensures.count c.words_of-count.ensures.content

pub totals-requires : goal.totals-requires
totals-requires c =
    let w = c.words_of-count.ensures in
    let a = (file-accepted-exactly c.args.file.now).0 (sym c.in-Ok.ensures) in
    subst Opened (sym (front-words c.args.file.now _ w.count w.content))
    (record { bytes = c.args.file.now; accepted = a })

pub put_sheet-requires : goal.put_sheet-requires
put_sheet-requires c =
    let w = c.words_of-count.ensures in
    sheet-room c.args.file.now (sym c.in-Ok.ensures)
    (c.totals.ensures ∙ ap totals_in (front-words c.args.file.now _ w.count w.content)) (omega (arith, c.requires))

pub returns-in-Ok : goal.returns-in-Ok
returns-in-Ok c =
    let w = c.words_of-count.ensures in
    sheet-put c.args.file.now (sym c.in-Ok.ensures)
    (c.totals.ensures ∙ ap totals_in (front-words c.args.file.now _ w.count w.content)) c.put_sheet.ensures
