-- `exchange::write` meets its contract: the number of what was refused, or how many bytes were put. Assumes nothing.
use Rattle.std.proofs.Common.{Err, Ok, ◌∙◌, ap}
use Rattle.rules.specs.Exchange.Script.{exchange_text}
use Rattle.exchange.specs.Sent.{sent_by}
use Rattle.exchange.proofs.Laws.Sent.{text-answered}
use Rattle.exchange.proofs.write.Goals as goal

pub returns-in-Ok-clause-answer : goal.returns-in-Ok-clause-answer
returns-in-Ok-clause-answer c =
    let text = exchange_text c.args.words.now in
    text-answered text (Ok c.in-Ok.count) c.in-Ok.ensures.size ∙ ap (λ k. sent_by k text) c.in-Ok.ensures.refused

pub returns-in-Err-clause-answer : goal.returns-in-Err-clause-answer
returns-in-Err-clause-answer c =
    let text = exchange_text c.args.words.now in
    rw c.number.ensures
    (text-answered text (Err c.in-Err.refusal) tt ∙ ap (λ k. sent_by k text) c.in-Err.ensures.refused)
