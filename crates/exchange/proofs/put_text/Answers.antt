-- `exchange::put_text` meets its contract: the refusal of the problem, or of the room, or the text. Assumes nothing.
use Rattle.std.proofs.Common.{arith, rules, sym}
use Rattle.std.proofs.lemmas.Result.{err_from_is_err_and}
use Rattle.exchange.proofs.Laws.Sent.{problem-refused, room-refused, text-put}
use Rattle.exchange.proofs.put_text.Goals as goal

pub returns-in_err-judge-clause-refused : goal.returns-in_err-judge-clause-refused
returns-in_err-judge-clause-refused c =
    let p = err_from_is_err_and c.from_residual.result c.from_residual.ensures.1 in
    rw (p.1, p.2) (problem-refused c.args.words.now c.args.text.now _ c.in_err-judge.ensures).0

pub returns-in_err-judge-clause-bytes : goal.returns-in_err-judge-clause-bytes
returns-in_err-judge-clause-bytes c =
    let p = err_from_is_err_and c.from_residual.result c.from_residual.ensures.1 in
    rw (p.1, p.2) (problem-refused c.args.words.now c.args.text.now _ c.in_err-judge.ensures).1

pub returns-then-text-size-clause-refused : goal.returns-then-text-size-clause-refused
returns-then-text-size-clause-refused c =
    (room-refused c.args.words.now c.args.text.now (sym c.in_ok-judge.ensures) (omega arith)).0

pub returns-then-text-size-clause-bytes : goal.returns-then-text-size-clause-bytes
returns-then-text-size-clause-bytes c =
    (room-refused c.args.words.now c.args.text.now (sym c.in_ok-judge.ensures) (omega arith)).1

pub returns-clause-refused : goal.returns-clause-refused
returns-clause-refused c =
    let start = c.new.ensures in
    let sent = text-put c.args.words.now c.args.text.now (sym c.in_ok-judge.ensures) (omega arith) in
    (sent start.bytes start.place c.put_script.ensures).0

pub returns-clause-bytes : goal.returns-clause-bytes
returns-clause-bytes c =
    let start = c.new.ensures in
    let sent = text-put c.args.words.now c.args.text.now (sym c.in_ok-judge.ensures) (omega arith) in
    let put = (sent start.bytes start.place c.put_script.ensures).1 in
    search (rules, put)
