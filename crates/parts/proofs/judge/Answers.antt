-- `parts::judge` meets its contract: the problem's refusal, then the answer's length. Assumes nothing.
use Rattle.std.proofs.Common.{length, arith}
use Rattle.std.proofs.lemmas.Result.{err_from_is_err_and}
use Rattle.parts.proofs.Laws.Judged.{case-fits, case-long, case-short, framed-of, judged-columns, judged-rows}
use Rattle.parts.proofs.Laws.Judged.{refused-first, taken-of}
use Rattle.parts.proofs.judge.Goals as goal

pub returns-in_err-judge : goal.returns-in_err-judge
returns-in_err-judge c =
    let p = err_from_is_err_and c.from_residual.result c.from_residual.ensures.1 in
    rw (p.1, p.2) (record { number = refused-first c.args.words.now _ _ c.in_err-judge.ensures; sized = tt })

pub count_at-columns-requires : goal.count_at-columns-requires
count_at-columns-requires c = judged-columns c.args.words.now c.in_ok-judge.ensures

pub count_at-rows-requires : goal.count_at-rows-requires
count_at-rows-requires c = judged-rows c.args.words.now c.in_ok-judge.ensures

pub overflow_add-columns : goal.overflow_add-columns
overflow_add-columns c =
    let F = framed-of c.args.words.now c.in_ok-judge.ensures c.count_at-columns.ensures c.count_at-rows.ensures in
    omega (arith, F.few-columns, F.few-rows)

pub overflow_mul-each : goal.overflow_mul-each
overflow_mul-each c =
    let h = case-fits c.args.words.now c.in_ok-judge.ensures c.count_at-columns.ensures c.count_at-rows.ensures
    c.requires.0 c.requires.1 in
    omega (arith, h)

pub overflow_add-head : goal.overflow_add-head
overflow_add-head c =
    let h = case-fits c.args.words.now c.in_ok-judge.ensures c.count_at-columns.ensures c.count_at-rows.ensures
    c.requires.0 c.requires.1 in
    omega (arith, h)

pub returns-then-answer-head-clause-number : goal.returns-then-answer-head-clause-number
returns-then-answer-head-clause-number c =
    case-short c.args.words.now c.in_ok-judge.ensures c.count_at-columns.ensures c.count_at-rows.ensures
    (length c.args.answer.now) c.args.head c.args.each c.if-answer-head.true

pub returns-clause-number : goal.returns-clause-number
returns-clause-number c =
    case-long c.args.words.now c.in_ok-judge.ensures c.count_at-columns.ensures c.count_at-rows.ensures
    (length c.args.answer.now) c.args.head c.args.each c.if-answer-head.false

pub returns-clause-sized : goal.returns-clause-sized
returns-clause-sized c = record {
  framed = framed-of c.args.words.now c.in_ok-judge.ensures c.count_at-columns.ensures c.count_at-rows.ensures;
  accepted = taken-of c.args.words.now c.in_ok-judge.ensures;
  long = c.if-answer-head.false;
}
