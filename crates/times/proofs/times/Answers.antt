-- `times::times` meets its contract: a refusal keeps the output, and where there is none `solve` writes the answer.
-- Assumes nothing.
use Rattle.std.proofs.Common.{sym}
use Rattle.std.proofs.lemmas.Result.{err_from_is_err_and}
use Rattle.refusals.proofs.Refused.{number-some}
use Rattle.rules.proofs.Times.Refused.{times-accepted-exactly}
use Rattle.times.proofs.Laws.Answers.{timed-refused}
use Rattle.times.proofs.times.Goals as goal

pub solve-requires : goal.solve-requires
solve-requires c = (times-accepted-exactly _ _).0 (sym c.in_ok-judge.ensures)

pub returns-in_err-judge : goal.returns-in_err-judge
returns-in_err-judge c =
    let p = err_from_is_err_and c.from_residual.result c.from_residual.ensures.1 in
    rw (p.1, p.2) (timed-refused _ _ _ c.in_err-judge.ensures (number-some _))
