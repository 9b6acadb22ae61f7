-- `timerows::judge::row_faults` meets its contract. The invariant of its loop: what is wrong with the rows below i.
-- Assumes nothing.
use Rattle.timerows.specs.Judged.{Faulty}
use Rattle.timerows.proofs.judge.row_faults.Given as goal

abbrev pub invariant-loop-i : goal.invariant-loop-i
invariant-loop-i l = Faulty l.words l.i l.vertex l.strict l.length
