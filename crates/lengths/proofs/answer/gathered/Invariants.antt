-- `lengths::answer::gathered` meets its contract. The invariant of its loop: the rows passed stand at the front, zeros
-- after them. Assumes nothing.
use Rattle.std.proofs.Common.{◌≡◌, ◌++◌, map, pos, take, drop}
use Rattle.lengths.specs.Answer.{rows_of}
use Rattle.lengths.proofs.answer.gathered.Given as goal

abbrev pub invariant-loop-i : goal.invariant-loop-i
invariant-loop-i l = l.plain ≡ take l.i (map pos (rows_of l.fn.way)) ++ drop l.i l.initial.plain
