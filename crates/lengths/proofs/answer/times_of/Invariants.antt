-- `lengths::answer::times_of` meets its contract. The invariant of its loop: the parts of the distances passed stand at
-- the front of the halves. Assumes nothing.
use Rattle.std.proofs.Common.{◌≡◌, ◌++◌, map, take, drop}
use Rattle.lengths.specs.Lengths.{plain_part, small_part}
use Rattle.lengths.proofs.answer.times_of.Given as goal

abbrev pub invariant-loop-v : goal.invariant-loop-v
invariant-loop-v l =
    (l.plain ≡ take l.v (map plain_part l.fn.best) ++ drop l.v l.initial.plain)
    × (l.small ≡ take l.v (map small_part l.fn.best) ++ drop l.v l.initial.small)
