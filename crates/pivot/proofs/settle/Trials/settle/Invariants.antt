-- `pivot::settle::Trials::settle` meets its contract. The invariant: the divisor that is tried lies above the greatest
-- one, and cells that are not live are as they were. The measure is its size: what a column leaves of it is smaller, or
-- the loop ends. Assumes nothing.
use lib.IntN.{nat_abs}
use Rattle.pivot.specs.Border.{in_border}
use Rattle.pivot.specs.Trials.{Spared}
use Rattle.pivot.proofs.Laws.Trial.Trying.{Trying}
use Rattle.pivot.proofs.settle.Trials.settle.Given as goal

abbrev pub invariant-loop-j : goal.invariant-loop-j
invariant-loop-j l =
    Trying l.self.entries.now l.self.border.now l.from l.by
    × Spared 0 (in_border l.self.border.now) l.initial.out l.out

abbrev pub decreases-loop-j : goal.decreases-loop-j
decreases-loop-j l = nat_abs l.by
