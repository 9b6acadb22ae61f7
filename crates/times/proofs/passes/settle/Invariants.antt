-- `times::passes::settle` meets its contract. The invariant of its loop: k passes are done, and the way back is due
-- after a later one, among the first 64; that of the loop inside: a pass more has come as far as row i. The measures
-- are the passes left of 64, and the rows left. A way back that closed nothing has a place left, and no more places
-- than are left of n passes: so it is due again, and not past them. Assumes nothing.
use Prim.Native.Nat.{◌-◌}
use Rattle.rules.specs.Sizes.{most_vertices}
use Rattle.times.specs.Steps.{Looked, Pass}
use Rattle.times.proofs.Laws.Due.{Due}
use Rattle.times.proofs.passes.settle.Given as goal

abbrev pub invariant-loop-i-2 : goal.invariant-loop-i-2
invariant-loop-i-2 l = Due l.k l.due × Pass l.rows.words.now l.k l.i l.best l.last l.row

abbrev pub invariant-loop-i : goal.invariant-loop-i
invariant-loop-i l = Due l.k l.due × Looked l.rows.words.now l.k 0 l.best l.last

abbrev pub decreases-loop-i : goal.decreases-loop-i
decreases-loop-i l = most_vertices - l.k
