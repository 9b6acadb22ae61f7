-- `solver::run::advance` meets its contract. The loop's
-- invariant: the tableau is the first one after as many steps as are counted, all of which go on; not more are counted
-- than there are to spend. The measure is what is left to spend. Assumes nothing.
use mathlib.Core.Path.{◌≡◌}
use Prim.Native.Nat.{◌-◌}
use lib.ListN.{length}
use Rattle.layout.specs.Layout.{most_entries}
use Rattle.solver.proofs.Laws.Running.{Running}
use Rattle.solver.proofs.run.advance.Given as goal

abbrev pub invariant-loop-next : goal.invariant-loop-next
invariant-loop-next l = (Running l.initial.t l.most l.t l.count) × (length l.next ≡ most_entries)

abbrev pub decreases-loop-next : goal.decreases-loop-next
decreases-loop-next l = l.most - l.count
