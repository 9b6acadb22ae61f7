-- `tally::tallied` meets its contract. The invariant: the counts of the variables passed are told, the others as
-- they were. The measure is how many variables are left. Assumes nothing.
use mathlib.Core.List.{◌++◌}
use mathlib.Core.Path.{◌≡◌}
use Prim.Native.Nat.{◌-◌, ◌≤◌}
use lib.ListN.{drop}
use Rattle.whole.specs.Tables.{table}
use Rattle.tally.specs.Counting.{one_more}
use Rattle.tally.proofs.tallied.Given as goal

abbrev pub invariant-loop-v : goal.invariant-loop-v
invariant-loop-v l =
    (l.v ≤ l.variables) × (l.counts ≡ table l.v (one_more l.initial.counts l.answer l.at) ++ drop l.v l.initial.counts)

abbrev pub decreases-loop-v : goal.decreases-loop-v
decreases-loop-v l = l.variables - l.v
