-- `reader::limits::variable` meets its contract. The loop's invariant: no variable passed has the name that stands
-- there. The measure is the variables that are left. Assumes nothing.
use mathlib.Core.Bool.{false}
use Rattle.std.specs.Prelude.{Ok}
use mathlib.Core.Path.{◌≡◌}
use Prim.Native.Nat.{ℕ, ◌-◌, ◌≤◌, ◌<◌}
use Rattle.reader.proofs.Laws.Bounds.{name_stands}
use Rattle.reader.proofs.limits.variable.Given as goal

abbrev pub invariant-loop-v : goal.invariant-loop-v
invariant-loop-v l =
    (l.from ≤ l.v) × ((u : ℕ) → u < l.v → name_stands l.text (Ok l.at) l.columns l.from l.most u ≡ false)

abbrev pub decreases-loop-v : goal.decreases-loop-v
decreases-loop-v l = l.most - l.v
