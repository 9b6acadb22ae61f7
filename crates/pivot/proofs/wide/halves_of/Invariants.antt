-- `pivot::wide::halves_of` meets its contract. The invariant: the cells passed are copied, the others 0.
-- Assumes nothing.
use mathlib.Core.Path.{◌≡◌}
use lib.IntN.{pos}
use lib.ListN.{get_or}
use Rattle.whole.specs.Tables.{filled}
use Rattle.layout.specs.Layout.{most_entries}
use Rattle.pivot.proofs.wide.halves_of.Given as goal

abbrev pub invariant-loop-i : goal.invariant-loop-i
invariant-loop-i l = l.half-items ≡ filled most_entries (pos 0) l.i (λ i. get_or l.cells i (pos 0))
