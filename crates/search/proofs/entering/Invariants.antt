-- `search::entering` meets its contract. The loop's invariant: no variable passed enters. Assumes nothing.
use Rattle.std.proofs.Common.{◌≡◌}
use Rattle.std.proofs.Math.Option.{none}
use Rattle.whole.specs.Below.{lowest}
use Rattle.sides.specs.Sides.{side_by}
use Rattle.search.specs.Search.{entering_of, seen}
use Rattle.search.proofs.entering.Given as goal

abbrev pub invariant-loop-w : goal.invariant-loop-w
invariant-loop-w l = lowest l.w (entering_of (seen l.entries l.view l.limits) l.row.0 (side_by l.rises)) ≡ none
