-- `search::leaving` meets its contract. The loop's invariant: no variable passed leaves. Assumes nothing.
use Rattle.std.proofs.Common.{◌≡◌}
use Rattle.std.proofs.Math.Option.{none}
use Rattle.whole.specs.Below.{lowest}
use Rattle.search.specs.Search.{broken_at, seen}
use Rattle.search.proofs.leaving.Given as goal

abbrev pub invariant-loop-v : goal.invariant-loop-v
invariant-loop-v l = lowest l.v (broken_at (seen l.entries l.view l.limits)) ≡ none
