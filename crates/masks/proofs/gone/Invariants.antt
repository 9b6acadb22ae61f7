-- `masks::gone` meets its contract. The loop's invariant: no variable passed went. Assumes nothing.
use Rattle.std.proofs.Common.{◌≡◌}
use Rattle.std.proofs.Math.Option.{none}
use Rattle.whole.specs.Below.{lowest}
use Rattle.masks.specs.Masks.{gone_at}
use Rattle.masks.proofs.gone.Given as goal

abbrev pub invariant-loop-v : goal.invariant-loop-v
invariant-loop-v l = lowest l.v (gone_at l.from l.to) ≡ none
