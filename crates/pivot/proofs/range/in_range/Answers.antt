-- `pivot::range::in_range` meets its contract. Assumes nothing.
use Rattle.std.proofs.Common.{to_z-of_z}
use Rattle.whole.specs.Numbers.{within}
use Rattle.pivot.proofs.range.in_range.Goals as goal

pub returns : goal.returns
unfolding within
returns c = rw c.unsigned_abs.ensures.value (simp (to_z-of_z c.ranges.a))
