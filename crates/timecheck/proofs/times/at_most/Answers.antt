-- `timecheck::times::at_most` meets its contract. Assumes nothing.
use mathlib.Core.Bool.{false}
use lib.IntN.{pos}
use mir.Facts.{to_z-of_z}
use Rattle.rules.proofs.Evidence.Joined.{clears-joined}
use Rattle.timecheck.proofs.times.at_most.Goals as goal

pub returns : goal.returns
returns c = let a = c.args in
    simp (to_z-of_z c.ranges.plain, to_z-of_z c.ranges.small)
    (clears-joined false (pos 0) (pos 0) a.plain a.small)
