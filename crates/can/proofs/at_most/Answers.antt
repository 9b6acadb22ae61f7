-- `can::at_most` meets its contract. Assumes nothing.
use borrow.Author.Rules.{rules}
use mir.Facts.{to_z-of_z}
use mir.Syntax.{w64}
use mir.Val.{SFits}
use Rattle.parts.proofs.Laws.Tests.{at-most-joined}
use Rattle.can.proofs.at_most.Goals as goal

pub returns : goal.returns
returns c = let a = c.args in let p = c.scaled-most in
    let fit : SFits w64 p.result = search rules in
    at-most-joined _ a.denominator a.x a.small (simp (to_z-of_z c.ranges.denominator) at p.ensures)
    a.limit.on (simp (to_z-of_z fit, to_z-of_z c.ranges.x, to_z-of_z c.ranges.small) at c.clears.ensures)
