-- `vectors::cycle::is_listed` meets its contract. Assumes nothing.
use borrow.Author.Rules.{rules}
use mathlib.Core.Path.{sym, ap, ◌∙◌}
use Prim.Native.Nat.{◌+◌}
use native.Mathlib.Omega.{arith}
use mir.Facts.{to_z-of_z}
use mir.Syntax.{w64}
use mir.Val.{SFits, of_z, to_z}
use Rattle.whole.proofs.Numbers.Tests.{test-eq}
use Rattle.rules.specs.Problem.{word}
use Rattle.vectors.proofs.Listing.{none-listed, one-listed, more-listed}
use Rattle.vectors.proofs.cycle.is_listed.Goals as goal

pub loop-i-init : goal.loop-i-init
loop-i-init c = none-listed _ _

pub returns-then-listed-row : goal.returns-then-listed-row
returns-then-listed-row c =
    let listed : SFits w64 (word c.args.out.now (2 + c.loop-i.i)) = search rules in
    sym (one-listed c.args.out.now c.args.row c.args.rows c.loop-i.i (omega arith)
    (test-eq w64 listed c.ranges.row c.if-listed-row.true))

pub loop-i-preserved : goal.loop-i-preserved
loop-i-preserved c =
    more-listed c.args.out.now (to_z w64 (of_z w64 c.args.row)) c.loop-i.i c.loop-i.invariant
    (λ e. c.if-listed-row.false (ap (of_z w64) (e ∙ to_z-of_z c.ranges.row)))
