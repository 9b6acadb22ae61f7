-- `lines::line::put_multiplier`: nothing for 0, and the variable's line otherwise. Assumes nothing.
use Rattle.std.proofs.Common.{ap, w64}
use mir.Facts.{sfits_lit, to_z-of_z}
use mir.Val.{of_z}
use Rattle.whole.proofs.Numbers.Tests.{test-eq}
use Rattle.rules.proofs.Program.Verdicts.{multiplier-none, multiplier-some}
use Rattle.put.proofs.Texts.{put-none}
use Rattle.lines.proofs.line.put_multiplier.Goals as goal

pub put_variable-requires : goal.put_variable-requires
put_variable-requires c =
    rw (to_z-of_z c.ranges.n) (rw (multiplier-some c.args.variable c.args.between.now c.args.n
    (λ e. c.if-n-ne0.true (ap (of_z w64) e))) at c.requires)

pub returns-then-n-ne0 : goal.returns-then-n-ne0
returns-then-n-ne0 c =
    rw (multiplier-some c.args.variable c.args.between.now c.args.n (λ e. c.if-n-ne0.true (ap (of_z w64) e)))
    (rw (to_z-of_z c.ranges.n) at c.put_variable.ensures)

pub returns-else-n-ne0 : goal.returns-else-n-ne0
returns-else-n-ne0 c =
    rw (multiplier-none c.args.variable c.args.between.now c.args.n
    (test-eq w64 c.ranges.n (sfits_lit tt) c.if-n-ne0.false))
    (put-none c.args.out.now)
