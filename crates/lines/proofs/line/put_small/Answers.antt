-- `lines::line::put_small`: a newline for 0, else a space, the number and a newline. Assumes nothing.
use Rattle.std.proofs.Common.{ap, w64}
use mir.Facts.{sfits_lit, to_z-of_z}
use mir.Val.{of_z}
use Rattle.whole.proofs.Numbers.Tests.{test-eq}
use Rattle.rules.specs.Program.Text.{ascii}
use Rattle.rules.proofs.Program.Verdicts.{end_none, end-some}
use Rattle.lines.proofs.line.put_small.Goals as goal

pub byte-requires : goal.byte-requires
unfolding ascii
byte-requires c = rw (end_none c.args.n (test-eq w64 c.ranges.n (sfits_lit tt) c.if-n-eq0.true)) at c.requires

pub put_line-requires : goal.put_line-requires
unfolding ascii
put_line-requires c =
    rw (to_z-of_z c.ranges.n) (rw (end-some c.args.n (λ e. c.if-n-eq0.false (ap (of_z w64) e))) at c.requires)

pub returns-then-n-eq0 : goal.returns-then-n-eq0
unfolding ascii
returns-then-n-eq0 c = rw (end_none c.args.n (test-eq w64 c.ranges.n (sfits_lit tt) c.if-n-eq0.true)) c.byte.ensures

pub returns-else-n-eq0 : goal.returns-else-n-eq0
unfolding ascii
returns-else-n-eq0 c =
    rw (end-some c.args.n (λ e. c.if-n-eq0.false (ap (of_z w64) e)))
    (rw (to_z-of_z c.ranges.n) at c.put_line.ensures)
