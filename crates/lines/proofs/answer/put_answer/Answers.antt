-- `lines::answer::put_answer`: the text that the verdict asks for. Assumes nothing.
use Rattle.std.proofs.Common.{ap, rules, w64}
use mir.Facts.{sfits_lit}
use mir.Val.{SFits, of_z}
use Rattle.whole.proofs.Numbers.Tests.{test-eq}
use Rattle.rules.specs.Problem.{word}
use Rattle.rules.specs.Program.Text.{ascii, range_text}
use Rattle.rules.proofs.Program.Lengths.{range-short}
use Rattle.rules.proofs.Program.Verdicts.{text-can, text-cannot, text-range}
use Rattle.lines.proofs.answer.put_answer.Goals as goal

pub returns-then-verdict-eq1 : goal.returns-then-verdict-eq1
returns-then-verdict-eq1 c =
    let a = c.args in
    let p : SFits w64 (word a.answer.now 0) = search rules in
    rw (text-can a.answer.now a.variables (test-eq w64 p (sfits_lit tt) c.if-verdict-eq1.true)) c.put_can.ensures

pub returns-then-verdict-eq2 : goal.returns-then-verdict-eq2
returns-then-verdict-eq2 c =
    let a = c.args in
    let p : SFits w64 (word a.answer.now 0) = search rules in
    rw (text-cannot a.answer.now a.variables (test-eq w64 p (sfits_lit tt) c.if-verdict-eq2.true)) c.put_cannot.ensures

pub returns-else-verdict-eq2 : goal.returns-else-verdict-eq2
unfolding range_text ascii
returns-else-verdict-eq2 c =
    let a = c.args in
    let put = c.put_head.ensures in
    rw (text-range a.answer.now a.variables (λ e. c.if-verdict-eq1.false (ap (of_z w64) e))
    (λ e. c.if-verdict-eq2.false (ap (of_z w64) e)))
    (record { put = put.put; short = range-short a.answer.now put.short })
