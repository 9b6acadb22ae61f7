-- `lines::write_text`: the text is put where it fits. Assumes nothing.
use Rattle.std.proofs.Common.{ap, drop, length, ◌++◌}
use Rattle.lines.proofs.Texts.{printed-all, printed-none}
use Rattle.lines.proofs.write_text.Goals as goal

pub returns-then-out-size : goal.returns-then-out-size
returns-then-out-size c = printed-none c.if-out-size.true

pub returns : goal.returns
returns c = printed-all c.if-out-size.false
    (ap (λ l. l ++ drop (length c.args.text.now) c.args.out.now) c.copy_from_slice.ensures.after)
