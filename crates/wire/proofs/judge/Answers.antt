-- `wire::judge` meets its contract: each return is the first line of the table that applies. Assumes nothing.
use Rattle.std.proofs.Common.{arith, inl, inr, refl, sym}
use Rattle.rules.proofs.Program.Counts.{count-exactly, count-fine}
use Rattle.wire.proofs.judge.Goals as goal

pub returns-then-count-lt8 : goal.returns-then-count-lt8
returns-then-count-lt8 c = sym ((count-exactly c.args.count 1).1 (inl (c.if-count-lt8.true, refl)))

pub returns-then-count-ne0 : goal.returns-then-count-ne0
returns-then-count-ne0 c = sym ((count-exactly c.args.count 3).1 (inr (λ h. omega arith, inl (grind arith, refl))))

pub returns : goal.returns
returns c =
    sym ((count-fine c.args.count).1
    (c.if-count-lt8.false, ((c.if-count-ne0.false, c.if-count-gt-MOST_BYTES.false), tt)))
