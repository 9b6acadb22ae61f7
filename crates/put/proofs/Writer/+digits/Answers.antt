-- `put::Writer::digits` meets its contract: one digit, or the digits of n / 10 and one more. Assumes nothing.
use Rattle.std.proofs.Common.{arith}
use Rattle.rules.proofs.Program.Numbers.{digits-one, digits_more}
use Rattle.put.proofs.Texts.{put_then, room-left, room-right}
use Rattle.put.proofs.Writer.+digits.Goals as goal

pub byte-requires : goal.byte-requires
byte-requires t c = rw (digits-one c.args.n (omega arith)) at c.requires

pub returns-then-n-lt10 : goal.returns-then-n-lt10
returns-then-n-lt10 t c = rw (digits-one c.args.n (omega arith)) c.byte.ensures

pub digits-requires : goal.digits-requires
digits-requires t c = (omega arith, room-left _ (rw (digits_more c.args.n (omega arith)) at c.requires))

pub byte-requires-2 : goal.byte-requires-2
byte-requires-2 t c = room-right c.digits.ensures (rw (digits_more c.args.n (omega arith)) at c.requires)

pub returns : goal.returns
returns t c = rw (digits_more c.args.n (omega arith)) (put_then c.digits.ensures c.byte-2.ensures)
