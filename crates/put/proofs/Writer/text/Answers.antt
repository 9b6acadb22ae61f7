-- `put::Writer::text` meets its contract: behind the end nothing is put, and else one byte more. Assumes nothing.
use Rattle.std.proofs.Common.{add-one, arith}
use lib.Seq.{take-suc}
use Rattle.put.proofs.Texts.{put-past, put_then}
use Rattle.put.proofs.Writer.text.Goals as goal

pub loop-byte-preserved : goal.loop-byte-preserved
loop-byte-preserved c =
    rw (add-one, take-suc c.args.text.now c.loop-byte.byte-index 0 (omega arith))
    (put_then c.loop-byte.invariant c.byte.ensures)

pub returns-then-self : goal.returns-then-self
returns-then-self c = put-past c.args.self.now c.args.text.now (omega arith)
