-- `put::Writer::number` meets its contract: below 0 a minus sign, and then the digits of the size. Assumes nothing.
use Rattle.std.proofs.Common.{arith}
use mir.Facts.{to_z-of_z, sfits_lit}
use mir.Syntax.{w64}
use Rattle.whole.proofs.Numbers.Tests.{test-lt, test-nlt}
use Rattle.rules.proofs.Program.Numbers.{decimal-below, decimal-above}
use Rattle.put.proofs.Texts.{put_then}
use Rattle.put.proofs.Writer.number.Goals.{then-n-lt0, else-n-lt0}
use Rattle.put.proofs.Writer.number.Goals as goal

pub byte-requires : goal.byte-requires
byte-requires c =
    let below = decimal-below c.args.n (test-lt w64 c.ranges.n (sfits_lit tt) c.if-n-lt0.true) in
    let room = rw below at c.requires in
    grind (arith, room)

pub digits-requires : goal.digits-requires
digits-requires c =
    rw (c.unsigned_abs.ensures.value, to_z-of_z c.ranges.n)
    (elim c.if-n-lt0.branch [
      | then-n-lt0 w ↦
          let below = decimal-below c.args.n (test-lt w64 c.ranges.n (sfits_lit tt) w.if-n-lt0.true) in
          let room = rw below at c.requires in
          rw w.self-is (grind (arith, room))
      | else-n-lt0 w ↦
          let above = decimal-above c.args.n (test-nlt w64 c.ranges.n (sfits_lit tt) w.if-n-lt0.false) in
          rw w.self-is (rw above at c.requires)
    ])

pub returns : goal.returns
returns c =
    let put = rw (c.unsigned_abs.ensures.value, to_z-of_z c.ranges.n) at c.digits.ensures in
    elim c.if-n-lt0.branch [
      | then-n-lt0 w ↦
          rw (decimal-below c.args.n (test-lt w64 c.ranges.n (sfits_lit tt) w.if-n-lt0.true))
          (put_then w.byte.ensures (rw w.self-is at put))
      | else-n-lt0 w ↦
          rw (decimal-above c.args.n (test-nlt w64 c.ranges.n (sfits_lit tt) w.if-n-lt0.false)) (rw w.self-is at put)
    ]
