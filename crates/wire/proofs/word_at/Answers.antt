-- `wire::word_at` meets its contract: the bits that the four bytes make, as a signed word.
use Rattle.std.proofs.Common.{◌+◌, arith, rules, ap, ◌∙◌, w32}
use mir.Facts.{to_z-of_z}
use mir.Val.{SFits}
use Rattle.rules.specs.Program.Bytes.{signed, word_at}
use Rattle.wire.proofs.Signs.{signed-is}
use Rattle.wire.proofs.word_at.Goals as goal

pub returns : goal.returns
unfolding word_at
returns c =
    let fit : SFits w32 c.from_le_bytes.result = search rules in
    let at = c.args.at in
    to_z-of_z fit ∙ c.from_le_bytes.ensures
    ∙ signed-is _ (omega (
      arith,
      c.type_inv.bytes at,
      c.type_inv.bytes (at + 1),
      c.type_inv.bytes (at + 2),
      c.type_inv.bytes (at + 3),
    ))
    ∙ ap signed (omega arith)
