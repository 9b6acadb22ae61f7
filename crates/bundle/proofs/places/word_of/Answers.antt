-- `bundle::places::word_of` meets its contract: its four bytes are the word.
use Rattle.std.proofs.Common.{arith, rules, sym, ◌∙◌, w32}
use mir.Facts.{to_z-of_z}
use mir.Val.{SFits}
use Rattle.rules.proofs.Program.Words.{word-from}
use Rattle.bundle.proofs.places.word_of.Goals as goal

pub returns : goal.returns
returns c =
    let fit : SFits w32 c.word_at.result = search rules in
    to_z-of_z fit ∙ c.word_at.ensures ∙ sym (word-from c.args.file.now c.args.place (omega arith))
