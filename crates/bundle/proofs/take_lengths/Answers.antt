-- `bundle::take_lengths` meets its contract: a length more is put at its place, in front of words that stay.
use Rattle.std.proofs.Common.{arith, rules, refl, ap, ◌∙◌, w32, set, pos, take}
use mir.Facts.{to_z-of_z}
use mir.Val.{SFits}
use Rattle.whole.specs.Tables.{table_from}
use Rattle.whole.proofs.Lists.Prefix.{set-table}
use Rattle.rules.specs.Program.Bytes.{words_from}
use Rattle.rules.specs.Bundle.File.{pair_length}
use Rattle.bundle.proofs.take_lengths.Goals as goal

pub loop-i-init : goal.loop-i-init
unfolding table_from
loop-i-init c = refl

pub loop-i-preserved : goal.loop-i-preserved
loop-i-preserved c =
    let i = c.loop-i.i in
    let f = pair_length (words_from c.args.file.now) in
    let fit : SFits w32 c.word_of.result = search rules in
    ap (set c.loop-i.length-items i) (to_z-of_z fit ∙ c.word_of.ensures)
    ∙ ap (λ l. set l i (f i)) c.loop-i.invariant
    ∙ set-table f (pos 0) (take c.args.bodies c.args.lengths.now) i (omega arith)
