-- `wire::words_of` meets its contract: a word more is put at its place, in front of words that stay.
use Rattle.std.proofs.Common.{◌*◌, ◌/◌, arith, rules, refl, ap, ◌∙◌, length, take, set, pos, w32, ℕ}
use mir.Facts.{to_z-of_z}
use mir.Val.{SFits}
use Rattle.whole.specs.Tables.{table_from}
use Rattle.whole.proofs.Lists.Prefix.{set-table}
use Rattle.rules.specs.Program.Bytes.{word_at}
use Rattle.wire.proofs.words_of.Goals as goal

pub loop-i-init : goal.loop-i-init
unfolding table_from
loop-i-init c = refl

pub loop-i-preserved : goal.loop-i-preserved
loop-i-preserved c =
    let i = c.loop-i.i in
    let count = length c.args.bytes.now / 4 in
    let f = λ (k : ℕ). word_at c.args.bytes.now (4 * k) in
    let fit : SFits w32 c.word_at.result = search rules in
    ap (set c.loop-i.word-items i) (to_z-of_z fit ∙ c.word_at.ensures) ∙ ap (λ l. set l i (f i)) c.loop-i.invariant
    ∙ set-table f (pos 0) (take count c.args.words.now) i (omega arith)
