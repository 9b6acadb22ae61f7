-- `wire::bytes_of` meets its contract: a word more is put behind those before it.
use Rattle.std.proofs.Common.{◌*◌, ◌+◌, [], ◌∷◌, arith, rules, ap, ◌∙◌, length, take, w32}
use Rattle.std.proofs.Math.Seq.{length-sets, sets}
use mir.Val.{SFits}
use Rattle.rules.specs.Problem.{word}
use Rattle.rules.specs.Program.Bytes.{bytes_from}
use Rattle.rules.proofs.Program.Words.{bytes-length}
use Rattle.wire.proofs.Stores.{bytes-are, next_word, no_word, part-put}
use Rattle.wire.proofs.bytes_of.Goals as goal

pub loop-i-init : goal.loop-i-init
loop-i-init c = no_word c.args.bytes.now c.args.at c.args.words.now

pub loop-i-preserved : goal.loop-i-preserved
loop-i-preserved c =
    let i = c.loop-i.i in
    let at = c.args.at in
    let first = c.args.bytes.now in
    let words = c.args.words.now in
    let four = bytes_from (word words i ∷ []) in
    let fit : SFits w32 (word words i) = search rules in
    let put = c.copy_from_slice.ensures.after ∙ c.to_le_bytes.ensures ∙ bytes-are (word words i) fit in
    let long = ap length c.loop-i.invariant ∙ length-sets first at (bytes_from (take i words)) in
    part-put c.loop-i.bytes c.copy_from_slice.new.self (at + 4 * i)
    (ap length put ∙ bytes-length (word words i ∷ [])) (omega (arith, long))
    ∙ ap (sets c.loop-i.bytes (at + 4 * i)) put
    ∙ ap (λ l. sets l (at + 4 * i) four) c.loop-i.invariant
    ∙ next_word first at words i (omega arith)
