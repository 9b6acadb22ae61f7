-- `lengths::answer::gathered` meets its contract. The invariant of its loop: the rows passed stand at the front, zeros
-- after them. Assumes nothing.
use Rattle.std.proofs.Common.{◌≡◌, ◌∙◌, ap, ◌-◌, pos, length, get_or, refl}
use Rattle.std.proofs.Common.{w64, arith, rules}
use Rattle.std.proofs.lemmas.Slice.{between_is}
use lib.ListN.{set}
use lib.Seq.{length-slice}
use mir.Facts.{to_z-of_z}
use mir.Val.{SFits}
use Rattle.rules.specs.Sizes.{most_vertices}
use Rattle.lengths.specs.Answer.{rows_of}
use Rattle.lengths.proofs.Laws.Words.{words_more, words-all}
use Rattle.lengths.proofs.answer.gathered.Goals as goal

pub loop-i-preserved : goal.loop-i-preserved
loop-i-preserved c =
    let way = c.args.way in
    let i = c.loop-i.i in
    let path-long : length way.path ≡ most_vertices = search rules in
    let rows-long : length (rows_of way) ≡ way.to - way.from = length-slice way.from way.to way.path (omega arith) in
    let fit : SFits w64 c.from.result = search rules in
    ap (set c.loop-i.plain i) (to_z-of_z fit ∙ c.from.ensures
    ∙ ap (λ l. pos (get_or l i 0)) (between_is way.path way.from way.to))
    ∙ ap (λ l. set l i (pos (get_or (rows_of way) i 0))) c.loop-i.invariant
    ∙ words_more (rows_of way) i (omega arith) (omega arith)

pub returns : goal.returns
returns c =
    let way = c.args.way in
    let path-long : length way.path ≡ most_vertices = search rules in
    let rows-long : length (rows_of way) ≡ way.to - way.from = length-slice way.from way.to way.path (omega arith) in
    (c.loop-i.invariant ∙ words-all (rows_of way) c.loop-i.i (omega arith), refl)
