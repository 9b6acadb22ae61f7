-- `lengths::answer::times_of` meets its contract. The invariant of its loop: the parts of the distances passed stand at
-- the front of the halves. Assumes nothing.
use Rattle.std.proofs.Common.{◌≡◌, ◌∙◌, ap, get_or, length, w64, arith, rules}
use lib.ListN.{set}
use mir.Facts.{to_z-of_z}
use mir.Val.{SFits}
use Rattle.rules.specs.Sizes.{most_vertices}
use Rattle.lengths.specs.Lengths.{no_rows, plain_part, small_part}
use Rattle.lengths.proofs.Laws.Words.{parts_more, parts-all}
use Rattle.lengths.proofs.answer.times_of.Goals as goal

pub loop-v-preserved : goal.loop-v-preserved
loop-v-preserved c =
    let best = c.args.best in
    let v = c.loop-v.v in
    let long : length best ≡ most_vertices = search rules in
    let plain_fit : SFits w64 c.plain_time.result = search rules in
    let small_fit : SFits w64 c.small_time.result = search rules in (
      ap (set c.loop-v.plain v) (to_z-of_z plain_fit ∙ c.plain_time.ensures)
          ∙ ap (λ l. set l v (plain_part (get_or best v no_rows))) c.loop-v.invariant.0
          ∙ parts_more plain_part best long v (omega arith),
      ap (set c.loop-v.small v) (to_z-of_z small_fit ∙ c.small_time.ensures)
          ∙ ap (λ l. set l v (small_part (get_or best v no_rows))) c.loop-v.invariant.1
          ∙ parts_more small_part best long v (omega arith),
    )

pub returns : goal.returns
returns c =
    let best = c.args.best in
    let long : length best ≡ most_vertices = search rules in (
      c.loop-v.invariant.0 ∙ parts-all plain_part best long c.loop-v.v (omega arith),
      c.loop-v.invariant.1 ∙ parts-all small_part best long c.loop-v.v (omega arith),
    )
