-- `reader::read_words` meets its contract: sizes, rows and limits one after the other. Assumes nothing.
use Rattle.std.proofs.Common.{refl, arith, w32}
use mir.Facts.{to_z_pos}
use Rattle.reader.proofs.Laws.Course.{course-rows}
use Rattle.reader.proofs.Laws.Ends.{more-refused, whole-at, words-start}
use Rattle.reader.proofs.read_words.Goals as goal

pub all_rows-requires : goal.all_rows-requires
all_rows-requires c =
    let few = c.in_ok-shape.ensures.few in
    course-rows c.in_ok-shape.ensures
    (words-start _ _ _ _ _ c.requires
    (to_z_pos w32 (omega (arith, few.n-most))) (to_z_pos w32 (omega (arith, few.m-most))))

pub returns-then-end-text : goal.returns-then-end-text
returns-then-end-text c = more-refused c.in_ok-end.ensures _ refl c.if-end-text.true

pub returns : goal.returns
returns c = whole-at c.in_ok-end.ensures _ refl c.if-end-text.false _ refl
