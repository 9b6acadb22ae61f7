-- `bundle::judge::judge` meets its contract: each return is the first test that applies.
use Rattle.std.proofs.Common.{arith, rules, sym, ◌∙◌}
use Rattle.whole.proofs.Tells.{tells-false, tells-true}
use Rattle.rules.specs.Program.Bytes.{words_from}
use Rattle.rules.proofs.Program.Words.{words-length}
use Rattle.rules.proofs.Bundle.Exactly.{table-tells}
use Rattle.rules.proofs.Bundle.Places.{bodies-few}
use Rattle.bundle.proofs.Files.{all-skipped, bodies-hit, bodies-most, bodies-tested, count-enough, count-hit}
use Rattle.bundle.proofs.Files.{edition-few}
use Rattle.bundle.proofs.Files.{edition-hit, edition-tested, table-hit}
use Rattle.bundle.proofs.judge.judge.Goals as goal

pub returns-then-is_bad_count : goal.returns-then-is_bad_count
returns-then-is_bad_count c = count-hit _ (sym c.is_bad_count.ensures ∙ c.if-is_bad_count.true)

pub word_of-requires : goal.word_of-requires
word_of-requires c = omega (arith, count-enough c.args.file.now (sym c.is_bad_count.ensures ∙ c.if-is_bad_count.false))

pub returns-then-is_bad_word : goal.returns-then-is_bad_word
returns-then-is_bad_word c =
    let bs = c.args.file.now in
    let edition = edition-tested bs _ (search rules) c.word_of.ensures _ c.is_bad_word.ensures in
    edition-hit bs (sym c.is_bad_count.ensures ∙ c.if-is_bad_count.false) (sym edition ∙ c.if-is_bad_word.true)

pub count_of-requires : goal.count_of-requires
count_of-requires c = omega (arith, count-enough c.args.file.now (sym c.is_bad_count.ensures ∙ c.if-is_bad_count.false))

pub overflow_cast-count_of : goal.overflow_cast-count_of
overflow_cast-count_of c =
    let bs = c.args.file.now in
    let edition = edition-tested bs _ (search rules) c.word_of.ensures _ c.is_bad_word.ensures in
    omega (
      arith,
      c.count_of.ensures,
      edition-few bs (sym c.is_bad_count.ensures ∙ c.if-is_bad_count.false)
          (sym edition ∙ c.if-is_bad_word.false),
    )

pub word_of-requires-2 : goal.word_of-requires-2
word_of-requires-2 c =
    omega (arith, count-enough c.args.file.now (sym c.is_bad_count.ensures ∙ c.if-is_bad_count.false))

pub overflow_cast-most : goal.overflow_cast-most
overflow_cast-most c = omega (arith, c.bodies_in-most.ensures, bodies-few c.count_of.result)

pub returns-then-is_bad_word-2 : goal.returns-then-is_bad_word-2
returns-then-is_bad_word-2 c =
    let bs = c.args.file.now in
    let count = sym c.is_bad_count.ensures ∙ c.if-is_bad_count.false in
    let edition = edition-tested bs _ (search rules) c.word_of.ensures _ c.is_bad_word.ensures in
    let bodies = bodies-tested bs _ _ _ (search rules) c.word_of-2.ensures c.count_of.ensures c.bodies_in-most.ensures
    _ c.is_bad_word-2.ensures in
    bodies-hit bs count (sym edition ∙ c.if-is_bad_word.false) (sym bodies ∙ c.if-is_bad_word-2.true)

pub count_of-bodies-requires : goal.count_of-bodies-requires
count_of-bodies-requires c =
    omega (arith, count-enough c.args.file.now (sym c.is_bad_count.ensures ∙ c.if-is_bad_count.false))

pub returns-then-file-bodies : goal.returns-then-file-bodies
returns-then-file-bodies c =
    let bs = c.args.file.now in
    let count = sym c.is_bad_count.ensures ∙ c.if-is_bad_count.false in
    let edition = edition-tested bs _ (search rules) c.word_of.ensures _ c.is_bad_word.ensures in
    let bodies = bodies-tested bs _ _ _ (search rules) c.word_of-2.ensures c.count_of.ensures c.bodies_in-most.ensures
    _ c.is_bad_word-2.ensures in
    table-hit bs count (sym edition ∙ c.if-is_bad_word.false) (sym bodies ∙ c.if-is_bad_word-2.false)
    (tells-true (table-tells (words_from bs)) (omega (arith, c.count_of-bodies.ensures, words-length bs)))

pub judge_table-requires : goal.judge_table-requires
judge_table-requires c =
    let bs = c.args.file.now in
    let count = sym c.is_bad_count.ensures ∙ c.if-is_bad_count.false in
    let edition = edition-tested bs _ (search rules) c.word_of.ensures _ c.is_bad_word.ensures in
    let bodies = bodies-tested bs _ _ _ (search rules) c.word_of-2.ensures c.count_of.ensures c.bodies_in-most.ensures
    _ c.is_bad_word-2.ensures in (
      c.count_of-bodies.ensures,
      omega (
        arith,
        c.count_of-bodies.ensures,
        bodies-most bs count (sym edition ∙ c.if-is_bad_word.false)
            (sym bodies ∙ c.if-is_bad_word-2.false),
      ),
      omega (arith, words-length bs),
    )

pub returns : goal.returns
returns c =
    let bs = c.args.file.now in
    let count = sym c.is_bad_count.ensures ∙ c.if-is_bad_count.false in
    let edition = edition-tested bs _ (search rules) c.word_of.ensures _ c.is_bad_word.ensures in
    let bodies = bodies-tested bs _ _ _ (search rules) c.word_of-2.ensures c.count_of.ensures c.bodies_in-most.ensures
    _ c.is_bad_word-2.ensures in
    c.judge_table.ensures
    ∙ all-skipped bs count (sym edition ∙ c.if-is_bad_word.false) (sym bodies ∙ c.if-is_bad_word-2.false)
    (tells-false (table-tells (words_from bs)) (omega (arith, c.count_of-bodies.ensures, words-length bs)))
