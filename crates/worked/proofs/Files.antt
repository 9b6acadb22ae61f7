-- Every worked file is right, by computing (specs/Cases/Bundle).
--   ten-written     the pairs and the words of the file of ten bodies
--   ten-bodies      its bodies
--   ten-printed     its text: that of each body, the refused ones too
--   bodies_right    bodies of many rows, in either edition
--   files-right, counts-right, writers-right    small files, counts of bytes, calls of the writer
use mathlib.Core.Bool.{false, true}
use mathlib.Core.List.{◌++◌, flatten, map}
use mathlib.Core.Path.{◌≡◌, refl}
use lib.IntN.{pos}
use lib.ListN.{replicate}
use Rattle.whole.specs.Below
use Rattle.whole.specs.Divisors
use Rattle.whole.specs.Numbers
use Rattle.whole.specs.Sums
use Rattle.whole.specs.Tables
use Rattle.rules.specs.Limit
use Rattle.rules.specs.Problem
use Rattle.rules.specs.Refusal
use Rattle.rules.specs.Tableau
use Rattle.rules.specs.Step
use Rattle.rules.specs.Run
use Rattle.rules.specs.Answer
use Rattle.rules.specs.Program.Bytes
use Rattle.rules.specs.Program.Bytes.{bytes_from}
use Rattle.rules.specs.Program.Text
use Rattle.rules.specs.Program.Text.{ascii}
use Rattle.rules.specs.Program.Reply
use Rattle.rules.specs.Bundle.File
use Rattle.rules.specs.Bundle.File.{bad_count, bodies_in, file_refusal}
use Rattle.rules.specs.Bundle.Writer
use Rattle.rules.specs.Bundle.Writer.{file_words, writer_refusal}
use Rattle.rules.specs.Bundle.Day
use Rattle.rules.specs.Bundle.Day.{body_refusal, day_text}
use Rattle.rules.specs.Cases.Bundle.{bad_counts, body_cases, empty_pairs, file_cases, good_counts, many_rows}
use Rattle.rules.specs.Cases.Bundle.{ten_bodies, ten_head, ten_lengths, ten_texts, writer_cases}

pub ten-written : file_words 1 ten_lengths (flatten ten_bodies) ≡ ten_head ++ flatten ten_bodies
unfolding ten_lengths ten_head Writer.file_words Writer.head_words Writer.contents Tables.table_from Sums.sum_by
ten-written = refl

pub ten-bodies : bodies_in (ten_head ++ flatten ten_bodies) ≡ ten_bodies
unfolding ten_bodies ten_head flatten File.bodies_in File.body_in Tables.table_from
ten-bodies = refl

pub ten-printed : day_text (bytes_from (ten_head ++ flatten ten_bodies)) ≡ flatten (map ascii ten_texts)
unfolding ten_bodies ten_head ten_texts flatten
    Below.lowest Below.some_below Below.all_below Below.fold_below Divisors.gcd_turns Divisors.gcd
    Numbers.within Numbers.outside Sums.sum_by Tables.table_from Tables.matrix
    Limit.bit Limit.present Limit.bad_kind_word Limit.bad_limit_word Problem.problem Problem.mapped
    Refusal.first Refusal.too_few Refusal.bad_size Refusal.bad_length Refusal.bad_coefficient Refusal.bad_kind
    Refusal.bad_limit Refusal.blank_row Refusal.some_blank Refusal.problem_tests
    Tableau.relation Tableau.solved Tableau.divisor_size Tableau.divisor Tableau.reduced Tableau.pivot Tableau.small
    Step.pull Step.start_entry Step.evidence Step.admit Step.seated Step.scaled Step.start_value Step.start_seat
    Step.start Step.under Step.over Step.broken Step.leaving Step.may_rise Step.may_fall Step.suits Step.entering
    Step.limit_at Step.moved Step.step
    Run.next Run.choose Run.bound Run.run Run.crossed Run.conflict Run.spending Run.ending
    Answer.words_of Answer.answer_from Answer.answer
    Bytes.signed Bytes.word_at Bytes.words_from Bytes.unsigned Bytes.bytes_from
    Text.ascii Text.digits_turns Text.digits Text.decimal Text.line Text.variable_line Text.multiplier_line
    Text.small_end Text.lines_below Text.head_lines Text.value_line Text.multiplier_lines
    Text.can_text Text.cannot_text Text.range_text Text.answer_text Text.refusal_text Reply.reply_to
    File.editions File.edition File.bad_count File.bad_edition File.bad_bodies File.short_table File.bad_pair
    File.bad_table
    File.bad_total File.file_tests File.file_refusal File.body_in File.bodies_in
    Day.body_refusal Day.body_text Day.day_after Day.day_text
ten-printed = refl

pub bodies_right : map (λ c. body_refusal c.edition (many_rows c.rows)) body_cases ≡ map (λ c. c.number) body_cases
unfolding body_cases Below.some_below Below.all_below Numbers.within Numbers.outside
    Limit.bit Limit.bad_kind_word Limit.bad_limit_word
    Refusal.first Refusal.too_few Refusal.bad_size Refusal.bad_length Refusal.bad_coefficient Refusal.bad_kind
    Refusal.bad_limit Refusal.blank_row Refusal.some_blank Refusal.problem_tests File.editions File.edition
    Day.body_refusal
bodies_right = refl

pub files-right : map (λ c. file_refusal (bytes_from c.words)) file_cases ≡ map (λ c. c.number) file_cases
unfolding file_cases empty_pairs Below.some_below Numbers.outside Sums.sum_by Tables.table_from Refusal.first
    Bytes.signed Bytes.word_at Bytes.words_from Bytes.unsigned Bytes.bytes_from
    File.editions File.edition File.bad_count File.bad_edition File.bad_bodies File.short_table File.bad_pair
    File.bad_table
    File.bad_total File.file_tests File.file_refusal
files-right = refl

pub counts-right : map bad_count (bad_counts ++ good_counts) ≡ replicate 7 true ++ replicate 3 false
unfolding bad_counts good_counts File.bad_count
counts-right = refl

pub writers-right :
    map (λ c. writer_refusal c.edition c.lengths (replicate c.words (pos 0)) c.room) writer_cases
    ≡ map (λ c. c.number) writer_cases
unfolding writer_cases Below.some_below Sums.sum_by Refusal.first File.editions File.edition
    Writer.no_such_edition Writer.too_many Writer.bad_lengths Writer.bad_sum Writer.too_long Writer.file_room
    Writer.writer_tests Writer.writer_refusal
writers-right = refl
