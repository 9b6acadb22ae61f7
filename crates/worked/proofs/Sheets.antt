-- Every worked sheet is right, by computing (specs/Sheet/Cases).
use mathlib.Core.Path.{◌≡◌, refl}
use mathlib.Core.List.{flatten, map}
use Rattle.whole.specs.Below
use Rattle.whole.specs.Divisors
use Rattle.whole.specs.Numbers
use Rattle.whole.specs.Sums
use Rattle.whole.specs.Tables
use Rattle.rules.specs.Limit
use Rattle.rules.specs.Problem
use Rattle.rules.specs.Refusal
use Rattle.rules.specs.Tableau
use Rattle.rules.specs.Step
use Rattle.rules.specs.Run
use Rattle.rules.specs.Answer
use Rattle.rules.specs.Program.Bytes
use Rattle.rules.specs.Program.Text
use Rattle.rules.specs.Bundle.File
use Rattle.rules.specs.Bundle.Writer
use Rattle.rules.specs.Cases.Bundle as Bundles
use Rattle.rules.specs.Sheet.Totals
use Rattle.rules.specs.Sheet.Text as SheetText
use Rattle.rules.specs.Sheet.File as SheetFile
use Rattle.rules.specs.Sheet.File.{file_sheet}
use Rattle.rules.specs.Sheet.Cases.{file_of, sheet_cases}

pub sheets-right : map (λ c. file_sheet (file_of c)) sheet_cases ≡ map (λ c. c.text) sheet_cases
unfolding sheet_cases Bundles.ten_bodies flatten
    Below.lowest Below.some_below Below.all_below Below.fold_below Divisors.gcd_turns Divisors.gcd
    Numbers.within Numbers.outside Sums.sum_by Tables.table_from Tables.matrix
    Limit.bit Limit.present Limit.bad_kind_word Limit.bad_limit_word Problem.problem Problem.mapped
    Refusal.first Refusal.too_few Refusal.bad_size Refusal.bad_length Refusal.bad_coefficient Refusal.bad_kind
    Refusal.bad_limit Refusal.blank_row Refusal.some_blank Refusal.problem_tests
    Tableau.relation Tableau.solved Tableau.divisor_size Tableau.divisor Tableau.reduced Tableau.pivot Tableau.small
    Step.pull Step.start_entry Step.evidence Step.admit Step.seated Step.scaled Step.start_value Step.start_seat
    Step.start Step.under Step.over Step.broken Step.leaving Step.may_rise Step.may_fall Step.suits Step.entering
    Step.limit_at Step.moved Step.step
    Run.next Run.choose Run.bound Run.run Run.crossed Run.conflict Run.spending Run.ending
    Answer.words_of Answer.answer_from Answer.answer
    Bytes.signed Bytes.word_at Bytes.words_from Bytes.unsigned Bytes.bytes_from
    Text.ascii Text.digits_turns Text.digits Text.decimal Text.line Text.lines_below Text.refusal_text
    File.editions File.edition File.bad_count File.bad_edition File.bad_bodies File.short_table File.bad_pair
    File.bad_table
    File.bad_total File.file_tests File.file_refusal File.body_in File.bodies_in
    Writer.file_words Writer.head_words Writer.contents
    Totals.sum_below Totals.largest_below Totals.class_by Totals.class_of Totals.same_class Totals.answered_class
    Totals.pivots_by Totals.pivots_of Totals.names Totals.names_lower Totals.names_upper Totals.of_class
    Totals.pivot_sum
    Totals.largest_pivots Totals.reaches Totals.largest_body Totals.lower_named Totals.upper_named
    SheetText.refused_line
    SheetText.refused_lines SheetText.body_name SheetText.largest_line SheetText.named_line SheetText.sheet_lines
    SheetText.sheet_text SheetFile.sheet_after SheetFile.file_sheet
sheets-right = refl
