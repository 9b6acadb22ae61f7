-- The whole output on the worked cases of specs/Cases/Program, by computing the definitions (program-cases); and
-- numbers (number-cases).
use mathlib.Core.Path.{◌≡◌, refl}
use mathlib.Core.List.{[], map, ◌∷◌}
use lib.IntN.{pos}
use Rattle.whole.specs.Below
use Rattle.whole.specs.Divisors
use Rattle.whole.specs.Numbers
use Rattle.whole.specs.Sums
use Rattle.whole.specs.Tables
use Rattle.rules.specs.Limit
use Rattle.rules.specs.Problem
use Rattle.rules.specs.Refusal
use Rattle.rules.specs.Tableau
use Rattle.rules.specs.Step
use Rattle.rules.specs.Run
use Rattle.rules.specs.Answer
use Rattle.rules.specs.Cases.Expected.{minus}
use Rattle.rules.specs.Cases.Limits.{limit_cases}
use Rattle.rules.specs.Program.Bytes
use Rattle.rules.specs.Program.Bytes.{bytes_from}
use Rattle.rules.specs.Program.Text
use Rattle.rules.specs.Program.Text.{ascii, decimal}
use Rattle.rules.specs.Program.Reply
use Rattle.rules.specs.Program.Reply.{program_text}
use Rattle.rules.specs.Cases.Program.{inputs, outputs}

pub program-cases : map program_text inputs ≡ map ascii outputs
unfolding inputs outputs limit_cases
    Below.lowest Below.some_below Below.all_below Below.fold_below Divisors.gcd_turns Divisors.gcd
    Numbers.within Numbers.outside Sums.sum_by Tables.table_from Tables.matrix
    Limit.bit Limit.present Limit.bad_kind_word Limit.bad_limit_word Problem.problem Problem.mapped
    Refusal.first Refusal.too_few Refusal.bad_size Refusal.bad_length Refusal.bad_coefficient Refusal.bad_kind
    Refusal.bad_limit Refusal.blank_row Refusal.some_blank Refusal.problem_tests Refusal.problem_refusal
    Tableau.relation Tableau.solved Tableau.divisor_size Tableau.divisor Tableau.reduced Tableau.pivot Tableau.small
    Step.pull Step.start_entry Step.evidence Step.admit Step.seated Step.scaled Step.start_value Step.start_seat
    Step.start Step.under Step.over Step.broken Step.leaving Step.may_rise Step.may_fall Step.suits Step.entering
    Step.limit_at Step.moved Step.step
    Run.next Run.choose Run.bound Run.run Run.crossed Run.conflict Run.spending Run.ending
    Answer.words_of Answer.answer_from Answer.answer
    Bytes.signed Bytes.word_at Bytes.words_from Bytes.unsigned Bytes.bytes_from Bytes.count_refusal
    Text.ascii Text.digits_turns Text.digits Text.decimal Text.line Text.variable_line Text.multiplier_line
    Text.small_end Text.lines_below Text.head_lines Text.value_line Text.multiplier_lines
    Text.can_text Text.cannot_text Text.range_text Text.answer_text Text.refusal_text
    Reply.reply_to Reply.reply_after Reply.program_text
program-cases = refl

-- 0, one digit and two, and both ends of 64 bits
pub number-cases :
    map decimal (pos 0 ∷ pos 9 ∷ pos 10 ∷ minus 1 ∷ pos 9223372036854775807 ∷ minus 9223372036854775808 ∷ [])
    ≡ map ascii ("0" ∷ "9" ∷ "10" ∷ "-1" ∷ "9223372036854775807" ∷ "-9223372036854775808" ∷ [])
unfolding Text.ascii Text.digits_turns Text.digits Text.decimal
number-cases = refl
