-- Every worked case and every edge is right, by computation.
use mathlib.Core.Path.{refl}
use Rattle.whole.specs.Below.{all_below, fold_below, lowest, some_below}
use Rattle.whole.specs.Divisors.{gcd, gcd_turns}
use Rattle.whole.specs.Numbers.{outside, within}
use Rattle.whole.specs.Sums.{sum_by}
use Rattle.whole.specs.Tables.{matrix, table_from}
use Rattle.rules.specs.Answer.{answer, answer_from, words_of}
use Rattle.rules.specs.Cases.All.{cases}
use Rattle.rules.specs.Times.Cycle.{is_bad_cycle}
use Rattle.rules.specs.Evidence.{accepted, at_least, at_most, checked, column, contradicts, owed, plain_of}
use Rattle.rules.specs.Evidence.{ranged_can, ranged_cannot, right_can, right_cannot, shows_can, shows_cannot}
use Rattle.rules.specs.Evidence.{some_strict, strict_named, surplus}
use Rattle.rules.specs.Cases.Evidence.{evidence_cases, wide_cases}
use Rattle.rules.specs.Cases.Expected.{AllRight, comes_out, wanted}
use Rattle.rules.specs.Limit.{bad_kind_word, bad_limit_word, bit, present}
use Rattle.rules.specs.Cases.Limits.{limit_cases}
use Rattle.rules.specs.Times.Passes.{can_meet, distances, look, passes, settled}
use Rattle.rules.specs.Problem.{problem, mapped}
use Rattle.rules.specs.Refusal.{bad_coefficient, bad_kind, bad_length, bad_limit, bad_size, blank_row, first}
use Rattle.rules.specs.Refusal.{problem_tests, refusal, some_blank, too_few, too_short}
use Rattle.rules.specs.Run.{bound, choose, conflict, crossed, ending, run, spending}
use Rattle.rules.specs.Step.{admit, broken, entering, evidence, leaving, limit_at, may_fall, may_rise, moved, over}
use Rattle.rules.specs.Step.{pull, scaled, seated, shortfall_by, start, start_entry, start_seat, start_value, step}
use Rattle.rules.specs.Step.{suits, under}
use Rattle.rules.specs.Tableau.{divisor, divisor_size, pivot, reduced, relation, small, solved}
use Rattle.rules.specs.Cases.Times.{time_cases, time_checks}
use Rattle.rules.specs.Times.Answer.{cycle_words, times_answer, times_of}
use Rattle.rules.specs.Times.Check.{accepted_answer, checked_times, cycle_shown, row_met, times_shown}
use Rattle.rules.specs.Times.Words.{bad_end, bad_row_length, bad_strict, bad_time_size, bad_word_count, no_room}
use Rattle.rules.specs.Times.Words.{time_refusal, time_tests}
use Rattle.rules.specs.Wide.{accepted_wide, checked_wide, head_fits, limb_fits, limb_of, number_fits, short_wide}
use Rattle.rules.specs.Wide.{shows_wide}
use Rattle.rules.specs.Wide.{well_formed, wide_form}

pub all_right : AllRight cases
unfolding cases limit_cases evidence_cases wide_cases time_cases time_checks comes_out wanted
    answer answer_from words_of ending spending conflict crossed run bound choose step
    leaving broken under over entering suits may_rise may_fall pull moved limit_at admit evidence scaled seated
    shortfall_by
    start start_entry start_seat start_value pivot solved reduced relation divisor divisor_size small
    problem present bit mapped bad_kind_word
    refusal first problem_tests too_few bad_size bad_length bad_coefficient bad_kind
    bad_limit blank_row some_blank bad_limit_word too_short
    checked accepted shows_can shows_cannot right_can right_cannot ranged_can ranged_cannot at_least at_most owed column
    surplus plain_of strict_named some_strict contradicts
    checked_wide accepted_wide short_wide shows_wide well_formed number_fits limb_fits head_fits wide_form limb_of
    checked_times accepted_answer times_shown row_met cycle_shown
    time_refusal time_tests bad_time_size bad_word_count bad_end bad_strict bad_row_length no_room
    times_answer times_of cycle_words can_meet distances passes look settled is_bad_cycle
    lowest some_below all_below fold_below sum_by table_from matrix gcd gcd_turns within outside
all_right = refl
