-- Every worked session is right, by computation; and so is what is shown of words.
use mathlib.Core.Path.{refl}
use Rattle.whole.specs.Below.{all_below, fold_below, lowest, some_below}
use Rattle.whole.specs.Divisors.{gcd, gcd_turns}
use Rattle.whole.specs.Numbers.{outside, within}
use Rattle.whole.specs.Sums.{sum_by}
use Rattle.whole.specs.Tables.{matrix, table_from}
use Rattle.rules.specs.Answer.{answer_from, words_of}
use Rattle.rules.specs.Cases.Sessions.{SessionsRight, ViolationsRight, replies_to, session_cases, violation_cases}
use Rattle.rules.specs.Evidence.{accepted, at_least, at_most, checked, column, contradicts, owed, plain_of}
use Rattle.rules.specs.Evidence.{ranged_can, ranged_cannot, right_can, right_cannot, shows_can, shows_cannot}
use Rattle.rules.specs.Evidence.{some_strict, strict_named, surplus}
use Rattle.rules.specs.Keeping.Limits.{kept}
use Rattle.rules.specs.Keeping.Words.{kind_of, live_kind, live_limit, live_word, live_words}
use Rattle.rules.specs.Limit.{bad_kind_word, bad_limit_word, bit, present}
use Rattle.rules.specs.Problem.{mapped, problem}
use Rattle.rules.specs.Refusal.{bad_coefficient, bad_kind, bad_length, bad_limit, bad_size, blank_row, first}
use Rattle.rules.specs.Refusal.{problem_refusal, problem_tests, some_blank, too_few, too_short}
use Rattle.rules.specs.Run.{bound, choose, conflict, crossed, ending, run, spending}
use Rattle.rules.specs.Runs.Session.{check_answer, flagged, inside, inside_seat, opened, rested, all_inside}
use Rattle.rules.specs.Runs.Session.{switch_refusal}
use Rattle.rules.specs.Runs.Session.{switch_tests, switched}
use Rattle.rules.specs.Runs.Violation.{first_violation, shown_by, violation_of}
use Rattle.rules.specs.Step.{admit, broken, entering, evidence, leaving, limit_at, may_fall, may_rise, moved, over}
use Rattle.rules.specs.Step.{pull, scaled, seated, shortfall_by, start, start_entry, start_seat, start_value, step}
use Rattle.rules.specs.Step.{suits, under}
use Rattle.rules.specs.Tableau.{divisor, divisor_size, pivot, reduced, relation, small, solved}

pub sessions-right : SessionsRight session_cases
unfolding session_cases replies_to opened switched switch_refusal switch_tests
    flagged all_inside inside_seat inside kept rested
    check_answer answer_from words_of ending spending conflict crossed run bound choose step
    leaving broken under over entering suits may_rise may_fall pull moved limit_at admit evidence scaled seated
    shortfall_by
    start start_entry start_seat start_value pivot solved reduced relation divisor divisor_size small
    problem present bit mapped first live_words live_word live_limit live_kind kind_of
    checked accepted shows_can shows_cannot right_can right_cannot ranged_can ranged_cannot at_least at_most plain_of
    owed
    strict_named column surplus some_strict contradicts
    problem_tests too_few bad_size bad_length bad_coefficient bad_kind bad_kind_word bad_limit bad_limit_word
    some_blank blank_row
    too_short violation_of shown_by
    lowest some_below all_below fold_below sum_by table_from matrix gcd gcd_turns within outside
sessions-right = refl

pub violations-right : ViolationsRight violation_cases
unfolding violation_cases first_violation violation_of shown_by
    leaving broken under over scaled seated shortfall_by start start_entry start_seat start_value
    problem present bit mapped first problem_refusal
    problem_tests too_few bad_size bad_length bad_coefficient bad_kind bad_kind_word bad_limit bad_limit_word
    some_blank blank_row
    lowest some_below all_below sum_by table_from matrix within outside
violations-right = refl
