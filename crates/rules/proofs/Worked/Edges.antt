-- Every call at an edge leaves what it should, by computation.
--   solver-edges, checker-edges, time-edges, check-edges, slice-edges     (specs/Cases/Edges)
--   sizes-right     each size is the number that is told
use mathlib.Core.List.{map}
use mathlib.Core.Path.{refl, ◌≡◌}
use Rattle.whole.specs.Below.{all_below, fold_below, lowest, some_below}
use Rattle.whole.specs.Divisors.{gcd, gcd_turns}
use Rattle.whole.specs.Numbers.{outside, within}
use Rattle.whole.specs.Sums.{sum_by}
use Rattle.whole.specs.Tables.{matrix, table_from}
use Rattle.rules.specs.Answer.{answer, answer_from, words_of, written}
use Rattle.rules.specs.Cases.Edges.{check_call, check_calls, checkings, lent, slice_call, slice_calls, solver_call}
use Rattle.rules.specs.Cases.Edges.{sizes_told, solver_calls, time_call, time_calls, wanted_call}
use Rattle.rules.specs.Evidence.{accepted, at_least, at_most, checked, column, contradicts, owed, plain_of}
use Rattle.rules.specs.Evidence.{ranged_can, ranged_cannot, right_can, right_cannot, shows_can, shows_cannot}
use Rattle.rules.specs.Evidence.{some_strict, strict_named, surplus}
use Rattle.rules.specs.Keeping.Limits.{kept}
use Rattle.rules.specs.Limit.{bad_kind_word, bad_limit_word, bit, present}
use Rattle.rules.specs.Problem.{mapped, problem}
use Rattle.rules.specs.Refusal.{bad_coefficient, bad_kind, bad_length, bad_limit, bad_size, blank_row, first}
use Rattle.rules.specs.Refusal.{problem_tests, refusal, some_blank, too_few, too_short}
use Rattle.rules.specs.Run.{bound, choose, conflict, crossed, ending, run, spending}
use Rattle.rules.specs.Runs.Session.{check_answer, check_refusal, opened}
use Rattle.rules.specs.Runs.Slices.{begun, slice_answer, slice_output, slice_refusal, told}
use Rattle.rules.specs.Step.{admit, broken, entering, evidence, leaving, limit_at, may_fall, may_rise, moved, over}
use Rattle.rules.specs.Step.{pull, scaled, seated, shortfall_by, start, start_entry, start_seat, start_value, step}
use Rattle.rules.specs.Step.{suits, under}
use Rattle.rules.specs.Tableau.{divisor, divisor_size, pivot, reduced, relation, small, solved}
use Rattle.rules.specs.Times.Answer.{cycle_words, times_answer, times_of, times_written}
use Rattle.rules.specs.Times.Passes.{can_meet, distances, look, passes, settled}
use Rattle.rules.specs.Times.Words.{bad_end, bad_row_length, bad_strict, bad_time_size, bad_word_count, no_room}
use Rattle.rules.specs.Times.Words.{time_refusal, time_tests}

pub solver-edges : map solver_call solver_calls ≡ map wanted_call solver_calls
unfolding solver_call solver_calls lent refusal written
    answer answer_from words_of ending spending conflict crossed run bound choose step
    leaving broken under over entering suits may_rise may_fall pull moved limit_at admit evidence scaled seated
    shortfall_by
    start start_entry start_seat start_value pivot solved reduced relation divisor divisor_size small
    problem present bit mapped bad_kind_word first problem_tests too_few bad_size bad_length bad_coefficient bad_kind
    bad_limit blank_row some_blank bad_limit_word too_short
    lowest some_below all_below fold_below sum_by table_from matrix gcd gcd_turns within outside
solver-edges = refl

pub checker-edges : map (λ c. checked c.words c.answer) checkings ≡ map (λ c. c.number) checkings
unfolding checkings lent problem present bit mapped bad_kind_word first problem_tests too_few bad_size bad_length
    bad_coefficient bad_kind bad_limit blank_row some_blank bad_limit_word too_short
    checked accepted shows_can shows_cannot right_can right_cannot ranged_can ranged_cannot at_least at_most owed column
    surplus plain_of strict_named some_strict contradicts
    lowest some_below all_below fold_below sum_by within outside
checker-edges = refl

pub time-edges : map time_call time_calls ≡ map wanted_call time_calls
unfolding time_call time_calls lent first too_few
    time_refusal time_tests bad_time_size bad_word_count bad_end bad_strict bad_row_length no_room times_written
    times_answer times_of cycle_words can_meet distances passes look settled
    some_below all_below fold_below within outside
time-edges = refl

pub check-edges : map check_call check_calls ≡ map wanted_call check_calls
unfolding check_call check_calls lent opened check_refusal check_answer kept first
    answer_from words_of ending spending conflict crossed run bound choose step
    leaving broken under over entering suits may_rise may_fall pull moved limit_at admit evidence scaled seated
    shortfall_by
    start start_entry start_seat start_value pivot solved reduced relation divisor divisor_size small
    problem present bit mapped lowest some_below all_below fold_below sum_by table_from matrix gcd gcd_turns within
    outside
check-edges = refl

pub slice-edges : map slice_call slice_calls ≡ map wanted_call slice_calls
unfolding slice_call slice_calls lent begun slice_refusal slice_answer slice_output told first words_of spending
    conflict
    crossed run step
    leaving broken under over entering suits may_rise may_fall pull moved limit_at admit evidence scaled seated
    shortfall_by
    start start_entry start_seat start_value pivot solved reduced relation divisor divisor_size small
    problem present bit mapped lowest some_below all_below fold_below sum_by table_from matrix gcd gcd_turns within
    outside
slice-edges = refl

pub sizes-right : map (λ s. s.0) sizes_told ≡ map (λ s. s.1) sizes_told
unfolding sizes_told
sizes-right = refl
