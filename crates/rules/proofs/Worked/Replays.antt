-- Every worked trace is right, and so is every problem's own, by computation.
use mathlib.Core.Path.{refl}
use Rattle.whole.specs.Below.{all_below, fold_below, lowest, some_below}
use Rattle.whole.specs.Divisors.{gcd, gcd_turns}
use Rattle.whole.specs.Numbers.{outside, within}
use Rattle.whole.specs.Sums.{sum_by}
use Rattle.whole.specs.Tables.{matrix, table_from}
use Rattle.rules.specs.Cases.Replays.{ReplaysRight, TracesRight, replay_cases, trace_cases}
use Rattle.rules.specs.Limit.{bad_kind_word, bad_limit_word, bit, present}
use Rattle.rules.specs.Problem.{mapped, problem}
use Rattle.rules.specs.Refusal.{bad_coefficient, bad_kind, bad_length, bad_limit, bad_size, blank_row, first}
use Rattle.rules.specs.Refusal.{problem_tests, some_blank, too_few}
use Rattle.rules.specs.Run.{after, bound, choose, conflict, crossed, ending, next, run, spending}
use Rattle.rules.specs.Runs.Replay.{bad_trace, first_wrong, mask_below, replay_refusal, replayed, replayed_from}
use Rattle.rules.specs.Runs.Replay.{step_words}
use Rattle.rules.specs.Runs.Trace.{run_count, trace_refusal}
use Rattle.rules.specs.Step.{admit, broken, entering, evidence, leaving, limit_at, may_fall, may_rise, moved, over}
use Rattle.rules.specs.Step.{pull, scaled, seated, shortfall_by, start, start_entry, start_seat, start_value, step}
use Rattle.rules.specs.Step.{suits, under}
use Rattle.rules.specs.Tableau.{divisor, divisor_size, pivot, reduced, relation, small, solved}

pub replays-right : ReplaysRight replay_cases
unfolding replay_cases replay_refusal bad_trace replayed replayed_from step_words first_wrong mask_below conflict
    crossed step
    leaving broken under over entering suits may_rise may_fall pull moved limit_at admit evidence scaled seated
    shortfall_by
    start start_entry start_seat start_value pivot solved reduced relation divisor divisor_size small
    problem present bit mapped first
    problem_tests too_few bad_size bad_length bad_coefficient bad_kind bad_kind_word bad_limit bad_limit_word
    some_blank blank_row
    lowest some_below all_below fold_below sum_by table_from matrix gcd gcd_turns within outside
replays-right = refl

pub traces-right : TracesRight trace_cases
unfolding trace_cases trace_refusal run_count ending spending run after next bound choose step_words mask_below
    conflict crossed step
    leaving broken under over entering suits may_rise may_fall pull moved limit_at admit evidence scaled seated
    shortfall_by
    start start_entry start_seat start_value pivot solved reduced relation divisor divisor_size small
    problem present bit mapped first
    problem_tests too_few bad_size bad_length bad_coefficient bad_kind bad_kind_word bad_limit bad_limit_word
    some_blank blank_row
    lowest some_below all_below fold_below sum_by table_from matrix gcd gcd_turns within outside
traces-right = refl
