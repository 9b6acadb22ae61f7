-- Every worked run in slices is right, by computation.
use mathlib.Core.Path.{refl}
use Rattle.whole.specs.Below.{all_below, fold_below, lowest, some_below}
use Rattle.whole.specs.Divisors.{gcd, gcd_turns}
use Rattle.whole.specs.Numbers.{outside, within}
use Rattle.whole.specs.Sums.{sum_by}
use Rattle.whole.specs.Tables.{matrix, table_from}
use Rattle.rules.specs.Answer.{words_of}
use Rattle.rules.specs.Cases.Slices.{SlicesRight, replies_of, slice_cases}
use Rattle.rules.specs.Limit.{bit, present}
use Rattle.rules.specs.Problem.{mapped, problem}
use Rattle.rules.specs.Run.{conflict, crossed, run, spending}
use Rattle.rules.specs.Runs.Slices.{begun, continued, slice_answer, told}
use Rattle.rules.specs.Step.{admit, broken, entering, evidence, leaving, limit_at, may_fall, may_rise, moved, over}
use Rattle.rules.specs.Step.{pull, scaled, seated, shortfall_by, start, start_entry, start_seat, start_value, step}
use Rattle.rules.specs.Step.{suits, under}
use Rattle.rules.specs.Tableau.{divisor, divisor_size, pivot, reduced, relation, small, solved}

pub slices-right : SlicesRight slice_cases
unfolding slice_cases replies_of slice_answer continued begun told words_of spending conflict crossed run step
    leaving broken under over entering suits may_rise may_fall pull moved limit_at admit evidence scaled seated
    shortfall_by
    start start_entry start_seat start_value pivot solved reduced relation divisor divisor_size small
    problem present bit mapped
    lowest some_below all_below fold_below sum_by table_from matrix gcd gcd_turns within outside
slices-right = refl
