-- `reader::limits::all_limits` meets its contract. The invariant of its loop: the limits before `held.count` are read.
-- The measure is how many more there can be. Assumes nothing.
use Rattle.std.proofs.Common.{◌≡◌, ◌+◌, ◌-◌, ◌*◌, Ok}
use Rattle.reader.specs.Course.{LimitsAt}
use Rattle.reader.proofs.limits.all_limits.Given as goal

abbrev pub invariant-loop-counts : goal.invariant-loop-counts
invariant-loop-counts l =
    (l.most ≡ 2 * (l.counts.columns + l.counts.rows))
    × LimitsAt l.text l.counts.columns l.counts.rows l.held.count l.words (Ok l.held.at)

abbrev pub decreases-loop-counts : goal.decreases-loop-counts
decreases-loop-counts l = 2 * (l.counts.columns + l.counts.rows) - l.held.count
