-- `times::cycle::way_back` meets its contract. The invariant of its loop: the way so far is a trail, and its vertices
-- are marked. The measure is the places left: n different vertices cannot be n + 1. Assumes nothing.
use Prim.Native.Nat.{ℕ}
use Rattle.times.specs.Steps.{Closing}
use Rattle.times.proofs.Laws.Tracing.{Tracing}
use Rattle.times.proofs.cycle.way_back.Given as goal

abbrev pub invariant-loop-last : goal.invariant-loop-last
invariant-loop-last l =
    (passes : ℕ) (c : Closing l.rows.words.now l.last passes l.v) → Tracing c l.seen l.path l.here l.left

abbrev pub decreases-loop-last : goal.decreases-loop-last
decreases-loop-last l = l.left
