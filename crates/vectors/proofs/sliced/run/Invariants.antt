-- A slice can be gone on with after each part of the run.
use Rattle.slices.specs.Slices.{SliceStanding}
use Rattle.vectors.proofs.sliced.run.Given as goal

abbrev pub invariant-loop-pivots : goal.invariant-loop-pivots
invariant-loop-pivots g l = SliceStanding l.slice
