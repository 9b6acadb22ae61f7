-- None of the rows passed is the row.
use mathlib.Core.Bool.{false}
use mathlib.Core.Path.{◌≡◌}
use Rattle.vectors.specs.Listed.{is_listed}
use Rattle.vectors.proofs.cycle.is_listed.Given as goal

abbrev pub invariant-loop-i : goal.invariant-loop-i
invariant-loop-i l = is_listed l.fn.out l.i l.fn.row ≡ false
