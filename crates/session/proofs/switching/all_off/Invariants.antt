-- `session::switching::all_off` meets its contract. The invariant: the limits passed are off, the others missing.
-- Assumes nothing.
use mathlib.Core.Bool.{false}
use mathlib.Core.List.{List}
use mathlib.Core.Path.{◌≡◌}
use Prim.Native.Nat.{ℕ}
use lib.ListN.{get_or}
use Rattle.whole.specs.Tables.{filled}
use Rattle.rules.specs.Sizes.{most_variables}
use Rattle.amounts.specs.declared.Given.{Given}
use Rattle.amounts.specs.Amounts.{absent}
use Rattle.session.specs.Switching.{switched_to}
use Rattle.session.proofs.switching.all_off.Given as goal

abbrev pub off_at : List Given → ℕ → Given
off_at l v = switched_to (get_or l v absent) false

abbrev pub invariant-loop-v : goal.invariant-loop-v
invariant-loop-v l = l.limit-items ≡ filled most_variables absent l.v (off_at l.limits)
