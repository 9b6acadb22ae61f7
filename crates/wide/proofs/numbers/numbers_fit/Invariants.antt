-- `wide::numbers::numbers_fit` meets its contract. The invariant: whether the words of the numbers passed are in their
-- ranges. The measure is how many are left. Assumes nothing.
use mathlib.Core.Path.{◌≡◌}
use Prim.Native.Nat.{◌-◌, ◌≤◌}
use Rattle.whole.specs.Below.{all_below}
use Rattle.rules.specs.Wide.{number_fits}
use Rattle.wide.proofs.numbers.numbers_fit.Given as goal

abbrev pub invariant-loop-slot : goal.invariant-loop-slot
invariant-loop-slot l = (l.slot ≤ l.numbers) × (l.fine ≡ all_below l.slot (number_fits l.answer))

abbrev pub decreases-loop-slot : goal.decreases-loop-slot
decreases-loop-slot l = l.numbers - l.slot
