-- `wide::numbers::numbers_fit` meets its contract. The invariant: whether the words of the numbers passed are in their
-- ranges. The measure is how many are left. Assumes nothing.
use mathlib.Core.Path.{◌≡◌, sym}
use native.Mathlib.Omega.{arith}
use Rattle.whole.proofs.Lists.Below.{all_start}
use Rattle.rules.proofs.Evidence.Joined.{tests-more}
use Rattle.wide.proofs.numbers.numbers_fit.Goals as goal
use Rattle.wide.proofs.numbers.numbers_fit.Goals.{After-loop-slot}

pub loop-slot-init : goal.loop-slot-init
loop-slot-init c = (omega arith, sym (all_start _))

pub loop-slot-preserved : goal.loop-slot-preserved
loop-slot-preserved c = (
  omega arith,
  tests-more c.loop-slot.slot _ c.loop-slot.invariant.1 c.number_fits-fine.ensures,
)

all : (c : After-loop-slot) → c.loop-slot.slot ≡ c.args.numbers
all c = omega arith

pub returns : goal.returns
returns c = rw (all c) at c.loop-slot.invariant.1
