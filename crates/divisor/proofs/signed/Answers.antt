-- `divisor::signed` meets its contract: the size and its opposite fit. Assumes nothing.
use Rattle.std.proofs.Common.{arith}
use Rattle.std.proofs.lemmas.Int.{ints}
use Rattle.divisor.specs.Signs.{signed_by}
use Rattle.divisor.proofs.signed.Goals as goal

pub returns-then-sign-lt0 : goal.returns-then-sign-lt0
unfolding signed_by
returns-then-sign-lt0 c = grind (arith, ints)

pub returns-else-sign-lt0 : goal.returns-else-sign-lt0
unfolding signed_by
returns-else-sign-lt0 c = grind (arith, ints)
