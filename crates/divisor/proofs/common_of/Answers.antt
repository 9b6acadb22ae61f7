-- `divisor::common_of` meets its contract. The invariant: Euclid's step keeps the divisor. The measure is the second
-- number, which becomes a remainder by itself. Assumes nothing.
use Rattle.std.proofs.Common.{arith}
use Rattle.whole.proofs.Numbers.Divisors.{gcd-zero, gcd-step}
use Rattle.divisor.proofs.common_of.Goals as goal

pub loop-y-preserved : goal.loop-y-preserved
loop-y-preserved c = let e = gcd-step c.loop-y.x c.loop-y.y (omega arith) in cc

pub returns : goal.returns
returns c = let e = gcd-zero c.loop-y.x in cc
