-- `divisor::common_of` meets its contract. The invariant: Euclid's step keeps the divisor. The measure is the second
-- number, which becomes a remainder by itself. Assumes nothing.
use Rattle.std.proofs.Common.{◌≡◌}
use Rattle.whole.specs.Divisors.{gcd}
use Rattle.divisor.proofs.common_of.Given as goal

abbrev pub invariant-loop-y : goal.invariant-loop-y
invariant-loop-y l = gcd l.x l.y ≡ gcd l.a l.b

abbrev pub decreases-loop-y : goal.decreases-loop-y
decreases-loop-y l = l.y
