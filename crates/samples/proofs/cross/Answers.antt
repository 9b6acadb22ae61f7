-- `samples::cross` meets its contract: each product is within the square of the largest number, and the difference
-- within twice that. Assumes nothing.
use Rattle.std.proofs.Common.{rules, ℤ, ◌*ℤ◌, ◌-ℤ◌, FitsSigned, w64}
use Rattle.whole.specs.Numbers.{Within}
use Rattle.whole.proofs.Numbers.Sizes.{within-*, within--, fits-by}
use Rattle.samples.proofs.cross.Goals as goal

product : {a b : ℤ} → Within a 2147483647 → Within b 2147483647 → FitsSigned w64 (a *ℤ b)
product h k = fits-by (within-* h k) tt

difference : {a b c d : ℤ} → Within a 2147483647 → Within b 2147483647 → Within c 2147483647 → Within d 2147483647 →
    FitsSigned w64 (a *ℤ b -ℤ c *ℤ d)
difference h k l m = fits-by (within-- (within-* h k) (within-* l m)) tt

pub overflow_mul-result : goal.overflow_mul-result
overflow_mul-result c = search (rules, product)

pub overflow_mul-result-2 : goal.overflow_mul-result-2
overflow_mul-result-2 c = search (rules, product)

pub overflow_sub-result : goal.overflow_sub-result
overflow_sub-result c = search (rules, product, difference)

pub returns : goal.returns
returns c = search (rules, product, difference)
