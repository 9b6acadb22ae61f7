-- What a limit stands for, and D times it, are small.
--   NearLimit                 what a limit may stand for
--   lower-near, upper-near    what a lower and an upper limit stands for
--   limit-modest              D times that
use native.Mathlib.Omega.{arith}
use lib.IntN.{ℤ}
use Rattle.whole.specs.Numbers.{Within}
use Rattle.whole.specs.Values.{pairs}
use Rattle.whole.proofs.Numbers.Sizes.{within-*, within-le}
use Rattle.rules.specs.Sizes.{largest_limit, largest_number}
use Rattle.rules.proofs.Refusal.Accepted.{inset-within, outset-within}
use Rattle.amounts.specs.declared.Given.{Given}
use Rattle.amounts.specs.Amounts.{given_lower, given_upper}
use Rattle.sides.specs.Sides.{Modest}

pub record NearLimit (x : ℤ × ℤ) : Type 0 where
  pub plain : Within x.0 largest_limit
  pub small : Within x.1 1

module _ (g : Given) (h : Within g.plain largest_limit) where
  pub lower-near : NearLimit (given_lower g)
  lower-near = record { plain = h; small = inset-within g.strict }

  pub upper-near : NearLimit (given_upper g)
  upper-near = record { plain = h; small = outset-within g.strict }

pub limit-modest : (d : ℤ) (x : ℤ × ℤ) → Within d largest_number → NearLimit x → Modest (pairs.scale d x)
limit-modest d x c h = record {
  plain = within-le (within-* c h.plain) (omega arith);
  small = within-le (within-* c h.small) (omega arith);
}
