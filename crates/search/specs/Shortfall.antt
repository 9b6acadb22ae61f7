-- docs/RULES.md, "The run", "A step", 1: how large a shortfall can be.
use Rattle.std.specs.Prelude.{◌+◌, ℤ}
use Rattle.whole.specs.Numbers.{Within}
use Rattle.rules.specs.Sizes.{largest_number, largest_shortfall, largest_small}

-- its plain part, and its small part
pub record Short (x : ℤ × ℤ) : Type 0 where
  pub plain : Within x.0 largest_shortfall
  pub small : Within x.1 (largest_small + largest_number)
