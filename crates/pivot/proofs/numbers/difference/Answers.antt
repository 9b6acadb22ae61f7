-- `pivot::numbers::difference` meets its contract: the difference of two products fits 64 bits. Assumes nothing.
use lib.IntN.{◌*ℤ◌, ◌-ℤ◌}
use mir.Facts.{to_z-of_z}
use mir.Syntax.{w64}
use mir.Val.{SFits}
use Rattle.whole.proofs.Numbers.Sizes.{within-*, within--, fits-by}
use Rattle.whole.proofs.Numbers.Halves.{half_product, widened}
use Rattle.pivot.proofs.numbers.difference.Goals as goal
use Rattle.pivot.proofs.numbers.difference.Goals.{Start}

module _ (s : Start) where
  fit-first : SFits w64 (s.args.a *ℤ s.args.b)
  fit-first = half_product s.ranges.a s.ranges.b

  fit-second : SFits w64 (s.args.c *ℤ s.args.d)
  fit-second = half_product s.ranges.c s.ranges.d

  fit-both : SFits w64 (s.args.a *ℤ s.args.b -ℤ s.args.c *ℤ s.args.d)
  fit-both = let h = s.requires in
      fits-by (within-- (within-* h.within.0 h.within.1) (within-* h.within_2.0 h.within_2.1)) tt

pub overflow_sub-result : goal.overflow_sub-result
overflow_sub-result c =
    rw (widened c.ranges.a, widened c.ranges.b, widened c.ranges.c, widened c.ranges.d)
    (simp (to_z-of_z (fit-first c), to_z-of_z (fit-second c)) (fit-both c))

pub returns : goal.returns
returns c =
    rw (widened c.ranges.a, widened c.ranges.b, widened c.ranges.c, widened c.ranges.d)
    (simp (to_z-of_z (fit-first c), to_z-of_z (fit-second c), to_z-of_z (fit-both c)))
