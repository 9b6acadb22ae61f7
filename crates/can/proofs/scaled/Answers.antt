-- `can::scaled` meets its contract: the product fits, as it is within the largest number times the largest limit.
-- Assumes nothing.
use Rattle.std.proofs.Common.{◌*ℤ◌, refl, w32, w64}
use mir.Facts.{to_z-of_z}
use mir.Val.{SFits}
use Rattle.whole.proofs.Numbers.Sizes.{within-*, fits-by}
use Rattle.can.proofs.scaled.Goals as goal

pub overflow_mul-result : goal.overflow_mul-result
overflow_mul-result c =
    let short : SFits w32 c.args.limit.plain = fits-by c.requires.1 tt in
    let long : SFits w64 c.args.limit.plain = fits-by c.requires.1 tt in
    simp (to_z-of_z c.ranges.denominator, to_z-of_z short, to_z-of_z long)
    (fits-by (within-* c.requires.0 c.requires.1) tt)

pub returns : goal.returns
returns c =
    let short : SFits w32 c.args.limit.plain = fits-by c.requires.1 tt in
    let long : SFits w64 c.args.limit.plain = fits-by c.requires.1 tt in
    let product : SFits w64 (c.args.denominator *ℤ c.args.limit.plain) =
    fits-by (within-* c.requires.0 c.requires.1) tt in
    simp (to_z-of_z c.ranges.denominator, to_z-of_z short, to_z-of_z long, to_z-of_z product) refl
