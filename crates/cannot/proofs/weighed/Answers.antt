-- `cannot::weighed` meets its contract: the product fits, as it is within the largest limit times the largest
-- number. Assumes nothing.
use mathlib.Core.Path.{ap, sym, ◌∙◌}
use mathlib.Core.Bool.{Bool}
use lib.IntN.{ℤ, ◌*ℤ◌, zero-*ℤ}
use mir.Facts.{to_z-of_z}
use mir.Syntax.{w32, w64}
use mir.Val.{SFits}
use Rattle.whole.proofs.Numbers.Sizes.{within-*, fits-by}
use Rattle.rules.specs.Limit.{present}
use Rattle.rules.specs.Evidence.{plain_of}
use Rattle.amounts.specs.declared.Given.{Given}
use Rattle.cannot.proofs.weighed.Goals as goal

-- a limit that is there, or not, times a multiplier
abbrev weight : Bool → Given → ℤ → ℤ
weight b g k = plain_of (present b (record { plain = g.plain; strict = g.strict })) *ℤ k

pub overflow_mul-result : goal.overflow_mul-result
overflow_mul-result c =
    let short : SFits w32 c.args.limit.plain = fits-by c.requires.0 tt in
    let long : SFits w64 c.args.limit.plain = fits-by c.requires.0 tt in
    simp (to_z-of_z short, to_z-of_z long, to_z-of_z c.ranges.k) (fits-by (within-* c.requires.0 c.requires.1) tt)

pub returns-then-limit : goal.returns-then-limit
unfolding plain_of present
returns-then-limit c =
    let short : SFits w32 c.args.limit.plain = fits-by c.requires.0 tt in
    let long : SFits w64 c.args.limit.plain = fits-by c.requires.0 tt in
    let product : SFits w64 (c.args.limit.plain *ℤ c.args.k) = fits-by (within-* c.requires.0 c.requires.1) tt in
    simp (to_z-of_z short, to_z-of_z long, to_z-of_z c.ranges.k, to_z-of_z product)
    (ap (λ (b : Bool). weight b c.args.limit c.args.k) (sym c.if-limit.true))

pub returns : goal.returns
unfolding plain_of present
returns c =
    sym (zero-*ℤ c.args.k) ∙ ap (λ (b : Bool). weight b c.args.limit c.args.k) (sym c.if-limit.false)
