-- `wide::cannot::weighed` meets its contract. Assumes nothing.
use mathlib.Core.Path.{ap, refl, sym, ◌∙◌}
use mathlib.Core.Bool.{Bool}
use lib.Dec.{lit≤}
use lib.IntN.{ℤ, zero-*ℤ, ◌*ℤ◌}
use mir.Facts.{to_z-of_z}
use mir.Syntax.{w32}
use mir.Val.{SFits}
use Rattle.rules.specs.Evidence.{plain_of}
use Rattle.rules.specs.Limit.{present}
use Rattle.amounts.specs.declared.Given.{Given}
use Rattle.limbs.proofs.Laws.Sizes.{sized-le}
use Rattle.limbs.specs.Limbs.{value}
use Rattle.whole.proofs.Numbers.Sizes.{fits-by}
use Rattle.wide.specs.Reads.{weight_most}
use Rattle.limbs.proofs.Laws.Stands.{stands-for, stands-is, stands-times, stands-zero}
use Rattle.wide.proofs.cannot.weighed.Goals as goal

-- a limit that is there, or not, times a multiplier
abbrev weight : Bool → Given → ℤ → ℤ
weight b g k = plain_of (present b (record { plain = g.plain; strict = g.strict })) *ℤ k

pub times-requires : goal.times-requires
times-requires c =
    let fit : SFits w32 c.args.limit.plain = fits-by c.requires.1 tt in
    simp (to_z-of_z fit) (sized-le c.requires.0 (lit≤ tt), c.requires.1)

pub returns-then-limit : goal.returns-then-limit
unfolding plain_of present
returns-then-limit c =
    let fit : SFits w32 c.args.limit.plain = fits-by c.requires.1 tt in
    stands-is (simp (to_z-of_z fit) at c.times.ensures)
    (stands-for (ap (λ (b : Bool). weight b c.args.limit (value c.args.k)) (sym c.if-limit.true))
    (stands-times c.requires.1 (record { number = refl; size = c.requires.0 })))

pub returns : goal.returns
unfolding plain_of present
returns c =
    stands-is c.zero.ensures
    (stands-for (sym (zero-*ℤ (value c.args.k))
    ∙ ap (λ (b : Bool). weight b c.args.limit (value c.args.k)) (sym c.if-limit.false))
    (stands-zero weight_most))
