-- `wide::cannot::strict_named` meets its contract. Assumes nothing.
use mathlib.Core.Path.{ap, ◌∙◌}
use mathlib.Core.Bool.{Bool, not, ◌&&◌}
use lib.Dec.{lit≤}
use Rattle.limbs.proofs.Laws.Sizes.{sized-le}
use Rattle.limbs.specs.Limbs.{value}
use Rattle.parts.proofs.Laws.Tests.{named-joined}
use Rattle.wide.proofs.cannot.strict_named.Goals as goal

pub is_zero-requires : goal.is_zero-requires
is_zero-requires c = sized-le c.requires (lit≤ tt)

pub returns : goal.returns
returns c = let l = c.args.limit in
    ap (λ (b : Bool). l.on && (l.strict && not b)) c.is_zero.ensures
    ∙ named-joined l.on _ (value c.args.k)
