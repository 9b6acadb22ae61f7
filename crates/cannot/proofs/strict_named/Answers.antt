-- `cannot::strict_named` meets its contract. Assumes nothing.
use mathlib.Core.Path.{ap, ◌∙◌}
use mathlib.Core.Bool.{Bool, not, ◌&&◌}
use lib.Dec.{lit<}
use lib.IntN.{pos}
use mir.Syntax.{w64}
use mir.Val.{SFits}
use Rattle.whole.proofs.Tells.{bits-eq}
use Rattle.parts.proofs.Laws.Tests.{named-joined}
use Rattle.cannot.proofs.strict_named.Goals as goal

zero-fits : SFits w64 (pos 0)
zero-fits = record { sfits = lit< tt }

pub returns : goal.returns
returns c = let l = c.args.limit in
    ap (λ (b : Bool). l.on && (l.strict && not b)) (bits-eq w64 c.ranges.k zero-fits)
    ∙ named-joined l.on _ c.args.k
