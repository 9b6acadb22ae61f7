-- `judge::has_lower` meets its contract. Assumes nothing.
use mathlib.Core.Path.{sym, ◌∙◌, ap}
use Prim.Native.Nat.{◌%◌}
use native.Mathlib.Nat.{div-one}
use lib.Dec.{eqb}
use lib.IntN.{nat_abs}
use mir.Facts.{to_z-of_z}
use Rattle.rules.specs.Limit.{bit}
use Rattle.judge.proofs.Laws.Judged.{parity}
use Rattle.judge.proofs.has_lower.Goals as goal

pub returns : goal.returns
unfolding bit
returns c =
    simp (to_z-of_z c.ranges.kind)
    (parity c.args.kind ∙ sym (ap (λ k. eqb (k % 2) 1) (div-one (nat_abs c.args.kind))))
