-- The pull of a blocked row by place: its size.
--   pull-within
use mathlib.Core.Bool.{Bool, false, true}
use mathlib.Core.List.{List}
use Prim.Native.Nat.{ℕ}
use native.Mathlib.Omega.{arith}
use lib.Dec.{eqb}
use lib.IntN.{ℤ}
use Rattle.whole.specs.Numbers.{Within}
use Rattle.whole.proofs.Numbers.Sizes.{within-neg}
use Rattle.rules.specs.Sizes.{largest_number}
use Rattle.rules.specs.Step.{Side, above, below, pull}
use Rattle.tableau.specs.declared.Seat.{Seat}
use Rattle.layout.specs.Layout.{flat}
use Rattle.sides.specs.Sides.{side_by}
use Rattle.search.specs.declared.Blocked.{Blocked}
use Rattle.answers.specs.Multipliers.{Blockable, pull_of, pull_laid, relation_from}

pulled-within : {n : ℕ} (σ : Side) (z : ℤ) → Within z n → Within (pull σ z) n
unfolding pull
pulled-within below z h = h
pulled-within above z h = within-neg h

relation-within : {n : ℕ} (b own : Bool) (d a : ℤ) → Within d n → Within a n → Within (relation_from b own d a) n
relation-within true true d a h k = within-neg h
relation-within true false d a h k = record { within = omega arith }
relation-within false own d a h k = k

pub pull-within : {l : List ℤ} {rows columns : ℕ} {d : ℤ} (b : Blocked) (x : Seat) →
    Blockable l rows columns d b.row.0 x → Within (pull_of l rows columns d b x) largest_number
unfolding pull_laid
pull-within {rows} {columns} {d} b x B = pulled-within (side_by b.rises) _
    (relation-within x.basic (eqb x.row.0 b.row.0) d _ B.common-within
    (B.entries-within (flat rows columns b.row.0 x.column.0)))
