-- `vectors::cycle::rows_of` meets its contract. Assumes nothing.
use borrow.Author.Rules.{rules}
use mathlib.Core.Bool.{false}
use mathlib.Core.List.{List}
use mathlib.Core.Path.{ap, sym, ◌∙◌, ◌≡◌}
use Prim.Native.Nat.{min, ◌-◌}
use lib.IntN.{ℤ, pos, nat_abs}
use lib.ListN.{length}
use lib.Signed.{lt_z, ◌≤ℤ◌}
use mir.Facts.{to_z-of_z, sfits_lit}
use mir.Syntax.{w64}
use mir.Val.{SFits, of_z, to_z}
use Rattle.whole.proofs.Numbers.Tests.{test-lt, test-nlt}
use Rattle.rules.specs.Problem.{word}
use Rattle.vectors.proofs.Listing.{rows_none, rows-least}
use Rattle.vectors.proofs.cycle.rows_of.Goals as goal

-- what is not below 0 by its bits is not below 0
least : (out : List ℤ) → SFits w64 (word out 1) →
    lt_z (to_z w64 (of_z w64 (word out 1))) (to_z w64 (of_z w64 (pos 0))) ≡ false → pos 0 ≤ℤ word out 1
least out fit = test-nlt w64 fit (sfits_lit tt)

pub returns-then-told-lt0-clause-count : goal.returns-then-told-lt0-clause-count
returns-then-told-lt0-clause-count c =
    let told : SFits w64 (word c.args.out.now 1) = search rules in
    sym (rows_none c.args.out.now (test-lt w64 told (sfits_lit tt) c.if-told-lt0.true))

pub returns-clause-count : goal.returns-clause-count
returns-clause-count c =
    let out = c.args.out.now in
    let told : SFits w64 (word out 1) = search rules in
    c.min.ensures ∙ ap (λ z. min (nat_abs z) (length out - 2)) (to_z-of_z told)
    ∙ sym (rows-least out (least out told c.if-told-lt0.false))
