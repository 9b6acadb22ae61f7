-- `pivot::wide::halves_of` meets its contract. The invariant: the cells passed are copied, the others 0.
-- Assumes nothing.
use Rattle.std.proofs.Common.{arith, ap, refl, sym, ◌∙◌, ◌≡◌, ◌<◌, List, ℕ, ℤ, pos, get_or}
use Rattle.std.proofs.Common.{FitsSigned, w32, w64, to_z-of_z}
use Rattle.whole.specs.Tables.{filled, table}
use Rattle.whole.proofs.Lists.Prefix.{filled-start, filled_more, filled-all}
use Rattle.whole.proofs.Lists.Tables.{table-all}
use Rattle.whole.proofs.Numbers.Sizes.{fits-by}
use Rattle.whole.specs.Numbers.{Within}
use Rattle.rules.specs.Sizes.{largest_number}
use Rattle.layout.specs.Layout.{most_entries}
use Rattle.pivot.proofs.wide.halves_of.Goals as goal

abbrev at : List ℤ → ℕ → ℤ
at l i = get_or l i (pos 0)

full : {z : ℤ} → Within z largest_number → FitsSigned w64 z
full h = fits-by h tt

half : {z : ℤ} → Within z largest_number → FitsSigned w32 z
half h = fits-by h tt

pub loop-i-init : goal.loop-i-init
loop-i-init c = filled-start most_entries (pos 0) (at c.args.cells.now)

pub loop-i-preserved : goal.loop-i-preserved
loop-i-preserved c =
    let f = full (c.requires.each c.loop-i.i) in
    let g = half (c.requires.each c.loop-i.i) in
    simp (to_z-of_z f, to_z-of_z g)
    (filled_more most_entries (pos 0) (at c.args.cells.now) c.loop-i.i (omega arith) c.loop-i.invariant refl)

pub returns : goal.returns
returns c =
    let l = c.args.cells.now in
    let e : c.loop-i.i ≡ most_entries = omega arith in
    c.loop-i.invariant
    ∙ ap (λ (k : ℕ). filled most_entries (pos 0) k (at l)) e ∙ filled-all most_entries (pos 0) (at l)
    ∙ ap (λ (k : ℕ). table k (at l)) (sym c.told-cells) ∙ table-all l (pos 0)
