-- `pivot::range::all_in_range` meets its contract. Assumes nothing.
use Rattle.std.proofs.Common.{rules, tests, to_z-of_z, sym, ◌∙◌, ◌≡◌}
use Rattle.std.specs.List.{list_all}
use Rattle.std.proofs.lemmas.Iterator.{YieldsList-from_slice}
use Rattle.std.proofs.lemmas.Iterator.Search.{all_from_yields_List}
use Rattle.pivot.specs.Pivot.{in_range, small_below}
use Rattle.pivot.proofs.Laws.Ranges.{small-common, small-list}
use Rattle.pivot.proofs.range.all_in_range.Goals as goal

pub returns-then-in_range : goal.returns-then-in_range
unfolding small_below
returns-then-in_range c =
    let l = c.args.cells.now in
    let fine = simp (to_z-of_z c.ranges.common) at (sym c.in_range.ensures ∙ c.if-in_range.true) in
    let all : c.all.result ≡ list_all in_range l = all_from_yields_List in_range _ _ c.all.result c.all.ensures.ran
    (YieldsList-from_slice l c.iter.ensures.rest) (λ x b q k. search (rules, tests, to_z-of_z)) in
    rw fine (all ∙ small-list l)

pub returns-else-in_range : goal.returns-else-in_range
returns-else-in_range c = c.if-in_range.false ∙ sym (small-common _ _ _
    (simp (to_z-of_z c.ranges.common) at (sym c.in_range.ensures ∙ c.if-in_range.false)))
