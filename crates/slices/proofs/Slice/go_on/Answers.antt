-- `slices::Slice::go_on` meets its contract: 7 where there is no room for an answer, else what spending the pivots
-- comes to. Assumes nothing.
use mathlib.Core.Bool.{false}
use mathlib.Core.Path.{ap, sym, ◌∙◌}
use borrow.Author.Tests.{ltb-false}
use Rattle.slices.specs.Slices.{went_on_by}
use Rattle.slices.proofs.Laws.Stands.GoesOn.{goes-on-as, slice-long, slice-short}
use Rattle.slices.proofs.Slice.go_on.Goals as goal

pub returns-then-is_short : goal.returns-then-is_short
returns-then-is_short c = let a = c.args in
    let e = slice-short a.self a.pivots a.out.now (sym c.is_short.ensures ∙ c.if-is_short.true) in
    let r = ap (λ k. record { refused = k; answered = false; slice = a.self }) c.number.ensures ∙ e.0 in
    record { exact = r; output = e.1; meaning = goes-on-as a.self a.pivots a.out.now c.requires r e.1 }

-- there is room
pub spend-spent-requires : goal.spend-spent-requires
spend-spent-requires c = record {
  standing = c.requires;
  columns_in_bounds = ltb-false _ _ (sym c.is_short.ensures ∙ c.if-is_short.false);
}

pub returns : goal.returns
returns c = let a = c.args in
    let e = slice-long a.self a.pivots a.out.now (sym c.is_short.ensures ∙ c.if-is_short.false) in
    let r = ap went_on_by c.spend-spent.ensures.state ∙ e.0 in
    let l = c.spend-spent.ensures.output ∙ e.1 in
    record { exact = r; output = l; meaning = goes-on-as a.self a.pivots a.out.now c.requires r l }
