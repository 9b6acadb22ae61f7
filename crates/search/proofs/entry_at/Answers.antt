-- `search::entry_at` meets its contract. Assumes nothing.
use mathlib.Core.Path.{ap, ◌∙◌}
use Prim.Native.Nat.{◌<◌}
use native.Mathlib.Omega.{arith}
use borrow.Author.Rules.{rules}
use lib.IntN.{pos}
use lib.ListN.{get_or}
use mir.Facts.{to_z-of_z}
use mir.Syntax.{w32}
use mir.Val.{SFits}
use Rattle.layout.specs.Layout.{most_entries}
use Rattle.layout.proofs.Laws.Layout.{flat_in}
use Rattle.search.proofs.entry_at.Goals as goal

pub offset_bounds-entries-k : goal.offset_bounds-entries-k
offset_bounds-entries-k c = let a = c.args in let r = c.requires in
    let z : c.place-k.result < most_entries =
    rw c.place-k.ensures (flat_in a.size.rows a.size.columns a.row.0 a.column.0 r.0 r.1 r.2 r.3) in
    omega arith

pub bounds-entries-k : goal.bounds-entries-k
bounds-entries-k c = let a = c.args in let r = c.requires in
    rw c.place-k.ensures (flat_in a.size.rows a.size.columns a.row.0 a.column.0 r.0 r.1 r.2 r.3)

pub returns : goal.returns
returns c =
    let fit : SFits w32 (get_or c.args.entries.now c.place-k.result (pos 0)) = search rules in
    to_z-of_z fit ∙ ap (λ k. get_or c.args.entries.now k (pos 0)) c.place-k.ensures
