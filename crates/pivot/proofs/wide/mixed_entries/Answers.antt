-- `pivot::wide::mixed_entries` meets its contract. The invariant: the lines passed are the definition's, the other
-- cells 0. Assumes nothing.
use Rattle.std.proofs.Common.{arith, ◌≡◌, ◌∙◌, List, ℕ, ℤ}
use Rattle.layout.specs.Layout.{row_at, column_at}
use Rattle.layout.proofs.Laws.Lines.{lines-all, lines_start}
use Rattle.pivot.specs.declared.asked.Asked.{Asked}
use Rattle.pivot.specs.Asked.{cell_for}
use Rattle.pivot.proofs.wide.mixed_entries.Goals as goal

-- the cell at a flat place
abbrev cell : List ℤ → Asked → ℕ → ℤ
cell l a k = cell_for l a (row_at a.rows a.columns k) (column_at a.rows a.columns k)

pub loop-line-init : goal.loop-line-init
loop-line-init c = let a = c.args.turn.asked in lines_start a.rows a.columns (cell c.args.turn.entries.now a)

pub returns : goal.returns
returns c =
    let a = c.args.turn.asked in
    let e : c.loop-line.line ≡ c.lines-lines.result = omega arith in
    lines-all a.rows a.columns (cell c.args.turn.entries.now a) (e ∙ c.lines-lines.ensures) c.loop-line.invariant
