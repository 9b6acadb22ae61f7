-- `pivot::column::Cells::divisor` meets its contract. The invariant: g is the divisor of the number and the cells
-- passed; where it is 1 it is 1 for all cells (`column-one`). Assumes nothing.
use Rattle.std.proofs.Common.{arith, ap₂, sym, ◌∙◌}
use Rattle.whole.specs.Divisors.{gcd}
use Rattle.pivot.proofs.Laws.Trial.Columns.{column-none, column-more, column-one}
use Rattle.pivot.proofs.column.Cells.divisor.Goals as goal

pub loop-i-init : goal.loop-i-init
loop-i-init c = let s = c.args.self in sym (column-none s.entries.now s.besides.now s.column c.args.by)

pub returns-then-g-eq1 : goal.returns-then-g-eq1
returns-then-g-eq1 c = let s = c.args.self in
    sym (column-one s.entries.now s.besides.now s.column c.args.by c.loop-i.i s.column.rows (omega arith)
    (sym c.loop-i.invariant ∙ c.if-g-eq1.true))

pub loop-i-preserved : goal.loop-i-preserved
loop-i-preserved c = let s = c.args.self in
    c.common_of-g.ensures ∙ ap₂ gcd c.size_at.ensures c.loop-i.invariant
    ∙ sym (column-more s.entries.now s.besides.now s.column c.args.by c.loop-i.i)
