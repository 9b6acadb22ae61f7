-- `pivot::column::Cells::is_above` meets its contract. The invariant: no cell passed is above the limit.
-- Assumes nothing.
use Rattle.std.proofs.Common.{arith, sym, subst, ◌≤◌, ◌<◌}
use Rattle.pivot.proofs.Laws.Trial.Columns.{above-none, above_more, above-here}
use Rattle.pivot.proofs.column.Cells.is_above.Goals as goal

pub loop-i-init : goal.loop-i-init
loop-i-init c = let s = c.args.self in above-none s.entries.now s.besides.now s.column c.args.limit

pub returns-then-size_at-limit : goal.returns-then-size_at-limit
returns-then-size_at-limit c = let s = c.args.self in
    sym (above-here s.entries.now s.besides.now s.column c.args.limit s.column.rows c.loop-i.i (omega arith)
    (subst (λ n. c.args.limit < n) c.size_at.ensures c.if-size_at-limit.true))

pub loop-i-preserved : goal.loop-i-preserved
loop-i-preserved c = let s = c.args.self in
    above_more s.entries.now s.besides.now s.column c.args.limit c.loop-i.i c.loop-i.invariant
    (subst (λ n. n ≤ c.args.limit) c.size_at.ensures c.if-size_at-limit.false)
