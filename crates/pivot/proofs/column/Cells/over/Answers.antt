-- `pivot::column::Cells::over` meets its contract. The invariant: the cells passed are written, the others are as they
-- were, and while none of the quotients is wrong each of them is right. Assumes nothing.
use Rattle.std.proofs.Common.{rules, arith, ◌≡◌, ◌<◌, ◌+◌, true, length, FitsSigned, w32, w64, to_z-of_z}
use Rattle.whole.proofs.Bools.{and-true}
use Rattle.pivot.specs.Trials.{Quotient, difference_in}
use Rattle.pivot.proofs.Laws.Trial.Columns.{spared-more, each_more}
use Rattle.pivot.proofs.column.Cells.over.Goals as goal

pub loop-i-preserved : goal.loop-i-preserved
loop-i-preserved c =
    let s = c.args.self in
    let by = c.args.divider.by in
    let l = c.loop-i in
    let fit-q : FitsSigned w32 c.guess-q.result = search rules in
    let fit-by : FitsSigned w32 by = search rules in
    let fit-raw : FitsSigned w64 c.at-raw.result = search rules in
    let room : s.column.start + l.i < length l.out = omega (arith, s.columned.in_array, l.invariant.0.long) in
    let right : c.is_quotient-right.result ≡ true →
    Quotient by (difference_in s.entries.now s.besides.now s.column l.i) c.guess-q.result =
    λ e. rw (← c.at-raw.ensures)
    (simp (to_z-of_z fit-q, to_z-of_z fit-by, to_z-of_z fit-raw) at c.is_quotient-right.ensures e) in
    simp (to_z-of_z fit-q) (
      spared-more s.column.start l.i c.args.out.now l.out c.guess-q.result l.invariant.0,
      λ e. let t = and-true _ _ e in
          each_more (λ u z. Quotient by (difference_in s.entries.now s.besides.now s.column u) z) s.column.start l.i
          l.out c.guess-q.result room (l.invariant.1 t.0) (right t.1),
    )
