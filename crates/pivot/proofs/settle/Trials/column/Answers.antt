-- `pivot::settle::Trials::column` meets its contract. Assumes nothing.
use Rattle.std.proofs.Common.{subst, sym, w32, to_z-of_z}
use Rattle.whole.proofs.Numbers.Sizes.{fits-by}
use Rattle.layout.proofs.Laws.Layout.{lines_are}
use Rattle.pivot.specs.declared.column.Column.{Column}
use Rattle.pivot.specs.Trials.{Columned}
use Rattle.pivot.proofs.Laws.Trial.Columns.{column-alike, columned}
use Rattle.pivot.proofs.settle.Trials.column.Goals as goal

pub line_at-requires : goal.line_at-requires
line_at-requires c = let b = c.args.self.border.now in let h = c.args.self.bordered in
    (h.few-rows, h.few-columns, rw (lines_are b.rows b.columns) c.requires)

pub invariant_of-result : goal.invariant_of-result
invariant_of-result c =
    let s = c.args.self in
    let b = s.border.now in
    let h = s.bordered in
    let e = column-alike b.rows c.line_at.ensures (to_z-of_z {w = w32} (fits-by h.pivot-within tt))
    (to_z-of_z {w = w32} (fits-by (h.aboves-within.each c.args.j) tt)) in
    record {
      columned = subst (λ (k : Column). Columned s.entries.now b.besides k) (sym e)
          (columned s.entries.now b c.args.j c.requires s.within h);
    }
