-- `pivot::wide::mixed_line` meets its contract. The invariant: the cells before this step of the line are the
-- definition's, the others 0. Assumes nothing.
use Rattle.std.proofs.Common.{rules, arith, ap, ◌∙◌, ◌≡◌, ◌+◌, ◌<◌, List, ℕ, ℤ, FitsSigned, w64, to_z-of_z}
use Rattle.layout.specs.declared.Spot.{Spot}
use Rattle.layout.specs.Layout.{OnLine, lines, steps, row_at, column_at}
use Rattle.layout.proofs.Laws.Lines.{line-more, spot_in, step_in}
use Rattle.pivot.specs.declared.asked.Asked.{Asked}
use Rattle.pivot.specs.Asked.{Able, cell_for}
use Rattle.pivot.proofs.wide.mixed_line.Goals as goal

-- the cell of a spot
abbrev at-spot : List ℤ → Asked → Spot → ℤ
at-spot l a x = cell_for l a x.row.0 x.column.0

-- .. and of a flat place
abbrev cell : List ℤ → Asked → ℕ → ℤ
cell l a k = cell_for l a (row_at a.rows a.columns k) (column_at a.rows a.columns k)

-- a step of the line
on_line : (l : List ℤ) (a : Asked) → Able l a → {line many : ℕ} (step : ℕ) → line < lines a.rows a.columns →
    many ≡ steps a.rows a.columns → step < many → OnLine a.rows a.columns line step
on_line l a able step h e b =
    record { few-rows = able.few-rows; few-columns = able.few-columns; in_lines = h; in-steps = rw (← e) b }

pub overflow_add-at : goal.overflow_add-at
overflow_add-at c =
    let o = on_line _ _ c.args.turn.able c.loop-step.step c.requires.line_bound c.steps-steps.ensures (omega arith) in
    omega (arith, step_in o, c.line_at-start.ensures)

pub mixed_at-requires : goal.mixed_at-requires
mixed_at-requires c =
    let o = on_line _ _ c.args.turn.able c.loop-step.step c.requires.line_bound c.steps-steps.ensures (omega arith) in
    spot_in o c.spot_at-spot.ensures

pub offset_bounds-out-at : goal.offset_bounds-out-at
offset_bounds-out-at c =
    let o = on_line _ _ c.args.turn.able c.loop-step.step c.requires.line_bound c.steps-steps.ensures (omega arith) in
    omega (arith, step_in o, c.line_at-start.ensures)

pub bounds-out-at : goal.bounds-out-at
bounds-out-at c =
    let o = on_line _ _ c.args.turn.able c.loop-step.step c.requires.line_bound c.steps-steps.ensures (omega arith) in
    omega (arith, step_in o, c.line_at-start.ensures)

pub loop-step-preserved : goal.loop-step-preserved
loop-step-preserved c =
    let l = c.args.turn.entries.now in
    let a = c.args.turn.asked in
    let o = on_line l a c.args.turn.able c.loop-step.step c.requires.line_bound c.steps-steps.ensures (omega arith) in
    let fit : FitsSigned w64 c.mixed_at.result = search rules in
    simp (to_z-of_z fit)
    (line-more a.rows a.columns (cell l a) c.args.line o (ap (λ b. b + c.loop-step.step) c.line_at-start.ensures)
    c.loop-step.invariant (c.mixed_at.ensures ∙ ap (at-spot l a) c.spot_at-spot.ensures))
