-- `tableau::read::start_line` meets its contract. The invariant: the cells before this step of the line are the
-- definition's, the others 0. Assumes nothing.
use Rattle.std.proofs.Common.{◌≡◌, ◌∙◌, ℕ, ◌+◌, ◌<◌, List, ℤ, ap, arith, rules, w32, SFits}
use Rattle.std.proofs.Math.Facts.{to_z-of_z}
use Rattle.rules.specs.Problem.{Problem, problem}
use Rattle.rules.specs.Limit.{Limit}
use Rattle.judge.specs.Words.{Framed}
use Rattle.layout.specs.declared.Spot.{Spot}
use Rattle.layout.specs.Layout.{OnLine, most_entries, row_at, column_at, line_at, lines}
use Rattle.layout.specs.Layout as layout
use Rattle.layout.proofs.Laws.Lines.{line-all, line-more, line-start, spot_in, step_in}
use Rattle.tableau.proofs.read.start_line.Goals as goal

-- the number of a cell
abbrev cell : Problem Limit → ℕ → ℕ → ℕ → ℤ
cell P m n k = P.coefficient (row_at m n k) (column_at m n k)

-- a step of a line
on_line : {ws : List ℤ} {m n : ℕ} (line step : ℕ) {steps : ℕ} → Framed ws n m → line < lines m n →
    steps ≡ layout.steps m n → step < steps → OnLine m n line step
on_line line step F h e k = record {
  few-rows = F.few-rows;
  few-columns = F.few-columns;
  in_lines = h;
  in-steps = rw (← e) k;
}

-- .. stands within the cells
in_cells : {m n line step start : ℕ} → OnLine m n line step → start ≡ line_at m n line → start + step < most_entries
in_cells h e = rw e (step_in h)

pub line_at-start-requires : goal.line_at-start-requires
line_at-start-requires c = let h = c.requires in (h.framed.few-rows, h.framed.few-columns, h.line_bound)

pub loop-step-init : goal.loop-step-init
loop-step-init c = let a = c.args in
    line-start a.rows a.columns (cell (problem a.words.now) a.rows a.columns) a.line c.requires.entries_value

pub spot_at-spot-requires : goal.spot_at-spot-requires
spot_at-spot-requires c = on_line c.args.line c.loop-step.step c.requires.framed c.requires.line_bound
    c.steps-steps.ensures c.loop-step-test.true

pub overflow_add-at : goal.overflow_add-at
overflow_add-at c = let h = in_cells (on_line c.args.line c.loop-step.step c.requires.framed c.requires.line_bound
    c.steps-steps.ensures c.loop-step-test.true) c.line_at-start.ensures in
    omega (arith, h)

pub coefficient_at-requires : goal.coefficient_at-requires
coefficient_at-requires c = record {
  framed = c.requires.framed;
  row_lt_rows = spot_in (on_line c.args.line c.loop-step.step c.requires.framed c.requires.line_bound
      c.steps-steps.ensures c.loop-step-test.true) c.spot_at-spot.ensures;
}

pub offset_bounds-entries-at : goal.offset_bounds-entries-at
offset_bounds-entries-at c = let h = in_cells (on_line c.args.line c.loop-step.step c.requires.framed
    c.requires.line_bound c.steps-steps.ensures c.loop-step-test.true) c.line_at-start.ensures in
    omega (arith, h)

pub bounds-entries-at : goal.bounds-entries-at
bounds-entries-at c = in_cells (on_line c.args.line c.loop-step.step c.requires.framed
    c.requires.line_bound c.steps-steps.ensures c.loop-step-test.true) c.line_at-start.ensures

pub loop-step-preserved : goal.loop-step-preserved
loop-step-preserved c = let a = c.args in let P = problem a.words.now in
    let h = on_line a.line c.loop-step.step c.requires.framed c.requires.line_bound
    c.steps-steps.ensures c.loop-step-test.true in
    let fit : SFits w32 c.coefficient_at.result = search rules in
    simp (to_z-of_z fit) (line-more a.rows a.columns (cell P a.rows a.columns) a.line h
    (ap (λ b. b + c.loop-step.step) c.line_at-start.ensures) c.loop-step.invariant
    (c.coefficient_at.ensures ∙ ap (λ (x : Spot). P.coefficient x.row.0 x.column.0) c.spot_at-spot.ensures))

pub returns : goal.returns
returns c = let a = c.args in let e : c.loop-step.step ≡ c.steps-steps.result = omega arith in
    line-all a.rows a.columns (cell (problem a.words.now) a.rows a.columns) a.line (e ∙ c.steps-steps.ensures)
    c.loop-step.invariant
