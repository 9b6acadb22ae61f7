-- `tableau::Tableau::start_entries` meets its contract. The invariant: the lines passed are the definition's, the other
-- cells 0. Assumes nothing.
use Rattle.std.proofs.Common.{◌≡◌, ◌∙◌, ℕ, ◌<◌, ℤ, ap₂, arith}
use Rattle.rules.specs.Limit.{Limit}
use Rattle.rules.specs.Problem.{Problem, problem}
use Rattle.layout.specs.Layout.{row_at, column_at, lines, live}
use Rattle.layout.proofs.Laws.Lines.{lines-all, lines_start}
use Rattle.tableau.specs.Start.{start_up_to}
use Rattle.tableau.proofs.Tableau.start_entries.Goals as goal

-- the number of a cell
abbrev cell : Problem Limit → ℕ → ℕ → ℕ → ℤ
cell P m n k = P.coefficient (row_at m n k) (column_at m n k)

pub loop-line-init : goal.loop-line-init
loop-line-init c = let a = c.args in
    lines_start a.rows a.columns (cell (problem a.words.now) a.rows a.columns)

pub start_line-requires : goal.start_line-requires
start_line-requires c =
    let h : c.loop-line.line < lines c.args.rows c.args.columns = rw (← c.lines-lines.ensures) c.loop-line-test.true in
    record { framed = c.requires; line_bound = h; entries_value = c.loop-line.invariant }

pub loop-line-preserved : goal.loop-line-preserved
loop-line-preserved c = c.start_line.ensures

pub returns : goal.returns
unfolding problem
returns c = let a = c.args in let P = problem a.words.now in
    let e : c.loop-line.line ≡ c.lines-lines.result = omega arith in
    lines-all a.rows a.columns (cell P a.rows a.columns) (e ∙ c.lines-lines.ensures) c.loop-line.invariant
    ∙ ap₂ (λ m n. start_up_to P m n (live m n)) c.requires.rows_are c.requires.columns-are
