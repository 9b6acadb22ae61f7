-- `sheet::text::put_refusals` meets its contract. The invariant: the lines of the refusals up to j are put. The
-- measure is how many are left. Assumes nothing.
use mathlib.Core.List.{List}
use Prim.Native.Nat.{ℕ, ◌+◌, ◌-◌, ◌≤◌}
use Rattle.rules.specs.Program.Text.{lines_below}
use Rattle.put.specs.Put.{Put}
use Rattle.rules.specs.Sheet.Text.{refused_line}
use Rattle.sheet.specs.Lines.{count_at}
use Rattle.sheet.proofs.text.put_refusals.Given as goal

-- the line of refusal j + 1
abbrev pub entry : List ℕ → ℕ → List ℕ
entry counts j = refused_line (j + 1) (count_at counts (j + 1))

abbrev pub invariant-loop-j : goal.invariant-loop-j
invariant-loop-j l = (l.j ≤ 6) × Put l.initial.out (lines_below l.j (entry l.refused)) l.out

abbrev pub decreases-loop-j : goal.decreases-loop-j
decreases-loop-j l = 6 - l.j
