-- `sheet::text::put_names` meets its contract. The invariant: the lines of the variables below v are put. The measure
-- is how many are left. Assumes nothing.
use mathlib.Core.List.{List}
use Prim.Native.Nat.{ℕ, ◌-◌, ◌≤◌}
use Rattle.rules.specs.Program.Text.{lines_below}
use Rattle.put.specs.Put.{Put}
use Rattle.rules.specs.Sheet.Text.{named_line}
use Rattle.rules.specs.Sizes.{most_variables}
use Rattle.sheet.specs.Lines.{count_at}
use Rattle.sheet.proofs.text.put_names.Given as goal

-- the line of a variable
abbrev pub entry : List ℕ → List ℕ → ℕ → List ℕ
entry lower upper v = named_line v (count_at lower v) (count_at upper v)

abbrev pub invariant-loop-v : goal.invariant-loop-v
invariant-loop-v l =
    (l.v ≤ most_variables) × Put l.initial.out (lines_below l.v (entry l.lower l.upper)) l.out

abbrev pub decreases-loop-v : goal.decreases-loop-v
decreases-loop-v l = most_variables - l.v
