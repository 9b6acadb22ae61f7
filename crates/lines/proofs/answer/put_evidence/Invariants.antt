-- `lines::answer::put_evidence` meets its contract. The invariant of its loop: the lines of the variables below v are
-- put. The measure is the number of variables that are left. Assumes nothing.
use Prim.Native.Nat.{◌-◌, ◌*◌, ◌≤◌}
use Rattle.rules.specs.Sizes.{most_multiplier_lines}
use Rattle.rules.specs.Program.Text.{lines_below, multiplier_lines}
use Rattle.put.specs.Put.{PutShort}
use Rattle.lines.proofs.answer.put_evidence.Given as goal

abbrev pub invariant-loop-v : goal.invariant-loop-v
invariant-loop-v l =
    (l.v ≤ l.variables)
    × PutShort (most_multiplier_lines * l.v) l.initial.out
    (lines_below l.v (multiplier_lines l.answer l.variables)) l.out

abbrev pub decreases-loop-v : goal.decreases-loop-v
decreases-loop-v l = l.variables - l.v
