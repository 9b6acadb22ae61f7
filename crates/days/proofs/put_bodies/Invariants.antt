-- `days::put_bodies` meets its contract. The invariant of its loop: the texts of the first i bodies are put. The
-- measure is the number of bodies that are left. Assumes nothing.
use mathlib.Core.List.{List}
use Prim.Native.Nat.{ℕ, ◌-◌, ◌*◌, ◌≤◌}
use lib.IntN.{ℤ}
use Rattle.rules.specs.Sizes.{most_text}
use Rattle.rules.specs.Program.Text.{lines_below}
use Rattle.rules.specs.Bundle.File.{body_in, edition_in}
use Rattle.rules.specs.Bundle.Day.{body_text}
use Rattle.put.specs.Put.{PutShort}
use Rattle.days.proofs.put_bodies.Given as goal

-- the text of body i
abbrev pub text_of : List ℤ → ℕ → List ℕ
text_of words i = body_text (edition_in words) (body_in words i)

abbrev pub invariant-loop-i : goal.invariant-loop-i
invariant-loop-i l =
    (l.i ≤ l.bodies) × PutShort (most_text * l.i) l.initial.out (lines_below l.i (text_of l.words)) l.out

abbrev pub decreases-loop-i : goal.decreases-loop-i
decreases-loop-i l = l.bodies - l.i
