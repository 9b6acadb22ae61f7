-- `sheet::audit::totals` meets its contract. The invariant of its loop: the totals are those of the bodies passed. The
-- measure is how many bodies are left. Assumes nothing.
use mathlib.Core.List.{List}
use mathlib.Core.Path.{◌≡◌}
use Prim.Native.Nat.{ℕ, ◌-◌, ◌≤◌}
use lib.IntN.{ℤ}
use Rattle.rules.specs.Bundle.File.{bodies_in, edition_in, rows_in}
use Rattle.rules.specs.Sheet.Totals.{body_at}
use Rattle.tally.specs.Sums.{totals_of}
use Rattle.sheet.proofs.audit.totals.Given as goal

abbrev pub rows_for : List ℤ → ℕ
rows_for words = rows_in (edition_in words)

abbrev pub bodies : List ℤ → ℕ → List ℤ
bodies words = body_at (bodies_in words)

abbrev pub invariant-loop-i : goal.invariant-loop-i
invariant-loop-i l = (l.i ≤ l.bodies) × (l.sums ≡ totals_of (rows_for l.words) l.i (bodies l.words))

abbrev pub decreases-loop-i : goal.decreases-loop-i
decreases-loop-i l = l.bodies - l.i
