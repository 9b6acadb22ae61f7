-- `pivot::settle::Trials::over` meets its contract. The invariant: the columns passed are written with right quotients,
-- the others are as they were. Assumes nothing.
use Rattle.std.proofs.Common.{ℕ, ◌<◌, pos, get_or}
use Rattle.layout.specs.Layout.{line_at}
use Rattle.pivot.specs.Border.{difference_at}
use Rattle.pivot.specs.Trials.{Spared, Quotient}
use Rattle.pivot.proofs.settle.Trials.over.Given as goal

abbrev pub invariant-loop-j : goal.invariant-loop-j
invariant-loop-j l =
    Spared 0 (line_at l.self.border.now.rows l.columns l.j) l.initial.out l.out
    × ((k : ℕ) → k < line_at l.self.border.now.rows l.columns l.j →
    Quotient l.by (difference_at l.self.entries.now l.self.border.now k) (get_or l.out k (pos 0)))
