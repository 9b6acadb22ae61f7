-- `pivot::column::Cells::over` meets its contract. The invariant: the cells passed are written, the others are as they
-- were, and while none of the quotients is wrong each of them is right. Assumes nothing.
use Rattle.std.proofs.Common.{◌≡◌, true, ℕ, ◌+◌, ◌<◌, pos, get_or}
use Rattle.pivot.specs.Trials.{Spared, Quotient, difference_in}
use Rattle.pivot.proofs.column.Cells.over.Given as goal

abbrev pub invariant-loop-i : goal.invariant-loop-i
invariant-loop-i l =
    Spared l.self.column.start l.i l.initial.out l.out
    × (l.right ≡ true → (u : ℕ) → u < l.i → Quotient l.divider.by
    (difference_in l.self.entries.now l.self.besides.now l.self.column u)
    (get_or l.out (l.self.column.start + u) (pos 0)))
