-- `pivot::border::raised_strip` meets its contract. The invariant: the numbers passed are the definition's, the others
-- 0. Assumes nothing.
use Rattle.std.proofs.Common.{◌≡◌, pos}
use Rattle.whole.specs.Tables.{filled}
use Rattle.rules.specs.Sizes.{most_rows}
use Rattle.pivot.specs.Border.{raised_at}
use Rattle.pivot.proofs.border.raised_strip.Given as goal

abbrev pub invariant-loop-i : goal.invariant-loop-i
invariant-loop-i l =
    (l.i-end ≡ l.strip.count) × (l.numbers ≡ filled most_rows (pos 0) l.i (raised_at l.entries l.strip l.at l.extra))
