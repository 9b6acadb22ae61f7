-- `tokens::start` meets its contract. The loop's invariant: from the next byte on, in a comment or not, the gap ends
-- where that from `at` on does. Assumes nothing.
use Rattle.std.proofs.Common.{◌≡◌, ◌+◌, drop, false}
use Rattle.tokens.specs.Gaps.{gap_length}
use Rattle.tokens.proofs.start.Given as goal

abbrev pub invariant-loop-i : goal.invariant-loop-i
invariant-loop-i l =
    gap_length false (drop l.at l.text) ≡ l.i + gap_length l.noted (drop l.i l.byte-items)
