-- `tokens::stop` meets its contract. A parenthesis stops behind itself. The loop's invariant: from the next byte on the
-- run ends where the token does. Assumes nothing.
use Rattle.std.proofs.Common.{◌≡◌, ◌+◌, drop}
use Rattle.tokens.specs.Gaps.{run_length}
use Rattle.tokens.proofs.stop.Given as goal

abbrev pub invariant-loop-i : goal.invariant-loop-i
invariant-loop-i l = run_length (drop l.behind l.text) ≡ l.i + run_length (drop l.i l.byte-items)
