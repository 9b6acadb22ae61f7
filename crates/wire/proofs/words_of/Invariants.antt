-- `wire::words_of` meets its contract. The invariant of its loop: the first i words are read, and the later ones are
-- as they were.
use Rattle.std.proofs.Common.{◌≡◌, ◌*◌, ◌++◌, drop}
use Rattle.whole.specs.Tables.{table}
use Rattle.rules.specs.Program.Bytes.{word_at}
use Rattle.wire.proofs.words_of.Given as goal

abbrev pub invariant-loop-i : goal.invariant-loop-i
invariant-loop-i l = l.word-items ≡ table l.i (λ k. word_at l.bytes (4 * k)) ++ drop l.i l.initial.word-items
