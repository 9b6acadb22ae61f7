-- `bundle::take_lengths` meets its contract. The invariant of its loop: the first i lengths are there, and the later
-- words are as they were.
use Rattle.std.proofs.Common.{◌≡◌, ◌++◌, drop}
use Rattle.whole.specs.Tables.{table}
use Rattle.rules.specs.Program.Bytes.{words_from}
use Rattle.rules.specs.Bundle.File.{pair_length}
use Rattle.bundle.proofs.take_lengths.Given as goal

abbrev pub invariant-loop-i : goal.invariant-loop-i
invariant-loop-i l = l.length-items ≡ table l.i (pair_length (words_from l.file)) ++ drop l.i l.initial.length-items
