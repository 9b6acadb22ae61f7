-- `bundle::writer::total_of` meets its contract. The invariant of its loop: `total` is the sum of the lengths before.
use Rattle.std.proofs.Common.{◌≡◌, ◌*◌, ◌≤◌}
use Rattle.rules.specs.Problem.{word}
use Rattle.rules.proofs.Bundle.Places.{count_before}
use Rattle.bundle.proofs.writer.total_of.Given as goal

abbrev pub invariant-loop-length : goal.invariant-loop-length
invariant-loop-length l =
    (l.total ≡ count_before l.length-index (word l.lengths)) × (l.total ≤ l.length-index * 2147483648)
