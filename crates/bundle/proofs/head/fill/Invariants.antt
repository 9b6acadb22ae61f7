-- `bundle::head::fill` meets its contract. The invariant of its loop: edition, count and the first i pairs are there,
-- and `at` is the place behind their bodies.
use Rattle.std.proofs.Common.{◌≡◌, ◌+◌, ◌*◌, length}
use Rattle.rules.specs.Problem.{word}
use Rattle.rules.specs.Bundle.File.{head_size}
use Rattle.rules.proofs.Bundle.Places.{count_before}
use Rattle.bundle.proofs.Heads.{head_over}
use Rattle.bundle.proofs.head.fill.Given as goal

abbrev pub invariant-loop-i : goal.invariant-loop-i
invariant-loop-i l = record {
  at-is : l.at ≡ head_size (length l.lengths) + count_before l.i (word l.lengths);
  front-is : l.front ≡ head_over l.edition l.lengths (2 + 2 * l.i) l.initial.front;
}
