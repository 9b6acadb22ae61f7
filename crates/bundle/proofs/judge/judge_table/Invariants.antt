-- `bundle::judge::judge_table` meets its contract. The invariant of its loop: the first i pairs are where the rule
-- puts them, and `at` is the place behind their bodies.
use Rattle.std.proofs.Common.{◌≡◌, ◌+◌, ◌*◌, ◌≤◌}
use Rattle.rules.specs.Program.Bytes.{words_from}
use Rattle.rules.specs.Sizes.{most_bodies}
use Rattle.rules.specs.Bundle.File.{head_size}
use Rattle.bundle.proofs.Pairs.{PairsPass, behind}
use Rattle.bundle.proofs.judge.judge_table.Given as goal

abbrev pub invariant-loop-i : goal.invariant-loop-i
invariant-loop-i l = record {
  behind_is : l.at ≡ behind (words_from l.file) l.i;
  few : l.at ≤ head_size most_bodies + l.i * 2147483648;
  passed : PairsPass (words_from l.file) l.i;
}
