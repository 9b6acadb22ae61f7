-- `timecheck::cycle::Cycle::word_sum` meets its contract. The invariant: the sum is that of the rows passed, each word
-- within the largest length. Assumes nothing.
use Rattle.std.proofs.Common.{◌≡◌}
use Rattle.timecheck.specs.Walk.{word_sum}
use Rattle.timecheck.proofs.cycle.Cycle.word_sum.Given as goal

abbrev pub invariant-loop-k : goal.invariant-loop-k
invariant-loop-k l = l.sum ≡ word_sum l.self.rows.now.words.now l.self.answer.now l.at l.k
