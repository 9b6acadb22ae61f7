-- `reading::read_full`: each read goes on where the one before it came to. Assumes nothing but the contract of std's
-- read.
use Rattle.std.proofs.Common.{length, ◌-◌, arith}
use Rattle.std.proofs.lemmas.Grind.{common_steps}
use Rattle.reading.proofs.Filled.{consumed-then, put-more}
use Rattle.reading.proofs.read_full.Goals as goal

pub loop-done-preserved : goal.loop-done-preserved
loop-done-preserved g c =
    let l = c.loop-done in
    let n = c.in_ok-count.count in
    let few = c.in_ok-count.ensures.bound.0 in record {
      within = grind (arith, common_steps);
      content = rw (put-more l.done (length l.bytes - l.done) n l.bytes c.read.new.buf l.invariant.within few)
          (consumed-then _ _ _ _ _ l.invariant.content c.in_ok-count.ensures.bytes.0);
    }
