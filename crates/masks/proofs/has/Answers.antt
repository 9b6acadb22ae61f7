-- `masks::has` meets its contract: a bit of the mask, or none. Assumes nothing.
use Rattle.std.proofs.Common.{refl, ◌∙◌, arith}
use borrow.Author.Tests.{le-ltb}
use Rattle.rules.specs.Runs.Replay.{bit_in}
use Rattle.masks.proofs.Laws.Bits.{no-bit}
use Rattle.masks.proofs.has.Goals as goal

pub returns-then-v-lt-BITS : goal.returns-then-v-lt-BITS
unfolding bit_in
returns-then-v-lt-BITS c = refl

pub returns-else-v-lt-BITS : goal.returns-else-v-lt-BITS
returns-else-v-lt-BITS c = let a = c.args in
    le-ltb a.v 32 c.if-v-lt-BITS.false ∙ no-bit a.mask a.v (omega arith) c.if-v-lt-BITS.false
