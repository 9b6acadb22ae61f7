-- `masks::with_bit` meets its contract: one bit above all others. Assumes nothing.
use Rattle.std.proofs.Common.{◌+◌, ap, sym, ◌∙◌}
use Rattle.rules.specs.Runs.Replay.{bit_at}
use Rattle.masks.proofs.Laws.Bits.{or-one}
use Rattle.masks.proofs.with_bit.Goals as goal

pub returns-then-is_in : goal.returns-then-is_in
returns-then-is_in c = let a = c.args in or-one a.mask a.v c.requires.0 c.requires.1
    ∙ ap (λ b. a.mask + bit_at a.v b) (sym c.if-is_in.true)
