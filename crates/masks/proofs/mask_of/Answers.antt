-- `masks::mask_of` meets its contract. The invariant: the mask is that of the variables passed. Assumes nothing.
use Rattle.std.proofs.Common.{◌+◌, ap, ◌∙◌, refl, get_or, arith, add-one}
use Rattle.rules.specs.Runs.Replay.{bit_at, mask_below}
use Rattle.rules.proofs.Runs.Replay.Masks.{mask-small}
use Rattle.tableau.specs.Parts.{nowhere}
use Rattle.masks.proofs.mask_of.Goals as goal

pub loop-v-init : goal.loop-v-init
unfolding mask_below
loop-v-init c = refl

pub with_bit-mask-requires : goal.with_bit-mask-requires
with_bit-mask-requires c =
    (omega arith, rw c.loop-v.invariant (mask-small c.loop-v.v (λ v. (get_or c.args.seats v nowhere).basic)))

pub loop-v-preserved : goal.loop-v-preserved
unfolding mask_below
loop-v-preserved c = c.with_bit-mask.ensures
    ∙ ap (λ m. m + bit_at c.loop-v.v (get_or c.args.seats c.loop-v.v nowhere).basic) c.loop-v.invariant
    ∙ (rw add-one refl)
