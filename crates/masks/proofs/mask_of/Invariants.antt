-- `masks::mask_of` meets its contract. The invariant: the mask is that of the variables passed. Assumes nothing.
use Rattle.std.proofs.Common.{◌≡◌}
use Rattle.masks.specs.Masks.{seats_mask}
use Rattle.masks.proofs.mask_of.Given as goal

abbrev pub invariant-loop-v : goal.invariant-loop-v
invariant-loop-v l = l.mask ≡ seats_mask l.seats l.v
