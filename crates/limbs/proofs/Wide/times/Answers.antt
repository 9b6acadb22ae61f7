-- `limbs::Wide::times` meets its contract: a limb within 2^40 times a limit's number fits. Assumes nothing.
use Rattle.limbs.proofs.Laws.Sizes.{product-kept, same-limbs}
use Rattle.limbs.proofs.Wide.times.Goals as goal

pub returns : goal.returns
returns c = same-limbs (product-kept c.requires.1 c.requires.0.size-a) (product-kept c.requires.1 c.requires.0.size-b)
    (product-kept c.requires.1 c.requires.0.size-c) (product-kept c.requires.1 c.requires.0.size-d)
