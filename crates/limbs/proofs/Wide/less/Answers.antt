-- `limbs::Wide::less` meets its contract: the difference of limbs within 2^60 fits. Assumes nothing.
use Rattle.std.proofs.Common.{arith, rules}
use Rattle.std.proofs.lemmas.Int.{ints}
use Rattle.limbs.proofs.Laws.Sizes.{difference-kept, same-limbs}
use Rattle.limbs.proofs.Wide.less.Goals as goal

pub with-requires : goal.with-requires
with-requires c = (
  λ _ _ _ _. omega (arith, ints),
  λ _ _ _ _. omega (arith, ints),
  λ _ _ _ _. omega (arith, ints),
  λ _ _ _ _. omega (arith, ints),
)

pub returns : goal.returns
returns c = same-limbs
    (difference-kept c.requires.0.size-a c.requires.1.size-a (search rules))
    (difference-kept c.requires.0.size-b c.requires.1.size-b (search rules))
    (difference-kept c.requires.0.size-c c.requires.1.size-c (search rules))
    (difference-kept c.requires.0.size-d c.requires.1.size-d (search rules))
