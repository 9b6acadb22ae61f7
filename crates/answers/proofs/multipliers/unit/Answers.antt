-- `answers::multipliers::unit` meets its contract. Assumes nothing.
use Rattle.std.proofs.Common.{refl}
use Rattle.answers.specs.Multipliers.{unit_at}
use Rattle.answers.proofs.multipliers.unit.Goals as goal

pub returns : goal.returns
unfolding unit_at
returns c = refl
