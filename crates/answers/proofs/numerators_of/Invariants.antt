-- `answers::numerators_of` meets its contract. The loop's invariant: the numerators of the variables passed stand
-- in the array, and 0 elsewhere. Assumes nothing.
use Rattle.std.proofs.Common.{◌≡◌, pos}
use Rattle.whole.specs.Tables.{filled}
use Rattle.rules.specs.Sizes.{most_variables}
use Rattle.answers.specs.Answer.{numerator_in}
use Rattle.answers.proofs.numerators_of.Given as goal

abbrev pub invariant-loop-v : goal.invariant-loop-v
invariant-loop-v l = l.numerators ≡ filled most_variables (pos 0) l.v
    (numerator_in l.entries l.values l.seats l.common l.size.rows l.size.columns)
