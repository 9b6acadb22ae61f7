-- `answers::multipliers::multipliers_of` meets its contract. The loop's invariant: the multipliers of the variables
-- passed stand in the two arrays, and 0 elsewhere. Assumes nothing.
use Rattle.std.proofs.Common.{◌≡◌, pos, neg_ℤ}
use Rattle.whole.specs.Tables.{filled}
use Rattle.rules.specs.Sizes.{most_variables}
use Rattle.rules.specs.Step.{positive}
use Rattle.answers.specs.Multipliers.{pull_in}
use Rattle.answers.proofs.multipliers.multipliers_of.Given as goal

abbrev pub invariant-loop-v : goal.invariant-loop-v
invariant-loop-v l = record {
  lower : l.lower ≡ filled most_variables (pos 0) l.v
      (λ v. positive (neg_ℤ (pull_in l.entries l.seats l.size.rows l.size.columns l.common l.blocked v)));
  upper : l.upper ≡ filled most_variables (pos 0) l.v
      (λ v. positive (pull_in l.entries l.seats l.size.rows l.size.columns l.common l.blocked v));
}
