-- `tableau::read::start_values` meets its contract. The invariant: the columns passed have the definition's values, the
-- others 0. Assumes nothing.
use Rattle.std.proofs.Common.{◌≡◌}
use Rattle.tableau.specs.Start.{starts_for}
use Rattle.tableau.proofs.read.start_values.Given as goal

abbrev pub invariant-loop-j : goal.invariant-loop-j
invariant-loop-j l = record {
  values : l.values ≡ (starts_for l.limits l.j).values;
  smalls : l.smalls ≡ (starts_for l.limits l.j).smalls;
}
