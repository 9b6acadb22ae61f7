-- `tableau::read::start_seats` meets its contract. The invariant: the variables passed have the definition's seats.
-- Assumes nothing.
use Rattle.std.proofs.Common.{◌≡◌}
use Rattle.tableau.specs.Start.{start_seats}
use Rattle.tableau.proofs.read.start_seats.Given as goal

abbrev pub invariant-loop-v : goal.invariant-loop-v
invariant-loop-v l = l.seats ≡ start_seats l.columns l.v
