-- A session can be gone on with after each operation.
use Rattle.session.specs.Sessions.{SessionStanding}
use Rattle.vectors.proofs.scripted.run.Given as goal

abbrev pub invariant-loop : goal.invariant-loop
invariant-loop g l = SessionStanding l.session
