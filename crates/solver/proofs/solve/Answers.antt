-- `solver::solve` meets its contract: it asks within the most rows. Assumes nothing.
use borrow.Author.Rules.{rules}
use Rattle.rules.specs.Refusal.{refusal}
use Rattle.solver.proofs.solve.Goals as goal

pub returns : goal.returns
unfolding refusal
returns c = search rules
