-- `exchange::rows::put_terms` meets its contract. The invariant of its loop: the terms of the columns so far are put.
-- Assumes nothing.
use Rattle.rules.specs.Problem.{word}
use Rattle.rules.specs.Program.Text.{lines_below}
use Rattle.rules.specs.Exchange.Script.{term}
use Rattle.put.specs.Put.{Put}
use Rattle.exchange.proofs.rows.put_terms.Given as goal

abbrev pub invariant-loop-column : goal.invariant-loop-column
invariant-loop-column l =
    Put l.initial.out (lines_below l.column (λ j. term (word l.coefficients j) j)) l.out
