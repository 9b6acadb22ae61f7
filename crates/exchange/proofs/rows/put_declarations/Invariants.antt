-- `exchange::rows::put_declarations` meets its contract. The invariant of its loop: the variables so far are declared.
-- Assumes nothing.
use Rattle.rules.specs.Program.Text.{lines_below}
use Rattle.rules.specs.Exchange.Script.{declaration}
use Rattle.put.specs.Put.{Put}
use Rattle.exchange.proofs.rows.put_declarations.Given as goal

abbrev pub invariant-loop-variable : goal.invariant-loop-variable
invariant-loop-variable l = Put l.initial.out (lines_below l.variable (declaration l.columns)) l.out
