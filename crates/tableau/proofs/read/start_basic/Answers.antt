-- `tableau::read::start_basic` meets its contract. The invariant: the places passed hold the definition's variables.
-- Assumes nothing.
use Rattle.std.proofs.Common.{◌≡◌, ◌+◌, ℕ, ap, ◌∙◌, refl, arith}
use Rattle.whole.specs.Tables.{filled}
use Rattle.whole.proofs.Lists.Prefix.{filled-start, filled_more, filled-all}
use Rattle.rules.specs.Sizes.{most_rows}
use Rattle.tableau.specs.Parts.{variable}
use Rattle.tableau.specs.declared.Variable.{Variable}
use Rattle.tableau.proofs.read.start_basic.Goals as goal

-- the variable of a row
abbrev row-variable : ℕ → ℕ → Variable
row-variable n i = variable (n + i)

pub loop-i-init : goal.loop-i-init
loop-i-init c = filled-start most_rows (variable 0) (row-variable c.args.columns)

pub loop-i-preserved : goal.loop-i-preserved
loop-i-preserved c =
    filled_more most_rows (variable 0) (row-variable c.args.columns) c.loop-i.i (omega arith) c.loop-i.invariant refl

pub returns : goal.returns
returns c = let f = row-variable c.args.columns in let e : c.loop-i.i ≡ most_rows = omega arith in
    c.loop-i.invariant ∙ ap (λ k. filled most_rows (variable 0) k f) e ∙ filled-all most_rows (variable 0) f
