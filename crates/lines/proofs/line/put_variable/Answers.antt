-- `lines::line::put_variable`: the variable, and its line. Assumes nothing.
use Rattle.std.proofs.Common.{rules}
use mir.Facts.{to_z-of_z}
use Rattle.rules.specs.Program.Text.{variable_line}
use Rattle.put.proofs.Texts.{texts}
use Rattle.lines.proofs.line.put_variable.Goals as goal

pub digits-requires : goal.digits-requires
unfolding variable_line
digits-requires c = search (rules, texts)

pub put_line-requires : goal.put_line-requires
unfolding variable_line
put_line-requires c = rw (to_z-of_z c.ranges.n) (search (rules, texts))

pub returns : goal.returns
unfolding variable_line
returns c = let told = rw (to_z-of_z c.ranges.n) at c.put_line.ensures in search (rules, texts)
