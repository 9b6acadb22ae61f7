-- `lines::line::put_numerator`: the variable's digits, a space and the number. Assumes nothing.
use Rattle.std.proofs.Common.{rules}
use mir.Facts.{to_z-of_z}
use Rattle.rules.specs.Program.Text.{ascii}
use Rattle.put.proofs.Texts.{texts}
use Rattle.lines.proofs.line.put_numerator.Goals as goal

pub byte-requires : goal.byte-requires
unfolding ascii
byte-requires c = search (rules, texts)

pub number-requires : goal.number-requires
unfolding ascii
number-requires c = rw (to_z-of_z c.ranges.n) (search (rules, texts))

pub returns : goal.returns
unfolding ascii
returns c = let told = rw (to_z-of_z c.ranges.n) at c.number.ensures in search (rules, texts)
