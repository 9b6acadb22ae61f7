-- `lines::line::put_line`: the name, the number and the newline, one behind the other. Assumes nothing.
use Rattle.std.proofs.Common.{rules}
use mir.Facts.{to_z-of_z}
use Rattle.rules.specs.Program.Text.{ascii, line}
use Rattle.put.proofs.Texts.{texts}
use Rattle.lines.proofs.line.put_line.Goals as goal

pub text-requires : goal.text-requires
unfolding line ascii
text-requires c = search (rules, texts)

pub number-requires : goal.number-requires
unfolding line ascii
number-requires c = rw (to_z-of_z c.ranges.n) (search (rules, texts))

pub byte-requires : goal.byte-requires
unfolding line ascii
byte-requires c = let told = rw (to_z-of_z c.ranges.n) at c.number.ensures in search (rules, texts)

pub returns : goal.returns
unfolding line ascii
returns c = let told = rw (to_z-of_z c.ranges.n) at c.number.ensures in search (rules, texts)
