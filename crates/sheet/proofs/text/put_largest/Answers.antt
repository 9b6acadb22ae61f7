-- `sheet::text::put_largest`: the largest number and the body, behind their names. Assumes nothing.
use Rattle.std.proofs.Common.{rules}
use Rattle.rules.specs.Program.Text.{ascii}
use Rattle.rules.specs.Sheet.Text.{largest_line}
use Rattle.put.proofs.Texts.{texts}
use Rattle.sheet.proofs.text.put_largest.Goals as goal

pub text-requires : goal.text-requires
unfolding largest_line ascii
text-requires c = search (rules, texts)

pub digits-requires : goal.digits-requires
unfolding largest_line ascii
digits-requires c = search (rules, texts)

pub text-requires-2 : goal.text-requires-2
unfolding largest_line ascii
text-requires-2 c = search (rules, texts)

pub put_reached-requires : goal.put_reached-requires
unfolding largest_line ascii
put_reached-requires c = search (rules, texts)

pub byte-requires : goal.byte-requires
unfolding largest_line ascii
byte-requires c = search (rules, texts)

pub returns : goal.returns
unfolding largest_line ascii
returns c = search (rules, texts)
