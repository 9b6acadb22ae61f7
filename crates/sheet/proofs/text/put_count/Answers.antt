-- `sheet::text::put_count`: the name, the digits and the newline. Assumes nothing.
use Rattle.std.proofs.Common.{rules}
use Rattle.rules.specs.Program.Text.{ascii, decimal, line}
use Rattle.put.proofs.Texts.{texts}
use Rattle.sheet.proofs.text.put_count.Goals as goal

pub text-requires : goal.text-requires
unfolding line decimal ascii
text-requires c = search (rules, texts)

pub digits-requires : goal.digits-requires
unfolding line decimal ascii
digits-requires c = search (rules, texts)

pub byte-requires : goal.byte-requires
unfolding line decimal ascii
byte-requires c = search (rules, texts)

pub returns : goal.returns
unfolding line decimal ascii
returns c = search (rules, texts)
