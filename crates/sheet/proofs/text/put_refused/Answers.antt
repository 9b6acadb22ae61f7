-- `sheet::text::put_refused`: the name, the number, a space and the count. Assumes nothing.
use Rattle.std.proofs.Common.{rules}
use Rattle.rules.specs.Program.Text.{ascii}
use Rattle.rules.specs.Sheet.Text.{refused_line}
use Rattle.put.proofs.Texts.{texts}
use Rattle.sheet.proofs.text.put_refused.Goals as goal

pub text-requires : goal.text-requires
unfolding refused_line ascii
text-requires c = search (rules, texts)

pub digits-requires : goal.digits-requires
unfolding refused_line ascii
digits-requires c = search (rules, texts)

pub put_count-requires : goal.put_count-requires
unfolding refused_line ascii
put_count-requires c = search (rules, texts)

pub returns : goal.returns
unfolding refused_line ascii
returns c = search (rules, texts)
