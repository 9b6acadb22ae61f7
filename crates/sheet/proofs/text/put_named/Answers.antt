-- `sheet::text::put_named`: the variable, and two counts behind their names. Assumes nothing.
use Rattle.std.proofs.Common.{rules}
use Rattle.rules.specs.Program.Text.{ascii}
use Rattle.rules.specs.Sheet.Text.{named_line}
use Rattle.put.proofs.Texts.{texts}
use Rattle.sheet.proofs.text.put_named.Goals as goal

pub digits-requires : goal.digits-requires
unfolding named_line ascii
digits-requires c = search (rules, texts)

pub text-requires : goal.text-requires
unfolding named_line ascii
text-requires c = search (rules, texts)

pub digits-requires-2 : goal.digits-requires-2
unfolding named_line ascii
digits-requires-2 c = search (rules, texts)

pub put_count-requires : goal.put_count-requires
unfolding named_line ascii
put_count-requires c = search (rules, texts)

pub returns : goal.returns
unfolding named_line ascii
returns c = search (rules, texts)
