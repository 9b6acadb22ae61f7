-- `sheet::text::put_counts`: four lines, one behind the other. Assumes nothing.
use Rattle.std.proofs.Common.{rules}
use Rattle.rules.specs.Program.Text.{ascii}
use Rattle.sheet.specs.Lines.{count_lines}
use Rattle.put.proofs.Texts.{texts}
use Rattle.sheet.proofs.text.put_counts.Goals as goal

pub put_count-requires : goal.put_count-requires
unfolding count_lines ascii
put_count-requires c = search (rules, texts)

pub put_count-requires-2 : goal.put_count-requires-2
unfolding count_lines ascii
put_count-requires-2 c = search (rules, texts)

pub put_count-requires-3 : goal.put_count-requires-3
unfolding count_lines ascii
put_count-requires-3 c = search (rules, texts)

pub put_count-requires-4 : goal.put_count-requires-4
unfolding count_lines ascii
put_count-requires-4 c = search (rules, texts)

pub returns : goal.returns
unfolding count_lines ascii
returns c = search (rules, texts)
