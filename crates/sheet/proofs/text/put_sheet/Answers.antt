-- `sheet::text::put_sheet`: the lines of the totals, one kind behind the other. Assumes nothing.
use Rattle.std.proofs.Common.{rules}
use Rattle.rules.specs.Program.Text.{ascii}
use Rattle.sheet.specs.Lines.{sheet_of}
use Rattle.put.proofs.Texts.{texts}
use Rattle.sheet.proofs.text.put_sheet.Goals as goal

pub put_counts-requires : goal.put_counts-requires
unfolding sheet_of ascii
put_counts-requires c = search (rules, texts)

pub put_refusals-requires : goal.put_refusals-requires
unfolding sheet_of ascii
put_refusals-requires c = search (rules, texts)

pub put_count-requires : goal.put_count-requires
unfolding sheet_of ascii
put_count-requires c = search (rules, texts)

pub put_largest-requires : goal.put_largest-requires
unfolding sheet_of ascii
put_largest-requires c = search (rules, texts)

pub put_names-requires : goal.put_names-requires
unfolding sheet_of ascii
put_names-requires c = search (rules, texts)

pub returns : goal.returns
unfolding sheet_of ascii
returns c = search (rules, texts)
