-- `exchange::names::put_name` meets its contract: a letter, and then digits. Assumes nothing.
use Rattle.std.proofs.Common.{rules}
use Rattle.rules.specs.Program.Text.{ascii}
use Rattle.rules.specs.Exchange.Script.{column_name, row_name}
use Rattle.put.proofs.Texts.{texts}
use Rattle.exchange.proofs.names.put_name.Goals as goal

pub byte-requires : goal.byte-requires
unfolding column_name row_name ascii
byte-requires c = search (rules, texts)

pub digits-requires : goal.digits-requires
unfolding column_name row_name ascii
digits-requires c = search (rules, texts)

pub byte-requires-in-Row : goal.byte-requires-in-Row
unfolding column_name row_name ascii
byte-requires-in-Row c = search (rules, texts)

pub digits-requires-in-Row : goal.digits-requires-in-Row
unfolding column_name row_name ascii
digits-requires-in-Row c = search (rules, texts)

pub returns-in-Column : goal.returns-in-Column
unfolding column_name row_name ascii
returns-in-Column c = search (rules, texts)

pub returns-in-Row : goal.returns-in-Row
unfolding column_name row_name ascii
returns-in-Row c = search (rules, texts)
