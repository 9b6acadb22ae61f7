-- `exchange::limits::put_relation` meets its contract: one of four texts. Assumes nothing.
use Rattle.std.proofs.Common.{rules}
use Rattle.rules.specs.Program.Text.{ascii}
use Rattle.rules.specs.Exchange.Script.{less, more, no_less, no_more}
use Rattle.exchange.proofs.limits.put_relation.Goals as goal

pub text-requires : goal.text-requires
unfolding less more no_less no_more ascii
text-requires c = search rules

pub returns-in-NoLess : goal.returns-in-NoLess
unfolding less more no_less no_more ascii
returns-in-NoLess c = search rules

pub text-requires-in-More : goal.text-requires-in-More
unfolding less more no_less no_more ascii
text-requires-in-More c = search rules

pub returns-in-More : goal.returns-in-More
unfolding less more no_less no_more ascii
returns-in-More c = search rules

pub text-requires-in-NoMore : goal.text-requires-in-NoMore
unfolding less more no_less no_more ascii
text-requires-in-NoMore c = search rules

pub returns-in-NoMore : goal.returns-in-NoMore
unfolding less more no_less no_more ascii
returns-in-NoMore c = search rules

pub text-requires-in-Less : goal.text-requires-in-Less
unfolding less more no_less no_more ascii
text-requires-in-Less c = search rules

pub returns-in-Less : goal.returns-in-Less
unfolding less more no_less no_more ascii
returns-in-Less c = search rules
