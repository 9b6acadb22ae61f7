-- `exchange::rows::put_row` meets its contract: the row's name and its sum between two fixed texts. Assumes nothing.
use Rattle.std.proofs.Common.{arith, length-append}
use Rattle.rules.specs.Program.Text.{ascii}
use Rattle.rules.specs.Exchange.Script.{assert_row, end_assert}
use Rattle.put.proofs.Texts.{put_then}
use Rattle.exchange.proofs.rows.put_row.Goals as goal

pub text-requires : goal.text-requires
unfolding assert_row end_assert ascii
text-requires c = grind (arith, length-append)

pub put_name-requires : goal.put_name-requires
unfolding assert_row end_assert ascii
put_name-requires c = grind (arith, length-append)

pub put_sum-requires : goal.put_sum-requires
unfolding assert_row end_assert ascii
put_sum-requires c = grind (arith, length-append)

pub text-requires-2 : goal.text-requires-2
unfolding assert_row end_assert ascii
text-requires-2 c = grind (arith, length-append)

pub returns : goal.returns
unfolding assert_row end_assert ascii
returns c = put_then (put_then (put_then c.text.ensures c.put_name.ensures) c.put_sum.ensures) c.text-2.ensures
