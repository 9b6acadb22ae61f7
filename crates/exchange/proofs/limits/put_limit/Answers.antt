-- `exchange::limits::put_limit` meets its contract: relation, name and number between two fixed texts, or nothing.
-- Assumes nothing.
use Rattle.std.proofs.Common.{rules, arith, length-append, w32}
use mir.Facts.{to_z-of_z}
use mir.Val.{SFits}
use Rattle.rules.specs.Program.Text.{ascii}
use Rattle.rules.specs.Exchange.Script.{assert_limit, end_assert, space}
use Rattle.put.proofs.Texts.{put_then}
use Rattle.exchange.proofs.limits.put_limit.Goals as goal

pub text-requires : goal.text-requires
unfolding assert_limit end_assert space ascii
text-requires c = grind (arith, length-append)

pub put_relation-requires : goal.put_relation-requires
unfolding assert_limit end_assert space ascii
put_relation-requires c = grind (arith, length-append)

pub byte-requires : goal.byte-requires
unfolding assert_limit end_assert space ascii
byte-requires c = grind (arith, length-append)

pub put_name-requires : goal.put_name-requires
unfolding assert_limit end_assert space ascii
put_name-requires c = grind (arith, length-append)

pub byte-requires-2 : goal.byte-requires-2
unfolding assert_limit end_assert space ascii
byte-requires-2 c = grind (arith, length-append)

pub put_value-requires : goal.put_value-requires
unfolding assert_limit end_assert space ascii
put_value-requires c = grind (arith, length-append)

pub text-requires-2 : goal.text-requires-2
unfolding assert_limit end_assert space ascii
text-requires-2 c = grind (arith, length-append)

pub returns : goal.returns
unfolding assert_limit end_assert space ascii
returns c =
    let fit : SFits w32 c.in-Some.limit.number = search rules in
    let value = rw (to_z-of_z fit) at c.put_value.ensures in
    let spaced = put_then (put_then c.text.ensures c.put_relation.ensures) c.byte.ensures in
    let named = put_then (put_then spaced c.put_name.ensures) c.byte-2.ensures in
    rw c.in-Some.is (put_then (put_then named value) c.text-2.ensures)
