-- `exchange::rows::put_term` meets its contract: a number and a name between fixed texts. Assumes nothing.
use Rattle.std.proofs.Common.{arith, length-append}
use mir.Facts.{to_z-of_z}
use Rattle.rules.specs.Program.Text.{ascii}
use Rattle.rules.specs.Exchange.Script.{close, open_term, space, term}
use Rattle.put.proofs.Texts.{put_then}
use Rattle.exchange.proofs.rows.put_term.Goals as goal

pub text-requires : goal.text-requires
unfolding term open_term space close ascii
text-requires c = grind (arith, length-append)

pub put_value-requires : goal.put_value-requires
unfolding term open_term space close ascii
put_value-requires c = grind (arith, length-append)

pub byte-requires : goal.byte-requires
unfolding term open_term space close ascii
byte-requires c = grind (arith, length-append)

pub put_name-requires : goal.put_name-requires
unfolding term open_term space close ascii
put_name-requires c = grind (arith, length-append)

pub byte-requires-2 : goal.byte-requires-2
unfolding term open_term space close ascii
byte-requires-2 c = grind (arith, length-append)

pub returns : goal.returns
unfolding term open_term space close ascii
returns c =
    let value = rw (to_z-of_z c.ranges.coefficient) at c.put_value.ensures in
    let spaced = put_then (put_then c.text.ensures value) c.byte.ensures in
    put_then (put_then spaced c.put_name.ensures) c.byte-2.ensures
