-- `exchange::rows::put_declaration` meets its contract: a name between two fixed texts. Assumes nothing.
use Rattle.std.proofs.Common.{◌∙◌, ap, arith, length-append}
use Rattle.rules.specs.Program.Text.{ascii}
use Rattle.rules.specs.Exchange.Script.{declaration, declare_const, of_real}
use Rattle.put.proofs.Texts.{put_then}
use Rattle.exchange.specs.Pieces.{name_text}
use Rattle.exchange.proofs.Laws.Pieces.{named_as}
use Rattle.exchange.proofs.rows.put_declaration.Goals as goal

pub text-requires : goal.text-requires
unfolding declaration declare_const of_real ascii
text-requires c = grind (arith, length-append, named_as)

pub put_name-requires : goal.put_name-requires
unfolding declaration declare_const of_real ascii
put_name-requires c = grind (arith, length-append, named_as)

pub text-requires-2 : goal.text-requires-2
unfolding declaration declare_const of_real ascii
text-requires-2 c = grind (arith, length-append, named_as)

pub returns : goal.returns
unfolding declaration declare_const of_real ascii
returns c =
    let named = ap name_text c.of-name.ensures ∙ named_as c.args.columns c.args.variable in
    put_then (put_then c.text.ensures (rw named at c.put_name.ensures)) c.text-2.ensures
