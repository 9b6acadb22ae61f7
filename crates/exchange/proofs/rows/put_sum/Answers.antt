-- `exchange::rows::put_sum` meets its contract: the terms alone where there is one, else between a fixed text and a
-- parenthesis. Assumes nothing.
use Rattle.std.proofs.Common.{arith, length, length-append}
use Rattle.rules.specs.Program.Text.{ascii}
use Rattle.rules.specs.Exchange.Script.{close, open_sum}
use Rattle.put.proofs.Texts.{put_then}
use Rattle.exchange.specs.Pieces.{terms_piece}
use Rattle.exchange.proofs.Laws.Pieces.{sum-alone, sum-joined}
use Rattle.exchange.proofs.rows.put_sum.Goals as goal

pub put_terms-requires : goal.put_terms-requires
put_terms-requires c = let cs = c.args.coefficients.now in
    rw (sum-alone (length cs) (terms_piece cs) c.if-coefficients-eq1.true) at c.requires

pub returns-then-coefficients-eq1 : goal.returns-then-coefficients-eq1
returns-then-coefficients-eq1 c = let cs = c.args.coefficients.now in
    rw (sum-alone (length cs) (terms_piece cs) c.if-coefficients-eq1.true) c.put_terms.ensures

pub text-requires : goal.text-requires
unfolding open_sum close ascii
text-requires c = let cs = c.args.coefficients.now in
    let room = rw (sum-joined (length cs) (terms_piece cs) c.if-coefficients-eq1.false) at c.requires in
    grind (arith, length-append, room)

pub put_terms-requires-2 : goal.put_terms-requires-2
unfolding open_sum close ascii
put_terms-requires-2 c = let cs = c.args.coefficients.now in
    let room = rw (sum-joined (length cs) (terms_piece cs) c.if-coefficients-eq1.false) at c.requires in
    grind (arith, length-append, room)

pub byte-requires : goal.byte-requires
unfolding open_sum close ascii
byte-requires c = let cs = c.args.coefficients.now in
    let room = rw (sum-joined (length cs) (terms_piece cs) c.if-coefficients-eq1.false) at c.requires in
    grind (arith, length-append, room)

pub returns : goal.returns
unfolding open_sum close ascii
returns c = let cs = c.args.coefficients.now in
    rw (sum-joined (length cs) (terms_piece cs) c.if-coefficients-eq1.false)
    (put_then (put_then c.text.ensures c.put_terms-2.ensures) c.byte.ensures)
