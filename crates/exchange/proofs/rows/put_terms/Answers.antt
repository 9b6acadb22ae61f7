-- `exchange::rows::put_terms` meets its contract: one term more. Assumes nothing.
use Rattle.std.proofs.Common.{rules, length, w32}
use mir.Facts.{to_z-of_z}
use mir.Val.{SFits}
use Rattle.rules.specs.Problem.{word}
use Rattle.rules.specs.Exchange.Script.{term}
use Rattle.put.proofs.Texts.{put-lines-start, put-lines-room, put-lines-more}
use Rattle.exchange.proofs.rows.put_terms.Goals as goal

pub loop-column-init : goal.loop-column-init
loop-column-init c = put-lines-start (λ j. term (word c.args.coefficients.now j) j) c.args.out.now

pub put_term-requires : goal.put_term-requires
put_term-requires c =
    let cs = c.args.coefficients.now in
    let fit : SFits w32 (word cs c.loop-column.column) = search rules in
    rw (to_z-of_z fit)
    (put-lines-room (λ j. term (word cs j) j) (length cs) c.loop-column.column c.requires c.loop-column.invariant
    c.loop-column-test.true)

pub loop-column-preserved : goal.loop-column-preserved
loop-column-preserved c =
    let cs = c.args.coefficients.now in
    let fit : SFits w32 (word cs c.loop-column.column) = search rules in
    put-lines-more (λ j. term (word cs j) j) c.loop-column.column c.loop-column.invariant
    (rw (to_z-of_z fit) at c.put_term.ensures)
