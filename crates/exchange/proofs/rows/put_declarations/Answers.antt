-- `exchange::rows::put_declarations` meets its contract: one declaration more. Assumes nothing.
use Rattle.std.proofs.Common.{arith}
use Rattle.rules.specs.Exchange.Script.{declaration}
use Rattle.put.proofs.Texts.{put-lines-start, put-lines-room, put-lines-more}
use Rattle.exchange.proofs.rows.put_declarations.Goals as goal

pub loop-variable-init : goal.loop-variable-init
loop-variable-init c = put-lines-start (declaration c.args.columns) c.args.out.now

pub put_declaration-requires : goal.put_declaration-requires
put_declaration-requires c =
    put-lines-room (declaration c.args.columns) c.args.variables c.loop-variable.variable c.requires
    c.loop-variable.invariant (omega arith)

pub loop-variable-preserved : goal.loop-variable-preserved
loop-variable-preserved c =
    put-lines-more (declaration c.args.columns) c.loop-variable.variable c.loop-variable.invariant
    c.put_declaration.ensures
