-- `exchange::limits::put_limits` meets its contract: the texts of two limits, from their words. Assumes nothing.
use Rattle.std.proofs.Common.{rules, w32}
use mir.Facts.{to_z-of_z}
use mir.Val.{SFits}
use Rattle.rules.specs.Problem.{word}
use Rattle.put.proofs.Texts.{put_then, room-left, room-right}
use Rattle.exchange.proofs.limits.put_limits.Goals as goal

pub put_limit-requires : goal.put_limit-requires
put_limit-requires c =
    let kind : SFits w32 (word c.args.limits.now 0) = search rules in
    let number : SFits w32 (word c.args.limits.now 1) = search rules in
    rw (c.lower_limit.ensures, to_z-of_z kind, to_z-of_z number) (room-left _ c.requires.room)

pub put_limit-requires-2 : goal.put_limit-requires-2
put_limit-requires-2 c =
    let kind : SFits w32 (word c.args.limits.now 0) = search rules in
    let lower : SFits w32 (word c.args.limits.now 1) = search rules in
    let upper : SFits w32 (word c.args.limits.now 2) = search rules in
    let put = rw (c.lower_limit.ensures, to_z-of_z kind, to_z-of_z lower) at c.put_limit.ensures in
    rw (c.upper_limit.ensures, to_z-of_z kind, to_z-of_z upper) (room-right put c.requires.room)

pub returns : goal.returns
returns c =
    let kind : SFits w32 (word c.args.limits.now 0) = search rules in
    let lower : SFits w32 (word c.args.limits.now 1) = search rules in
    let upper : SFits w32 (word c.args.limits.now 2) = search rules in
    put_then (rw (c.lower_limit.ensures, to_z-of_z kind, to_z-of_z lower) at c.put_limit.ensures)
    (rw (c.upper_limit.ensures, to_z-of_z kind, to_z-of_z upper) at c.put_limit-2.ensures)
