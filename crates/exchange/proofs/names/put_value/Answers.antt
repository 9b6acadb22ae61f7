-- `exchange::names::put_value` meets its contract: below 0 a minus and the digits of the size in parentheses, otherwise
-- the digits alone. Assumes nothing.
use Rattle.std.proofs.Common.{◌∙◌, ap, arith, length-append}
use lib.IntN.{nat_abs}
use mir.Facts.{to_z-of_z, sfits_lit}
use mir.Syntax.{w32}
use Rattle.whole.proofs.Numbers.Tests.{test-lt, test-nlt}
use Rattle.rules.specs.Program.Text.{ascii}
use Rattle.rules.specs.Exchange.Script.{close, open_minus}
use Rattle.rules.proofs.Exchange.Lengths.{number-below, number-above}
use Rattle.put.proofs.Texts.{put_then}
use Rattle.exchange.proofs.names.put_value.Goals as goal

pub text-requires : goal.text-requires
unfolding open_minus close ascii
text-requires c =
    let below = number-below c.args.n (test-lt w32 c.ranges.n (sfits_lit tt) c.if-n-lt0.true) in
    let room = rw below at c.requires in
    grind (arith, length-append, room)

pub digits-requires : goal.digits-requires
unfolding open_minus close ascii
digits-requires c =
    let below = number-below c.args.n (test-lt w32 c.ranges.n (sfits_lit tt) c.if-n-lt0.true) in
    let room = rw below at c.requires in
    let size = c.from-size.ensures ∙ c.unsigned_abs.ensures.value ∙ ap nat_abs (to_z-of_z c.ranges.n) in
    rw size (grind (arith, length-append, room))

pub byte-requires : goal.byte-requires
unfolding open_minus close ascii
byte-requires c =
    let below = number-below c.args.n (test-lt w32 c.ranges.n (sfits_lit tt) c.if-n-lt0.true) in
    let room = rw below at c.requires in
    let size = c.from-size.ensures ∙ c.unsigned_abs.ensures.value ∙ ap nat_abs (to_z-of_z c.ranges.n) in
    let put = rw size at c.digits.ensures in
    grind (arith, length-append, room, put)

pub digits-requires-else-n-lt0 : goal.digits-requires-else-n-lt0
digits-requires-else-n-lt0 c =
    let above = number-above c.args.n (test-nlt w32 c.ranges.n (sfits_lit tt) c.if-n-lt0.false) in
    let size = c.from-size.ensures ∙ c.unsigned_abs.ensures.value ∙ ap nat_abs (to_z-of_z c.ranges.n) in
    rw size (rw above at c.requires)

pub returns-then-n-lt0 : goal.returns-then-n-lt0
unfolding open_minus close ascii
returns-then-n-lt0 c =
    let below = number-below c.args.n (test-lt w32 c.ranges.n (sfits_lit tt) c.if-n-lt0.true) in
    let size = c.from-size.ensures ∙ c.unsigned_abs.ensures.value ∙ ap nat_abs (to_z-of_z c.ranges.n) in
    rw below (put_then (put_then c.text.ensures (rw size at c.digits.ensures)) c.byte.ensures)

pub returns-else-n-lt0 : goal.returns-else-n-lt0
returns-else-n-lt0 c =
    let above = number-above c.args.n (test-nlt w32 c.ranges.n (sfits_lit tt) c.if-n-lt0.false) in
    let size = c.from-size.ensures ∙ c.unsigned_abs.ensures.value ∙ ap nat_abs (to_z-of_z c.ranges.n) in
    rw above (rw size at c.digits-else-n-lt0.ensures)
