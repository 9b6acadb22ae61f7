-- `days::put_bodies`: the texts of the bodies passed are put. Assumes nothing.
use Rattle.std.proofs.Common.{arith, subst, ◌*◌, ◌≡◌}
use Rattle.rules.specs.Sizes.{most_bodies, most_text}
use Rattle.rules.specs.Program.Text.{lines_below}
use Rattle.rules.specs.Bundle.File.{count_in}
use Rattle.rules.proofs.Bundle.Places.{bodies-counted}
use Rattle.put.specs.Put.{PutShort}
use Rattle.lines.proofs.Texts.{lines-room, text-lines-more, text-lines-start}
use Rattle.days.proofs.Days.{put-within}
use Rattle.days.proofs.put_bodies.Invariants.{text_of}
use Rattle.days.proofs.put_bodies.Goals as goal

pub count_at-bodies-requires : goal.count_at-bodies-requires
count_at-bodies-requires c = let A = c.requires.0.accepted in (omega (arith, A.long), A.count-least)

pub loop-i-init : goal.loop-i-init
loop-i-init c = (omega arith, text-lines-start (text_of c.args.words.now) most_text c.args.out.now)

pub put_body-requires : goal.put_body-requires
put_body-requires c =
    let h = c.count_at-bodies.ensures in
    let few = bodies-counted c.requires.0.accepted in
    let room = lines-room _ most_text c.loop-i.i most_bodies c.loop-i.invariant.1 (omega arith)
    (omega (arith, c.requires.1)) in
    (c.requires.0, omega arith, room, c.rows_of-rows.ensures)

pub loop-i-preserved : goal.loop-i-preserved
loop-i-preserved c = (
  omega arith,
  text-lines-more (text_of c.args.words.now) most_text c.loop-i.i c.loop-i.invariant.1 c.put_body.ensures,
)

pub returns : goal.returns
returns c =
    let ws = c.args.words.now in
    let all : c.loop-i.i ≡ count_in ws = omega (arith, c.count_at-bodies.ensures) in
    put-within (omega (arith, bodies-counted c.requires.0.accepted))
    (subst (λ n. PutShort (most_text * n) c.args.out.now (lines_below n (text_of ws)) c.loop-i.out) all
    c.loop-i.invariant.1)
