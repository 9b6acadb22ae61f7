-- `times::solve` meets its contract: settled passes give the times, and else the way back gives a bad cycle. Assumes
-- nothing.
use Rattle.std.proofs.Common.{◌≡◌, ◌∙◌, ap₂, ◌-◌, length, pos, rules}
use Rattle.rules.specs.Sizes.{most_vertices}
use Rattle.lengths.specs.Answer.{output}
use Rattle.times.proofs.Laws.Answers.{closed-gathering, timed-met, timed-unmet}
use Rattle.times.proofs.solve.Goals as goal

pub gathered-requires : goal.gathered-requires
gathered-requires c =
    let long : length c.in-Err.way.path ≡ most_vertices = search rules in
    closed-gathering c.args.words.now c.args.out.now c.requires c.in-Err.way long c.in-Err.ensures

pub returns-in-Ok : goal.returns-in-Ok
returns-in-Ok c =
    let n = c.n-n.result in
    timed-met c.args.words.now c.args.out.now c.requires c.in-Ok.best _ n c.n-n.ensures c.in-Ok.ensures
    (c.write.ensures
    ∙ ap₂ (λ p q. output (pos 1) n (record { plain = p; small = q }) n c.args.out.now)
    c.times_of.ensures.0 c.times_of.ensures.1)

pub returns-in-Err : goal.returns-in-Err
returns-in-Err c =
    let n = c.n-n.result in
    let way = c.in-Err.way in
    let long : length way.path ≡ most_vertices = search rules in
    timed-unmet c.args.words.now c.args.out.now c.requires way long c.in-Err.ensures _ n c.n-n.ensures
    (c.write-in-Err.ensures
    ∙ ap₂ (λ p q. output (pos 2) (way.to - way.from) (record { plain = p; small = q }) n c.args.out.now)
    c.gathered.ensures.0 c.gathered.ensures.1)
