-- `bundle::body::part_of` meets its contract: the pair of a body is within the words, and so is the body.
use Rattle.std.proofs.Common.{arith}
use Rattle.bundle.proofs.Parts.{first-least, pair-within}
use Rattle.bundle.proofs.body.part_of.Goals as goal

pub count_at-first-requires : goal.count_at-first-requires
count_at-first-requires c =
    let A = c.requires.0.accepted in (omega (arith, A.long), first-least A c.args.i c.requires.1)

pub overflow_add-end : goal.overflow_add-end
overflow_add-end c =
    omega (arith, c.count_at-first.ensures, c.count_at.ensures, pair-within c.requires.0.accepted c.args.i c.requires.1)
