-- `bundle::writer::total_of` meets its contract: a length more counts as its size, and all are their sum.
use Rattle.std.proofs.Common.{◌≡◌, arith, ap, sym, ◌∙◌, pos, length, add-one, rules}
use mir.Facts.{to_z-of_z}
use mir.Syntax.{w32}
use mir.Val.{SFits}
use Rattle.rules.specs.Problem.{word}
use Rattle.rules.proofs.Bundle.Places.{count_before, counts-next, counts-none, sum-counts}
use Rattle.bundle.proofs.writer.total_of.Goals as goal

pub loop-length-init : goal.loop-length-init
loop-length-init c = (sym (counts-none (word c.args.lengths.now)), omega arith)

pub loop-length-preserved : goal.loop-length-preserved
loop-length-preserved c =
    let i = c.loop-length.length-index in
    let ls = c.args.lengths.now in
    let next = counts-next i (word ls) in
    let fit : SFits w32 (word ls i) = search rules in (
      rw add-one (omega (arith, next, (simp (to_z-of_z fit) at c.unsigned_abs.ensures.value))),
      omega (arith, c.unsigned_abs.ensures.bound),
    )

pub returns : goal.returns
returns c =
    let ls = c.args.lengths.now in
    let all : c.loop-length.length-index ≡ length ls = omega arith in
    ap pos (c.loop-length.invariant.0 ∙ ap (λ n. count_before n (word ls)) all)
    ∙ sym (sum-counts (length ls) (word ls) c.requires.least (length ls) (omega arith))
