-- `pivot::wide::mixed_at` meets its contract: each of the four kinds is the definition's number. Assumes nothing.
use Rattle.std.proofs.Common.{rules, arith, ◌∙◌, FitsSigned, w32, w64, to_z-of_z}
use Rattle.std.proofs.lemmas.Int.{ints}
use Rattle.pivot.specs.Pivot.{mixed_laid}
use Rattle.pivot.proofs.wide.mixed_at.Goals as goal

pub returns-in-true-true : goal.returns-in-true-true
unfolding mixed_laid
returns-in-true-true c =
    let fit : FitsSigned w64 c.difference.result = search rules in
    let common : FitsSigned w32 c.args.turn.asked.common = search rules in
    rw (← c.in-true-true.ensures, ← c.in-true-true.ensures')
    (simp (to_z-of_z fit) ((simp (to_z-of_z common) at c.difference.ensures) ∙ omega (arith, ints)))

pub returns-in-true-false : goal.returns-in-true-false
unfolding mixed_laid
returns-in-true-false c =
    let fit : FitsSigned w64 c.difference-in-true-false.result = search rules in
    let common : FitsSigned w32 c.args.turn.asked.common = search rules in
    let above : FitsSigned w32 c.entry_at-above.result = search rules in
    rw (← c.in-true-false.ensures, ← c.in-true-false.ensures', ← c.entry_at-above.ensures)
    (simp (to_z-of_z fit) ((simp (to_z-of_z common, to_z-of_z above) at c.difference-in-true-false.ensures)
    ∙ omega (arith, ints)))

pub returns-in-false-true : goal.returns-in-false-true
unfolding mixed_laid
returns-in-false-true c =
    let fit : FitsSigned w64 c.difference-in-false-true.result = search rules in
    let common : FitsSigned w32 c.args.turn.asked.common = search rules in
    let beside : FitsSigned w32 c.entry_at-beside.result = search rules in
    rw (← c.in-false-true.ensures, ← c.in-false-true.ensures', ← c.entry_at-beside.ensures)
    (simp (to_z-of_z fit) ((simp (to_z-of_z common, to_z-of_z beside) at c.difference-in-false-true.ensures)
    ∙ omega (arith, ints)))

pub returns-in-false-false : goal.returns-in-false-false
unfolding mixed_laid
returns-in-false-false c =
    let fit : FitsSigned w64 c.difference-in-false-false.result = search rules in
    let pivot : FitsSigned w32 c.pivot-pivot.result = search rules in
    let own : FitsSigned w32 c.entry_at-own.result = search rules in
    let beside : FitsSigned w32 c.entry_at-beside.result = search rules in
    let above : FitsSigned w32 c.entry_at-above.result = search rules in
    rw (
      ← c.in-false-false.ensures,
      ← c.in-false-false.ensures',
      ← c.pivot-pivot.ensures,
      ← c.entry_at-own.ensures,
      ← c.entry_at-beside.ensures,
      ← c.entry_at-above.ensures,
    ) (simp (to_z-of_z fit) (simp (to_z-of_z pivot, to_z-of_z own, to_z-of_z beside, to_z-of_z above)
    at c.difference-in-false-false.ensures))
