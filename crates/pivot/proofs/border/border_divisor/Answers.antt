-- `pivot::border::border_divisor` meets its contract. Assumes nothing.
use Rattle.std.proofs.Common.{rules, arith, ap, ap₂, ◌∙◌, ◌≤◌, ℕ, pos, length, FitsSigned, w32, to_z-of_z}
use Rattle.whole.specs.Divisors.{gcd}
use Rattle.divisor.specs.Cells.{divisor_below}
use Rattle.divisor.proofs.Laws.Cells.{divisor-front}
use Rattle.pivot.proofs.border.border_divisor.Goals as goal

pub returns : goal.returns
returns c =
    let b = c.args.border.now in
    let rows : b.rows ≤ length b.besides = omega arith in
    let columns : b.columns ≤ length b.aboves = omega arith in
    let pivot : FitsSigned w32 b.pivot = search rules in
    let both = c.common_of-both.ensures
    ∙ ap₂ gcd (c.from.ensures ∙ (simp (to_z-of_z pivot) at c.unsigned_abs.ensures.value))
    (c.from-2.ensures ∙ (simp (to_z-of_z c.ranges.common) at c.unsigned_abs-2.ensures.value)) in
    c.part_of.ensures ∙ divisor-front b.rows b.besides rows _
    ∙ ap (λ (g : ℕ). divisor_below b.rows b.besides (pos g)) (c.part_of-above.ensures
    ∙ divisor-front b.columns b.aboves columns _
    ∙ ap (λ (g : ℕ). divisor_below b.columns b.aboves (pos g)) both)
