-- `pivot::border::part_of` meets its contract. The invariant: g is the divisor of the start and the numbers passed.
-- Once g is 1, so is the divisor of all. Assumes nothing.
use Rattle.std.proofs.Common.{rules, arith, sym, ◌∙◌, ap₂, get_or, pos, FitsSigned, w32, to_z-of_z}
use Rattle.whole.specs.Divisors.{gcd}
use Rattle.divisor.proofs.Laws.Cells.{divisor-none, divisor-more, divisor-one}
use Rattle.pivot.proofs.border.part_of.Goals as goal

pub loop-number-init : goal.loop-number-init
loop-number-init c = sym (divisor-none c.args.numbers.now (pos c.args.start))

pub returns-then-g-eq1 : goal.returns-then-g-eq1
returns-then-g-eq1 c =
    sym (divisor-one c.args.numbers.now (pos c.args.start) c.loop-number.number-index _ (omega arith)
    (sym c.loop-number.invariant ∙ c.if-g-eq1.true))

pub loop-number-preserved : goal.loop-number-preserved
loop-number-preserved c =
    let number : FitsSigned w32 (get_or c.args.numbers.now c.loop-number.number-index (pos 0)) = search rules in
    c.common_of-g.ensures
    ∙ ap₂ gcd (c.from.ensures ∙ (simp (to_z-of_z number) at c.unsigned_abs.ensures.value)) c.loop-number.invariant
    ∙ sym (divisor-more c.args.numbers.now (pos c.args.start) c.loop-number.number-index)
