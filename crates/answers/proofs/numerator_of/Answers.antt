-- `answers::numerator_of` meets its contract. Assumes nothing.
use Rattle.std.proofs.Common.{◌≡◌, pos, ◌*ℤ◌, get_or, ap, sym, ◌∙◌, rules, w32, w64, SFits}
use Rattle.std.proofs.Math.Facts.{to_z-of_z}
use Rattle.search.specs.Search.{row_sum_in}
use Rattle.answers.specs.Answer.{numerator_from, numerator_laid}
use Rattle.answers.proofs.numerator_of.Goals as goal

pub returns-then-seat : goal.returns-then-seat
unfolding numerator_laid
returns-then-seat c =
    let fit : SFits w64 c.row_value.result = search rules in
    let a = c.args in
    let basic = row_sum_in a.size.rows a.size.columns a.entries.now a.values.now a.seat.row.0 in
    let seated = a.common *ℤ get_or a.values.now a.seat.column.0 (pos 0) in
    to_z-of_z fit ∙ c.row_value.ensures ∙ sym (ap (λ b. numerator_from b basic seated) c.if-seat.true)

pub returns-else-seat : goal.returns-else-seat
unfolding numerator_laid
returns-else-seat c =
    let a = c.args in
    let x = get_or a.values.now a.seat.column.0 (pos 0) in
    let fit : SFits w64 c.product.result = search rules in
    let fit-value : SFits w32 x = search rules in
    let basic = row_sum_in a.size.rows a.size.columns a.entries.now a.values.now a.seat.row.0 in
    let product_is : c.product.result ≡ a.common *ℤ x =
    simp (to_z-of_z c.ranges.common, to_z-of_z fit-value) at c.product.ensures in
    to_z-of_z fit ∙ product_is ∙ sym (ap (λ b. numerator_from b basic (a.common *ℤ x)) c.if-seat.false)
