-- `answers::numerators_of` meets its contract. The loop's invariant: the numerators of the variables passed stand
-- in the array, and 0 elsewhere. Assumes nothing.
use Rattle.std.proofs.Common.{◌≡◌, ◌+◌, ◌<◌, pos, ap, ◌∙◌, arith, rules, w32, w64, to_z, of_z, SFits}
use Rattle.std.proofs.Math.Facts.{to_z-of_z}
use Rattle.whole.specs.Tables.{filled}
use Rattle.whole.proofs.Lists.Prefix.{filled-start, filled_more}
use Rattle.rules.specs.Sizes.{most_variables}
use Rattle.answers.specs.Answer.{numerator_in, numerators_in, numerators_laid}
use Rattle.answers.proofs.numerators_of.Goals as goal

pub loop-v-init : goal.loop-v-init
loop-v-init c = filled-start most_variables (pos 0) _

pub loop-v-preserved : goal.loop-v-preserved
loop-v-preserved c = let a = c.args in
    let few : c.loop-v.v < most_variables = omega arith in
    let fit : SFits w64 c.numerator_of.result = search rules in
    let numerator = numerator_in a.entries.now a.values.now a.seats (to_z w32 (of_z w32 a.common))
    a.size.rows a.size.columns in
    filled_more most_variables (pos 0) numerator c.loop-v.v few c.loop-v.invariant
    (to_z-of_z fit ∙ c.numerator_of.ensures)

pub returns : goal.returns
unfolding numerators_laid
returns c = let a = c.args in
    let e : c.loop-v.v ≡ a.size.rows + a.size.columns = omega arith in
    let numerator = numerator_in a.entries.now a.values.now a.seats (to_z w32 (of_z w32 a.common))
    a.size.rows a.size.columns in
    c.loop-v.invariant ∙ ap (λ k. filled most_variables (pos 0) k numerator) e
    ∙ ap (λ d. numerators_in a.entries.now a.values.now a.seats d a.size.rows a.size.columns)
    (to_z-of_z c.ranges.common)
