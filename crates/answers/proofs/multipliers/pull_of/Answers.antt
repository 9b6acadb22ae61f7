-- `answers::multipliers::pull_of` meets its contract. Assumes nothing.
use Rattle.std.proofs.Common.{◌≡◌, ℤ, neg_ℤ, pos, Bool, true, false, eqb, refl, ap, ap₂, sym, ◌∙◌, rules, w32, w64}
use Rattle.std.proofs.Common.{SFits}
use Rattle.std.proofs.Math.Facts.{to_z-of_z}
use borrow.Author.Tests.{eq-eqb, ne_eqb, not-false, not-true}
use lib.IntN.{+ℤ_idl}
use Rattle.whole.specs.Numbers.{Within}
use Rattle.whole.proofs.Numbers.Sizes.{fits-by, within-neg}
use Rattle.whole.proofs.Numbers.Halves.{wide}
use Rattle.rules.specs.Sizes.{largest_number}
use Rattle.rules.specs.Step.{pull}
use Rattle.layout.specs.Layout.{entry_in}
use Rattle.sides.specs.Sides.{side_by}
use Rattle.answers.specs.Multipliers.{pull_laid, relation_from}
use Rattle.answers.proofs.multipliers.pull_of.Goals as goal

-- the relation by the two tests, of the entry
abbrev relation : (rises : Bool) (common entry : ℤ) → Bool → Bool → ℤ
relation rises common entry basic own = pull (side_by rises) (relation_from basic own common entry)

pull-zero : (b : Bool) → pull (side_by b) (pos 0) ≡ pos 0
unfolding pull
pull-zero true = refl
pull-zero false = refl

-- the seat's variable is not basic
pub returns-then-not-seat : goal.returns-then-not-seat
unfolding pull_laid
returns-then-not-seat c = let a = c.args in
    let fit : SFits w32 c.entry_at-entry.result = search rules in
    let fit-turned : SFits w64 c.turned.result = search rules in
    let entry = entry_in a.size.rows a.size.columns a.entries.now a.blocked.row.0 a.seat.column.0 in
    to_z-of_z fit-turned
    ∙ (simp (c.from.ensures, to_z-of_z fit, to_z-of_z (wide fit)) at c.turned.ensures)
    ∙ ap (pull (side_by a.blocked.rises)) c.entry_at-entry.ensures
    ∙ sym (ap (λ b. relation a.blocked.rises a.common entry b (eqb a.seat.row.0 a.blocked.row.0))
    (not-true _ c.if-not-seat.true))

-- minus the common number
fit-less : {d : ℤ} → Within d largest_number → SFits w64 (neg_ℤ d)
fit-less h = fits-by (within-neg h) tt

-- the seat's variable is basic
pub returns-then-seat-blocked : goal.returns-then-seat-blocked
unfolding pull_laid
returns-then-seat-blocked c = let a = c.args in let f = c.ranges.common in
    let fit : SFits w64 c.turned-then-seat-blocked.result = search rules in
    let entry = entry_in a.size.rows a.size.columns a.entries.now a.blocked.row.0 a.seat.column.0 in
    to_z-of_z fit
    ∙ (simp (
      c.from-then-seat-blocked.ensures,
      to_z-of_z f,
      to_z-of_z (wide f),
      +ℤ_idl,
      to_z-of_z (fit-less c.requires.common-within),
    ) at c.turned-then-seat-blocked.ensures)
    ∙ sym (ap₂ (relation a.blocked.rises a.common entry) (not-false _ c.if-not-seat.false)
    (eq-eqb a.seat.row.0 a.blocked.row.0 c.if-seat-blocked.true))

pub returns-else-seat-blocked : goal.returns-else-seat-blocked
unfolding pull_laid
returns-else-seat-blocked c = let a = c.args in
    let entry = entry_in a.size.rows a.size.columns a.entries.now a.blocked.row.0 a.seat.column.0 in
    sym (ap₂ (relation a.blocked.rises a.common entry) (not-false _ c.if-not-seat.false)
    (ne_eqb a.seat.row.0 a.blocked.row.0 c.if-seat-blocked.false)
    ∙ pull-zero a.blocked.rises)
