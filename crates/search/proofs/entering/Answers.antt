-- `search::entering` meets its contract. The loop's invariant: no variable passed enters. Assumes nothing.
use Rattle.std.proofs.Common.{◌≡◌, ℕ, ℤ, Bool, ap, sym, ◌∙◌, arith, rules, w32, to_z, of_z, SFits}
use Rattle.std.proofs.Math.Facts.{to_z-of_z}
use Rattle.std.proofs.Math.Option.{some}
use borrow.Author.Tests.{not-false, not-true}
use Rattle.whole.specs.Values.{pairs}
use Rattle.whole.proofs.Lists.Turns.{lowest_start}
use Rattle.rules.specs.Step.{pull, suits}
use Rattle.tableau.specs.declared.Tableau.{Tableau}
use Rattle.tableau.specs.Parts.{column_of, highest_of, lower_given, lowest_of, plain_at, small_at, upper_given}
use Rattle.tableau.specs.Parts.{value_at}
use Rattle.layout.specs.Layout.{entry_in}
use Rattle.sides.specs.Sides.{side_by, suits_of}
use Rattle.search.specs.Search.{fitting, seen}
use Rattle.search.proofs.Laws.Turns.{enters-here, no-one-enters, past-basic, past-unfit}
use Rattle.search.proofs.entering.Goals as goal
use Rattle.search.proofs.entering.Goals.{then-not-seat+else-suits, else-not-seat}

-- whether a variable can move the one that leaves, from its entry and its value, by their bits
fitting-by : (t : Tableau) (i w : ℕ) (rises : Bool) {e : ℤ} {b : Bool} → SFits w32 e →
    SFits w32 (plain_at t (column_of t w)) → SFits w32 (small_at t (column_of t w)) →
    e ≡ entry_in t.rows t.columns t.entries i (column_of t w) →
    b ≡ suits_of rises (to_z w32 (of_z w32 e))
    (to_z w32 (of_z w32 (plain_at t (column_of t w))), to_z w32 (of_z w32 (small_at t (column_of t w))))
    (record { lower = lower_given t.limits w; upper = upper_given t.limits w }) →
    b ≡ fitting t i (side_by rises) w
unfolding suits_of
fitting-by t i w rises f g h p q = (simp (to_z-of_z f, to_z-of_z g, to_z-of_z h) at q)
    ∙ ap (λ e. suits pairs (pull (side_by rises) e) (some (value_at t (column_of t w)))
    (lowest_of t.limits w) (highest_of t.limits w)) p

pub loop-w-init : goal.loop-w-init
loop-w-init c = lowest_start _

pub returns-then-suits : goal.returns-then-suits
returns-then-suits c = let t = seen c.args.entries.now c.args.view.now c.args.limits.now in
    let i = c.args.row.0 in let w = c.loop-w.w in let rises = c.args.rises in
    let fit-entry : SFits w32 c.entry_at-entry.result = search rules in
    let fit-plain : SFits w32 (plain_at t (column_of t w)) = search rules in
    let fit-small : SFits w32 (small_at t (column_of t w)) = search rules in
    let f = fitting-by t i w rises fit-entry fit-plain fit-small c.entry_at-entry.ensures c.suits.ensures in
    enters-here t i (side_by rises) w c.loop-w.invariant (omega arith) (not-true _ c.if-not-seat.true)
    (sym f ∙ c.if-suits.true)

pub loop-w-preserved : goal.loop-w-preserved
loop-w-preserved c = let t = seen c.args.entries.now c.args.view.now c.args.limits.now in
    let i = c.args.row.0 in let v = c.loop-w.w in let rises = c.args.rises in
    elim c.if-not-seat.branch [
      | then-not-seat+else-suits w ↦
          let fit-entry : SFits w32 w.entry_at-entry.result = search rules in
          let fit-plain : SFits w32 (plain_at t (column_of t v)) = search rules in
          let fit-small : SFits w32 (small_at t (column_of t v)) = search rules in
          let f = fitting-by t i v rises fit-entry fit-plain fit-small w.entry_at-entry.ensures w.suits.ensures in
          past-unfit t i (side_by rises) v c.loop-w.invariant (not-true _ w.if-not-seat.true)
          (sym f ∙ w.if-suits.false)
      | else-not-seat w ↦ past-basic t i (side_by rises) v c.loop-w.invariant (not-false _ w.if-not-seat.false)
    ]

pub returns : goal.returns
returns c = let t = seen c.args.entries.now c.args.view.now c.args.limits.now in
    no-one-enters t c.args.row.0 (side_by c.args.rises) c.loop-w.w (omega arith) c.loop-w.invariant
