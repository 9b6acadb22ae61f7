-- `search::leaving` meets its contract. The loop's invariant: no variable passed leaves. Assumes nothing.
use Rattle.std.proofs.Common.{◌≡◌, ℕ, ℤ, ap₂, ◌∙◌, arith, rules, w32, w64, to_z, of_z, SFits, Option}
use Rattle.std.proofs.Math.Facts.{to_z-of_z}
use Rattle.whole.proofs.Lists.Turns.{lowest_start}
use Rattle.tableau.specs.declared.Tableau.{Tableau}
use Rattle.tableau.specs.Parts.{highest_of, lower_given, lowest_of, upper_given}
use Rattle.sides.specs.declared.Breach.{Breach}
use Rattle.sides.specs.Sides.{as_breach, breach_at, breach_of}
use Rattle.search.specs.Search.{scaled_at, seen, short_at, side_at}
use Rattle.search.proofs.Laws.Shortfalls.{scaled-modest}
use Rattle.search.proofs.Laws.Turns.{leaves-here, no-one-leaves, past-nonbasic, past-within}
use Rattle.search.proofs.leaving.Goals as goal
use Rattle.search.proofs.leaving.Goals.{then-seat+in_default, else-seat}

-- the breach of a variable, from D times its value, by their bits
breach-by : (t : Tableau) (v : ℕ) {x y : ℤ} {b : Option Breach} → SFits w32 t.common → SFits w64 x → SFits w64 y →
    x ≡ (scaled_at t v).0 → y ≡ (scaled_at t v).1 →
    b ≡ breach_of (to_z w32 (of_z w32 t.common)) (to_z w64 (of_z w64 x), to_z w64 (of_z w64 y))
    (record { lower = lower_given t.limits v; upper = upper_given t.limits v }) →
    b ≡ as_breach (side_at t v) (short_at t v)
unfolding breach_of
breach-by t v f g h p q e = (simp (to_z-of_z f, to_z-of_z g, to_z-of_z h) at e)
    ∙ ap₂ (λ x y. breach_at t.common (x, y) (lowest_of t.limits v) (highest_of t.limits v)) p q

pub loop-v-init : goal.loop-v-init
loop-v-init c = lowest_start _

pub breach_of-outside-requires-clause-modest : goal.breach_of-outside-requires-clause-modest
breach_of-outside-requires-clause-modest c = let t = seen c.args.entries.now c.args.view.now c.args.limits.now in
    let fit-plain : SFits w64 c.row_value-plain.result = search rules in
    let fit-small : SFits w64 c.row_small-small.result = search rules in
    let value : (c.row_value-plain.result, c.row_small-small.result) ≡ scaled_at t c.loop-v.v =
    ap₂ (λ x y. (x, y)) c.row_value-plain.ensures c.row_small-small.ensures in
    simp (to_z-of_z fit-plain, to_z-of_z fit-small) (rw value (scaled-modest t c.requires c.loop-v.v))

pub returns-in-Some : goal.returns-in-Some
returns-in-Some c = let t = seen c.args.entries.now c.args.view.now c.args.limits.now in
    let fit-common : SFits w32 c.args.view.now.common = search rules in
    let fit-plain : SFits w64 c.row_value-plain.result = search rules in
    let fit-small : SFits w64 c.row_small-small.result = search rules in
    leaves-here t c.loop-v.v c.loop-v.invariant c.if-seat.true (omega arith)
    (breach-by t c.loop-v.v fit-common fit-plain fit-small c.row_value-plain.ensures c.row_small-small.ensures
    c.in-Some.ensures)

pub loop-v-preserved : goal.loop-v-preserved
loop-v-preserved c = let t = seen c.args.entries.now c.args.view.now c.args.limits.now in let v = c.loop-v.v in
    elim c.if-seat.branch [
      | then-seat+in_default w ↦
          let fit-common : SFits w32 c.args.view.now.common = search rules in
          let fit-plain : SFits w64 w.row_value-plain.result = search rules in
          let fit-small : SFits w64 w.row_small-small.result = search rules in
          past-within t v c.loop-v.invariant w.if-seat.true
          (breach-by t v fit-common fit-plain fit-small w.row_value-plain.ensures w.row_small-small.ensures
          w.in_default.ensures)
      | else-seat w ↦ past-nonbasic t v c.loop-v.invariant w.if-seat.false
    ]

pub returns : goal.returns
returns c = let t = seen c.args.entries.now c.args.view.now c.args.limits.now in
    no-one-leaves t c.loop-v.v (omega arith) c.loop-v.invariant
