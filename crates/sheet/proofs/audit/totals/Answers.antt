-- `sheet::audit::totals` meets its contract. The invariant of its loop: the totals are those of the bodies passed. The
-- measure is how many bodies are left. Assumes nothing.
use mathlib.Core.List.{List}
use mathlib.Core.Path.{◌≡◌, ap, ap₂, sym, ◌∙◌}
use Prim.Native.Nat.{ℕ, ◌<◌, ◌≤◌}
use native.Mathlib.Nat.{min-eq_left}
use native.Mathlib.Numerals.{add-one}
use native.Mathlib.Omega.{arith}
use lib.IntN.{ℤ}
use lib.ListN.{length}
use Rattle.rules.specs.Bundle.File.{count_in, edition_in}
use Rattle.rules.specs.Bundle.Facts.{FileAccepted}
use Rattle.rules.specs.Refusal.{rows_within}
use Rattle.rules.proofs.Bundle.Bodies.{body-at}
use Rattle.rules.proofs.Bundle.Places.{bodies-counted, edition-rows}
use Rattle.bundle.specs.Opened.{part_at}
use Rattle.bundle.specs.declared.body.Part.{Part}
use Rattle.bundle.proofs.Parts.{part_body, part-within}
use Rattle.tally.specs.Counting.{audited_at}
use Rattle.tally.specs.Sums.{totals_of}
use Rattle.tally.proofs.Laws.More.{audited-more}
use Rattle.tally.proofs.Laws.Ready.{nothing_yet, totals-countable}
use Rattle.sheet.proofs.audit.totals.Invariants.{bodies, rows_for}
use Rattle.sheet.proofs.audit.totals.Goals as goal

pub count_at-bodies-requires : goal.count_at-bodies-requires
count_at-bodies-requires c = let A = c.requires.accepted in (omega (arith, A.long), A.count-least)

pub loop-i-init : goal.loop-i-init
loop-i-init c = let words = c.args.words.now in
    (omega arith, c.nothing-sums.ensures ∙ nothing_yet (rows_for words) (bodies words))

pub part_of-part-requires : goal.part_of-part-requires
part_of-part-requires c = (c.requires, omega (arith, c.count_at-bodies.ensures))

-- where body i stands
within : {bytes : List ℕ} {words : List ℤ} (accepted : FileAccepted bytes words) (i : ℕ) (part : Part) →
    i < count_in words → part ≡ part_at words i → (part.first ≤ part.end) × (part.end ≤ length words)
within accepted i part h e = part-within accepted i h part e

pub offset_bounds-words-part : goal.offset_bounds-words-part
offset_bounds-words-part c =
    let w = within c.requires.accepted c.loop-i.i c.part_of-part.result (omega (arith, c.count_at-bodies.ensures))
    c.part_of-part.ensures in omega (arith, w.0, w.1)

pub slice_bounds-audited-count : goal.slice_bounds-audited-count
slice_bounds-audited-count c =
    let w = within c.requires.accepted c.loop-i.i c.part_of-part.result (omega (arith, c.count_at-bodies.ensures))
    c.part_of-part.ensures in omega (arith, w.0)

pub slice_bounds-audited-start : goal.slice_bounds-audited-start
slice_bounds-audited-start c =
    (within c.requires.accepted c.loop-i.i c.part_of-part.result (omega (arith, c.count_at-bodies.ensures))
    c.part_of-part.ensures).0

pub slice_bounds-audited-end : goal.slice_bounds-audited-end
slice_bounds-audited-end c =
    (within c.requires.accepted c.loop-i.i c.part_of-part.result (omega (arith, c.count_at-bodies.ensures))
    c.part_of-part.ensures).1

pub audited-sums-requires : goal.audited-sums-requires
audited-sums-requires c =
    let words = c.args.words.now in
    let h : c.loop-i.i < count_in words = omega (arith, c.count_at-bodies.ensures) in
    rw c.loop-i.invariant.1
    (totals-countable (rows_for words) c.loop-i.i (bodies words) (edition-rows (edition_in words))
    (omega (arith, h, bodies-counted c.requires.accepted)))

-- no edition has more rows than a problem
within-is : (words : List ℤ) (rows : ℕ) → rows ≡ rows_for words → rows_within rows ≡ rows_for words
within-is words rows e = ap rows_within e ∙ min-eq_left (edition-rows (edition_in words))

pub loop-i-preserved : goal.loop-i-preserved
loop-i-preserved c =
    let words = c.args.words.now in
    let i = c.loop-i.i in
    let r = c.rows_of-rows.result in
    let h : i < count_in words = omega (arith, c.count_at-bodies.ensures) in (
      omega (arith, h, c.count_at-bodies.ensures),
      c.audited-sums.ensures
          ∙ ap₂ (λ s w. audited_at (rows_within r) s w i) c.loop-i.invariant.1
          (part_body c.requires.accepted i h c.part_of-part.result c.part_of-part.ensures ∙ sym (body-at words i h))
          ∙ ap (λ n. audited_at n (totals_of (rows_for words) i (bodies words)) (bodies words i) i)
          (within-is words r c.rows_of-rows.ensures)
          ∙ audited-more (rows_for words) (edition-rows (edition_in words)) (bodies words) i
          ∙ ap (λ n. totals_of (rows_for words) n (bodies words)) (sym (add-one i)),
    )

pub returns : goal.returns
returns c =
    let words = c.args.words.now in
    let e : c.loop-i.i ≡ count_in words = omega (arith, c.count_at-bodies.ensures) in
    c.loop-i.invariant.1 ∙ ap (λ n. totals_of (rows_for words) n (bodies words)) e
