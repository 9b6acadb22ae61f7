-- `pivot::pivot` meets its contract: what the quick way settles is the definition's, its range is tested, and where
-- nothing is settled the wide way is taken. Assumes nothing.
use Rattle.std.proofs.Common.{rules, arith, ap, ap₂, sym, subst, ◌∙◌, ◌≡◌, ◌≤◌, true, false, ℕ, ℤ, List, take, length}
use Rattle.std.proofs.Common.{pos, ◌≤ℤ◌, FitsSigned, w32, w64, to_z, of_z, to_z-of_z}
use Rattle.std.proofs.lemmas.Int.{ints}
use Rattle.std.proofs.lemmas.List.{get_or-take, length-take-le}
use lib.Signed.{quot_z}
use Rattle.whole.proofs.Numbers.Division.{bits-nonzero}
use Rattle.whole.proofs.Numbers.Sizes.{fits-by}
use Rattle.whole.proofs.Numbers.Halves.{wide, widened}
use Rattle.rules.specs.Sizes.{largest_number}
use Rattle.layout.specs.Layout.{live, most_entries}
use Rattle.pivot.specs.declared.asked.Asked.{Asked}
use Rattle.pivot.specs.Asked.{Able, common_for, entries_for, fits_for, product_for}
use Rattle.pivot.specs.Pivot.{all_small, pivoted_by}
use Rattle.pivot.specs.Trials.{Settles}
use Rattle.pivot.proofs.Laws.Ranges.{small-cells, small-same, small_all}
use Rattle.pivot.proofs.Laws.Wide.Reductions.{nonzero-by, quotient_fits, fits-common, end-in}
use Rattle.pivot.proofs.Laws.Trial.Settling.{within-up, beyond-up}
use Rattle.pivot.proofs.pivot.Goals as goal
use Rattle.pivot.proofs.pivot.Goals.{else-halves_in_range-via-then-halves_in_range+else-after-le-LARGEST_NUMBER}
use Rattle.pivot.proofs.pivot.Goals.{else-halves_in_range-via-else-halves_in_range}

-- the divisor z is found
module _ (l : List ℤ) (a : Asked) (z : ℤ) (out : List ℤ) (t : Settles l a z out) where
  fit-z : FitsSigned w32 z
  fit-z = fits-by t.by-within tt

  module _ (able : Able l a) {k : ℕ} (k-is : k ≡ live a.rows a.columns) (long : length out ≡ most_entries) where
    -- the live cells are the definition's
    cells_are : all_small (length (take k out)) (take k out) ≡ all_small (live a.rows a.columns) (entries_for l a)
    cells_are =
        let room : k ≤ length out = rw (k-is, long) (end-in able) in
        ap (λ n. all_small n (take k out)) (length-take-le k out room ∙ k-is)
        ∙ small-same (live a.rows a.columns) (take k out) (entries_for l a)
        (λ i b. get_or-take k out i (pos 0) (rw k-is b) ∙ t.cells_are.same i b)

    fits-true : all_small (length (take k out)) (take k out) ≡ true → common_for l a ≤ℤ pos largest_number →
        fits_for l a ≡ true
    fits-true e low = small_all _ _ _ (within-up able low) (sym cells_are ∙ e)

  -- and so is the new common number, as the code computes it
  module _ (able : Able l a) (product : ℤ) (product-is : product ≡ product_for l a) where
    fit-made : FitsSigned w64 (quot_z product z)
    fit-made = subst (λ (y : ℤ). FitsSigned w64 y) (sym (ap₂ quot_z product-is t.by-is)) (quotient_fits able)

    made : FitsSigned w64 product →
        to_z w64 (of_z w64 (quot_z (to_z w64 (of_z w64 product)) (to_z w64 (of_z w64 (to_z w32 (of_z w32 z))))))
        ≡ common_for l a
    made f = simp (to_z-of_z f, widened fit-z, to_z-of_z fit-made) (ap₂ quot_z product-is t.by-is)

pub shared_ref_as_front-halves_in_range : goal.shared_ref_as_front-halves_in_range
shared_ref_as_front-halves_in_range c = rw c.live-live.ensures (end-in c.requires.able)

pub nonzero_div-after : goal.nonzero_div-after
nonzero_div-after c =
    let t = c.in-By.ensures in
    let z = fit-z _ _ _ _ t in
    let product : FitsSigned w64 c.product.result = search rules in (
      simp (to_z-of_z z) (bits-nonzero w64 c.in-By.by (wide z) (λ y. nonzero-by c.requires.able (sym t.by-is ∙ y))),
      simp (to_z-of_z product, widened z) (fit-made _ _ _ _ t c.requires.able c.product.result c.product.ensures),
    )

pub overflow_cast-result : goal.overflow_cast-result
overflow_cast-result c =
    let product : FitsSigned w64 c.product.result = search rules in
    let e = made _ _ _ _ c.in-By.ensures c.requires.able c.product.result c.product.ensures product in
    let low : common_for c.args.entries.now c.args.asked ≤ℤ pos largest_number = grind (arith, ints) in
    let fits = fits-true _ _ _ _ c.in-By.ensures c.requires.able c.live-live.ensures c.quick.array_long
    (sym c.halves_in_range.ensures ∙ c.if-halves_in_range.true) low in
    rw e (fits-by (fits-common c.requires.able fits) tt)

pub returns-then-after-le-LARGEST_NUMBER-clause-answer : goal.returns-then-after-le-LARGEST_NUMBER-clause-answer
returns-then-after-le-LARGEST_NUMBER-clause-answer c =
    let after = common_for c.args.entries.now c.args.asked in
    let product : FitsSigned w64 c.product.result = search rules in
    let e = made _ _ _ _ c.in-By.ensures c.requires.able c.product.result c.product.ensures product in
    let low : after ≤ℤ pos largest_number = grind (arith, ints) in
    let fits = fits-true _ _ _ _ c.in-By.ensures c.requires.able c.live-live.ensures c.quick.array_long
    (sym c.halves_in_range.ensures ∙ c.if-halves_in_range.true) low in
    let half : FitsSigned w32 after = fits-by (fits-common c.requires.able fits) tt in
    rw (e, to_z-of_z half) (ap (λ b. pivoted_by b after) (sym fits))

pub returns-else-halves_in_range-clause-answer : goal.returns-else-halves_in_range-clause-answer
returns-else-halves_in_range-clause-answer c =
    let l = c.args.entries.now in
    let a = c.args.asked in
    let product : FitsSigned w64 c.product.result = search rules in
    let e = made _ _ _ _ c.in-By.ensures c.requires.able c.product.result c.product.ensures product in
    let beyond : fits_for l a ≡ false = elim c.else-halves_in_range.branch [
      | else-halves_in_range-via-then-halves_in_range+else-after-le-LARGEST_NUMBER w ↦
          let up = w.if-after-le-LARGEST_NUMBER.false in beyond-up c.requires.able (grind (arith, ints))
      | else-halves_in_range-via-else-halves_in_range w ↦
          small-cells _ _ _ (sym (cells_are _ _ _ _ c.in-By.ensures c.requires.able c.live-live.ensures
          c.quick.array_long) ∙ sym c.halves_in_range.ensures ∙ w.if-halves_in_range.false)
    ] in
    ap (λ b. pivoted_by b (common_for l a)) (sym beyond)
