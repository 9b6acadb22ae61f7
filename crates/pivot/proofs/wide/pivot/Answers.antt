-- `pivot::wide::pivot` meets its contract: each call gives the definition's part, and every product and quotient fits.
-- Assumes nothing.
use Rattle.std.proofs.Common.{rules, arith, refl, ap, ap₂, sym, subst, ◌∙◌, ◌≡◌}
use Rattle.std.proofs.Common.{◌≤◌, ◌<◌, Bool, ℕ, ℤ, pos, get_or, List, ◌++◌}
use Rattle.std.proofs.Common.{take, drop, length, FitsSigned, w32, w64, to_z, of_z, to_z-of_z}
use native.Mathlib.Decide.{dec_lt}
use lib.ListN.{get_or-append, get_or-eq_default, length-append, length-drop, length-take}
use Rattle.std.proofs.lemmas.List.{get_or-take, length-take-le}
use lib.Signed.{quot_z}
use Rattle.whole.specs.Numbers.{Within, AllWithin}
use Rattle.whole.proofs.Numbers.Division.{bits-nonzero}
use Rattle.whole.proofs.Numbers.Sizes.{fits-by}
use Rattle.whole.proofs.Lists.Tables.{filled-length, table-length}
use Rattle.divisor.specs.Cells.{divided_cells, divisor_below}
use Rattle.divisor.specs.Signs.{signed_by}
use Rattle.divisor.proofs.Laws.Cells.{divisor-front, divided-front}
use Rattle.rules.specs.Sizes.{largest_number}
use Rattle.layout.specs.Layout.{live, most_entries}
use Rattle.pivot.specs.Asked.{common_for, entries_for}
use Rattle.pivot.specs.Pivot.{Pivotable, PutBy, small_below, product, mix, by, pivoted_by}
use Rattle.pivot.specs.Pivot.{common_after, entries_after, fits_after}
use Rattle.pivot.proofs.Laws.Ranges.{small_below-same}
use Rattle.pivot.proofs.Laws.Wide.Reductions.{end-in, mix-within, size-most}
use Rattle.pivot.proofs.Laws.Wide.Reductions.{nonzero-by, quotient_fits, divided-all, fits-common, fits-entries}
use Rattle.pivot.proofs.wide.pivot.Goals as goal

-- a function of live cells, an array and a number, at equal arguments
alike : {A : Type 0} (f : ℕ → List ℤ → ℤ → A) {e e' : ℕ} {l l' : List ℤ} {z z' : ℤ} →
    e ≡ e' → l ≡ l' → z ≡ z' → f e l z ≡ f e' l' z'
alike f {e} {e'} {l} {l'} {z} {z'} a b c = ap (λ e. f e l z) a ∙ ap₂ (f e') b c

within-front : {l : List ℤ} {most : ℕ} (k : ℕ) → AllWithin l most → AllWithin (take k l) most
within-front {l} {most} k h = record { each = λ i. go i (dec_lt i k) }
  where
    go : (i : ℕ) → Dec (i < k) → Within (get_or (take k l) i (pos 0)) most
    go i (yes b) = rw (get_or-take k l i (pos 0) b) (h.each i)
    go i (no o) = rw (get_or-eq_default (take k l) (pos 0) {n = i} (rw (length-take k l) (omega arith)))
        (record { within = omega arith })

module _ {m n : ℕ} {l : List ℤ} {c : ℤ} {p q : ℕ} (h : Pivotable m n l c p q) {end : ℕ} {mixes : List ℤ} {new : ℤ}
    (end-is : end ≡ live m n) (mixes-are : mixes ≡ mix m n l c p q) (new-is : new ≡ product m n l c p q) where
  room : end ≤ length mixes
  room = subst (λ k. end ≤ k) (sym (ap length mixes-are ∙ filled-length most_entries (pos 0) _ _ (end-in h)))
      (rw end-is (end-in h))

  module _ (fit-new : FitsSigned w64 new) {g : ℕ}
      (g-is : g ≡ divisor_below (length (take end mixes)) (take end mixes) (to_z w64 (of_z w64 new))) where
    -- the divisor
    divisor-right : g ≡ divisor_below (live m n) (mix m n l c p q) (product m n l c p q)
    divisor-right = (simp (to_z-of_z fit-new) at g-is) ∙ divisor-front end mixes room new
        ∙ alike divisor_below end-is mixes-are new-is

    module _ {z : ℤ} (fit-z : FitsSigned w64 z) (z-is : z ≡ signed_by (to_z w64 (of_z w64 new)) g) where
      -- .. with its sign
      by-right : z ≡ by m n l c p q
      by-right = (simp (to_z-of_z fit-new) at z-is) ∙ ap₂ signed_by new-is divisor-right

      quotient-right : quot_z new z ≡ common_after m n l c p q
      quotient-right = ap₂ quot_z new-is by-right

      fit-after : FitsSigned w64 (quot_z new z)
      fit-after = rw quotient-right (quotient_fits h)

      -- the common number after it
      after-right : to_z w64 (of_z w64 (quot_z (to_z w64 (of_z w64 new)) (to_z w64 (of_z w64 z))))
          ≡ common_after m n l c p q
      after-right = simp (to_z-of_z fit-new, to_z-of_z fit-z, to_z-of_z fit-after) quotient-right

      module _ {cells : List ℤ}
          (cells_are : cells ≡ divided_cells (length (take end mixes)) (take end mixes) (to_z w64 (of_z w64 z))) where
        -- the entries after it
        divided-right : cells ++ drop end mixes ≡ entries_after m n l c p q
        divided-right = ap (λ t. t ++ drop end mixes) (simp (to_z-of_z fit-z) at cells_are)
            ∙ divided-front end mixes room z ∙ alike divided_cells end-is mixes-are by-right
            ∙ divided-all (live m n) _ (by m n l c p q)

        long : length cells ≡ end
        long = ap length cells_are ∙ simp (length-append, length-drop, table-length)
            (let e = length-take-le end mixes room in omega arith)

        -- .. and their test
        test-right : {r : Bool} → r ≡ small_below (length cells) cells
            (to_z w64 (of_z w64 (quot_z (to_z w64 (of_z w64 new)) (to_z w64 (of_z w64 z))))) →
            r ≡ fits_after m n l c p q
        test-right {r} e = e ∙ ap₂ (λ k y. small_below k cells y) long after-right
            ∙ small_below-same end cells (entries_after m n l c p q) (common_after m n l c p q)
            (λ i b. sym (get_or-append cells (drop end mixes) (pos 0) i (rw long b))
            ∙ ap (λ k. get_or k i (pos 0)) divided-right)
            ∙ alike small_below end-is refl refl

pub slice_bounds-cells-end : goal.slice_bounds-cells-end
slice_bounds-cells-end c =
    room c.args.turn.able c.live-end.ensures c.mixed_entries-cells.ensures c.product-product.ensures

pub slice_bounds-live-end : goal.slice_bounds-live-end
slice_bounds-live-end c = sym (length-take-le c.live-end.result c.mixed_entries-cells.result
    (room c.args.turn.able c.live-end.ensures c.mixed_entries-cells.ensures c.product-product.ensures))

pub signed-by-requires : goal.signed-by-requires
signed-by-requires c = rw (divisor-right c.args.turn.able c.live-end.ensures c.mixed_entries-cells.ensures
    c.product-product.ensures (search rules) c.divisor_of.ensures) (size-most c.args.turn.able)

pub divide-requires : goal.divide-requires
divide-requires c =
    let by : FitsSigned w64 c.signed-by.result = search rules in
    let z = by-right c.args.turn.able c.live-end.ensures c.mixed_entries-cells.ensures c.product-product.ensures
    (search rules) c.divisor_of.ensures by c.signed-by.ensures in record {
      divides = simp (to_z-of_z by) (record { nonzero = rw z (nonzero-by c.args.turn.able) });
      all_within = within-front c.live-end.result (rw c.mixed_entries-cells.ensures (mix-within c.args.turn.able));
    }

pub nonzero_div-after : goal.nonzero_div-after
nonzero_div-after c =
    let new : FitsSigned w64 c.product-product.result = search rules in
    let by : FitsSigned w64 c.signed-by.result = search rules in
    let z = by-right c.args.turn.able c.live-end.ensures c.mixed_entries-cells.ensures c.product-product.ensures
    new c.divisor_of.ensures by c.signed-by.ensures in (
      bits-nonzero w64 c.signed-by.result by (rw z (nonzero-by c.args.turn.able)),
      simp (to_z-of_z new, to_z-of_z by) (fit-after c.args.turn.able c.live-end.ensures c.mixed_entries-cells.ensures
          c.product-product.ensures new c.divisor_of.ensures by c.signed-by.ensures),
    )

pub returns-then-not-all_in_range : goal.returns-then-not-all_in_range
returns-then-not-all_in_range c =
    let a = c.args.turn.asked in
    let l = c.args.turn.entries.now in
    let t = test-right c.args.turn.able c.live-end.ensures c.mixed_entries-cells.ensures c.product-product.ensures
    (search rules) c.divisor_of.ensures (search rules) c.signed-by.ensures c.divide.ensures c.all_in_range.ensures in
    let e = sym c.if-not-all_in_range.true ∙ t in record {
      answer = ap (λ b. pivoted_by b (common_for l a)) e;
      numbers = subst (λ b. PutBy b (live a.rows a.columns) (entries_for l a) c.args.next.now) e tt;
    }

pub halves_of-requires : goal.halves_of-requires
halves_of-requires c =
    let t = test-right c.args.turn.able c.live-end.ensures c.mixed_entries-cells.ensures c.product-product.ensures
    (search rules) c.divisor_of.ensures (search rules) c.signed-by.ensures c.divide.ensures c.all_in_range.ensures in
    let d = divided-right c.args.turn.able c.live-end.ensures c.mixed_entries-cells.ensures c.product-product.ensures
    (search rules) c.divisor_of.ensures (search rules) c.signed-by.ensures c.divide.ensures in
    subst (λ (l : List ℤ). AllWithin l largest_number) (sym d)
    (fits-entries c.args.turn.able (sym t ∙ c.if-not-all_in_range.false))

pub overflow_cast-result : goal.overflow_cast-result
overflow_cast-result c =
    let t = test-right c.args.turn.able c.live-end.ensures c.mixed_entries-cells.ensures c.product-product.ensures
    (search rules) c.divisor_of.ensures (search rules) c.signed-by.ensures c.divide.ensures c.all_in_range.ensures in
    let after = after-right c.args.turn.able c.live-end.ensures c.mixed_entries-cells.ensures c.product-product.ensures
    (search rules) c.divisor_of.ensures (search rules) c.signed-by.ensures in
    rw after (fits-by (fits-common c.args.turn.able (sym t ∙ c.if-not-all_in_range.false)) tt)

pub returns : goal.returns
returns c =
    let a = c.args.turn.asked in
    let l = c.args.turn.entries.now in
    let t = test-right c.args.turn.able c.live-end.ensures c.mixed_entries-cells.ensures c.product-product.ensures
    (search rules) c.divisor_of.ensures (search rules) c.signed-by.ensures c.divide.ensures c.all_in_range.ensures in
    let d = divided-right c.args.turn.able c.live-end.ensures c.mixed_entries-cells.ensures c.product-product.ensures
    (search rules) c.divisor_of.ensures (search rules) c.signed-by.ensures c.divide.ensures in
    let after = after-right c.args.turn.able c.live-end.ensures c.mixed_entries-cells.ensures c.product-product.ensures
    (search rules) c.divisor_of.ensures (search rules) c.signed-by.ensures in
    let e = sym c.if-not-all_in_range.false ∙ t in
    let half : FitsSigned w32 (common_for l a) = fits-by (fits-common c.args.turn.able (sym e)) tt in
    let put_is = c.halves_of.ensures ∙ d in record {
      answer = rw (after, to_z-of_z half) (ap (λ b. pivoted_by b (common_for l a)) e);
      numbers = subst (λ b. PutBy b (live a.rows a.columns) (entries_for l a) c.halves_of.result) e (record {
        long = ap length put_is ∙ filled-length most_entries (pos 0) _ _ (end-in c.args.turn.able);
        same = λ i h. ap (λ k. get_or k i (pos 0)) put_is;
      });
    }
