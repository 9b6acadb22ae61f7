-- A divisor that trials settle on is the pivot's.
--   first-divides, first-multiple, first_above   the common number times the border's divisor: it divides the new
--                                                common number, the divisor divides it, and it is above 0
--   found-by, -cells, -most                      what was found is the definition's
--   exceeds-beyond                               a cell beyond the range
--   settled-ends                                 what trials from a first divisor end with
--   after-up, within-up, beyond-up               the new common number is above 0, in range or beyond
use Prim.Native.Nat.{ℕ, ◌*◌, ◌/◌, ◌%◌, ◌≤◌, ◌<◌, ◌∣◌}
use native.Mathlib.Nat.{div-add-mod, le_refl, lt_of_le_of_lt, lt_of_mul-lt-mul_left, mod-eq-zero_of_dvd, mul-le-mul}
use native.Mathlib.Nat.{dvd_trans, dvd_antisymm, dvd_refl, le_of_dvd, le_trans, mul_comm, mul-dvd-mul, mul-pos}
use native.Mathlib.Nat.{pos_of_dvd_of_pos}
use native.Mathlib.Decide.{ℕ_discrete}
use native.Mathlib.Omega.{arith}
use mathlib.Core.Path.{◌≡◌, refl, ap, ap₂, sym, subst, ◌∙◌}
use mathlib.Core.Bool.{true, false}
use mathlib.Core.List.{List, [], ◌∷◌}
use mathlib.Core.Logic.{◌≢◌}
use borrow.Author.Tests.{eq-eqb, ne_eqb}
use lib.Dec.{eqb}
use lib.IntN.{ℤ, pos, neg_ℤ, nat_abs, ◌+ℤ◌, ◌*ℤ◌}
use lib.ListN.{get_or, length}
use lib.Signed.{quot_z, ◌≤ℤ◌, ◌<ℤ◌, clash_ℤ}
use Rattle.whole.proofs.Ring.Reify.{reify}
use Rattle.whole.specs.Divisors.{gcd}
use Rattle.whole.proofs.Numbers.Division.{size-quot}
use Rattle.whole.proofs.Numbers.Divisors.{fold-times, gcd-dvd-l, gcd-times}
use Rattle.whole.proofs.Numbers.Sizes.{abs-*, size-pos, within-hi}
use Rattle.whole.proofs.Lists.Tables.{filled_in}
use Rattle.whole.proofs.Tells.{tells-within, tells-true, tells-false}
use Rattle.whole.proofs.Numbers.Tests.{under-size}
use Rattle.whole.proofs.Ring.Tools.{ring-at}
use Rattle.divisor.specs.Cells.{divisor_below, quotients}
use Rattle.divisor.specs.Signs.{signed_by}
use Rattle.divisor.proofs.Laws.Cells.{cells-divide, cells-greatest, divisor-above-zero}
use Rattle.divisor.proofs.Laws.Signs.{size-signed, signed-again, signed-quotient-up}
use Rattle.rules.specs.Sizes.{largest_number}
use Rattle.pivot.specs.declared.asked.Asked.{Asked}
use Rattle.pivot.specs.declared.border.Border.{Border}
use Rattle.pivot.specs.declared.settle.Settled.{Settled}
use Rattle.pivot.specs.declared.settle.Settled.TheVariants as ends
use Rattle.pivot.specs.Asked.{Able}
use Rattle.layout.specs.Layout.{most_entries, flat, live, entry_in}
use Rattle.pivot.specs.Pivot.{mixed_laid, mixed_cell, mixed_at, product, mix, by, common_after, entries_after}
use Rattle.pivot.specs.Pivot.{StartsWith, fits_after, Pivotable, in_range}
use Rattle.pivot.specs.Border.{raised_by, border_at, border_for, border_divisor, difference_at}
use Rattle.pivot.specs.Trials.{DivisorFound, Exceeds, SettledAs, EndsAs}
use Rattle.pivot.proofs.Laws.Trial.Border.{beside-is, above-is, difference-is}
use Rattle.pivot.proofs.Laws.Divides.{over-neg, over-sum, over-sizes, quotient_is, back-divides}
use Rattle.layout.proofs.Laws.Layout.{flat-live, row-flat, column-flat}
use Rattle.pivot.proofs.Laws.Ranges.{small-cell, small-common}
use Rattle.pivot.proofs.Laws.Wide.Reductions.{nonzero-product, nonzero-by}

-- what divides f times a number and f times the first of others divides f times their divisor
divisor-times : (k : ℕ) (l : List ℤ) (z : ℤ) (d f : ℕ) → d ∣ f * nat_abs z →
    ((i : ℕ) → i < k → d ∣ f * nat_abs (get_or l i (pos 0))) → d ∣ f * divisor_below k l z
unfolding divisor_below
divisor-times k l z d f p q = fold-times k (λ i. nat_abs (get_or l i (pos 0))) (nat_abs z) d f p q

module _ {m n : ℕ} {l : List ℤ} {c : ℤ} {p q : ℕ} (h : Pivotable m n l c p q) where
  abbrev T : ℕ
  T = divisor_below (live m n) (mix m n l c p q) (product m n l c p q)

  abbrev new : ℤ
  new = product m n l c p q

  abbrev A : ℕ → ℕ → ℤ
  A = entry_in m n l

  abbrev mixes : List ℤ
  mixes = mix m n l c p q

  mix-at : (k : ℕ) → k < live m n → get_or mixes k (pos 0) ≡ mixed_at m n c l p q k
  mix-at k b = filled_in most_entries (pos 0) (live m n) (mixed_at m n c l p q) k b

  T-new : T ∣ nat_abs new
  T-new = (cells-divide mixes new (live m n)).0

  T-mix : (k : ℕ) → k < live m n → T ∣ nat_abs (mixed_at m n c l p q k)
  T-mix k b = subst (λ z. T ∣ nat_abs z) (mix-at k b) ((cells-divide mixes new (live m n)).1 k b)

  T-cell : (i j : ℕ) → i < m → j < n → T ∣ nat_abs (mixed_cell m n c l p q i j)
  T-cell i j a b = subst (λ z. T ∣ nat_abs z)
      (ap₂ (mixed_cell m n c l p q) (row-flat m n i j a b) (column-flat m n i j a b))
      (T-mix (flat m n i j) (flat-live m n i j a b))

  T-pos : 0 < T
  T-pos = divisor-above-zero mixes new (live m n) (nonzero-product h)

  -- ---- the first divisor that is tried

  swapped : (a b : ℤ) → a *ℤ b ≡ b *ℤ a
  swapped a b = ring-at (a ∷ b ∷ []) (search reify depth 30) refl

  T-pivot : T ∣ nat_abs (c *ℤ A p q)
  T-pivot = subst (λ z. T ∣ nat_abs z) (swapped (A p q) c) T-new

  T-common : T ∣ nat_abs (c *ℤ c)
  unfolding mixed_laid
  T-common = subst (λ z. T ∣ nat_abs z) at (T-cell p q h.in_rows h.in-columns)
    where
      at : mixed_cell m n c l p q p q ≡ c *ℤ c
      at = rw (eq-eqb p p refl, eq-eqb q q refl) refl

  T-beside : (i : ℕ) → i < m → T ∣ nat_abs (c *ℤ raised_by (eqb i p) (A i q) c)
  unfolding mixed_laid
  T-beside i b = go (ℕ_discrete i p)
    where
      off : i ≢ p → mixed_cell m n c l p q i q ≡ A i q *ℤ c
      off o = rw (ne_eqb i p o, eq-eqb q q refl) refl

      both : (c a : ℤ) → c *ℤ a +ℤ c *ℤ c ≡ c *ℤ (a +ℤ c)
      both c a = ring-at (c ∷ a ∷ []) (search reify depth 30) refl

      go : Dec (i ≡ p) → T ∣ nat_abs (c *ℤ raised_by (eqb i p) (A i q) c)
      go (yes e) = rw (eq-eqb i p e, e) (subst (λ z. T ∣ nat_abs z) (both c (A p q))
          (over-sum T (c *ℤ A p q) (c *ℤ c) T-pivot T-common))
      go (no o) = rw (ne_eqb i p o)
          (subst (λ z. T ∣ nat_abs z) (off o ∙ swapped (A i q) c) (T-cell i q b h.in-columns))

  T-above : (j : ℕ) → j < n → T ∣ nat_abs (c *ℤ raised_by (eqb j q) (A p j) (neg_ℤ c))
  unfolding mixed_laid
  T-above j b = go (ℕ_discrete j q)
    where
      off : j ≢ q → mixed_cell m n c l p q p j ≡ neg_ℤ (c *ℤ A p j)
      off o = rw (eq-eqb p p refl, ne_eqb j q o) refl

      back : (c a : ℤ) → neg_ℤ (neg_ℤ (c *ℤ a)) ≡ c *ℤ a
      back c a = ring-at (c ∷ a ∷ []) (search reify depth 30) refl

      both : (c a : ℤ) → c *ℤ a +ℤ neg_ℤ (c *ℤ c) ≡ c *ℤ (a +ℤ neg_ℤ c)
      both c a = ring-at (c ∷ a ∷ []) (search reify depth 30) refl

      go : Dec (j ≡ q) → T ∣ nat_abs (c *ℤ raised_by (eqb j q) (A p j) (neg_ℤ c))
      go (yes e) = rw (eq-eqb j q e, e) (subst (λ z. T ∣ nat_abs z) (both c (A p q))
          (over-sum T (c *ℤ A p q) (neg_ℤ (c *ℤ c)) T-pivot (over-neg T (c *ℤ c) T-common)))
      go (no o) = rw (ne_eqb j q o) (subst (λ z. T ∣ nat_abs z) (back c (A p j))
          (over-neg T (neg_ℤ (c *ℤ A p j)) (subst (λ z. T ∣ nat_abs z) (off o) (T-cell p j h.in_rows b))))

  -- the border's divisor, and the first divisor that is tried
  abbrev made : Border
  made = border_at m n l c p q

  abbrev both : ℕ
  both = gcd (nat_abs (A p q)) (nat_abs c)

  abbrev upper : ℕ
  upper = divisor_below n made.aboves (pos both)

  abbrev first : ℕ
  first = nat_abs c * border_divisor made c

  pub first-multiple : T ∣ first
  first-multiple = divisor-times m made.besides (pos upper) T (nat_abs c)
      (divisor-times n made.aboves (pos both) T (nat_abs c)
      (gcd-times (nat_abs (A p q)) (nat_abs c) T (nat_abs c) (over-sizes T c (A p q) T-pivot)
      (over-sizes T c c T-common))
      (λ j b. over-sizes T c _ (subst (λ z. T ∣ nat_abs (c *ℤ z)) (sym (above-is m n l c p q j b)) (T-above j b))))
      (λ i b. over-sizes T c _ (subst (λ z. T ∣ nat_abs (c *ℤ z)) (sym (beside-is m n l c p q i b)) (T-beside i b)))

  border-divides : border_divisor made c ∣ nat_abs (A p q)
  border-divides = dvd_trans _ (cells-divide made.besides (pos upper) m).0
      (dvd_trans _ (cells-divide made.aboves (pos both) n).0 (gcd-dvd-l (nat_abs (A p q)) (nat_abs c)))

  pub first-divides : first ∣ nat_abs new
  first-divides = subst (λ z. first ∣ z) (mul_comm (nat_abs c) (nat_abs (A p q)) ∙ sym (abs-* (A p q) c))
      (mul-dvd-mul (nat_abs c) (border_divisor made c) (dvd_refl (nat_abs c)) border-divides)

  pub first_above : 0 < first
  first_above =
      mul-pos (size-pos c h.common-nonzero) (pos_of_dvd_of_pos border-divides (size-pos (A p q) h.pivot-nonzero))

  -- ---- what was found

  module _ (from : ℕ) (some : 0 < from) (divides : from ∣ nat_abs new) (multiple : T ∣ from) {z : ℤ} {old out : List ℤ}
      (F : DivisorFound l (border_at m n l c p q) (signed_by new from) old z out) where
    cell : (k : ℕ) → k < live m n → difference_at l (border_at m n l c p q) k ≡ mixed_at m n c l p q k
    cell k b = difference-is m n l c p q k b

    size_is : nat_abs z ≡ T
    size_is = dvd_antisymm
        (cells-greatest mixes new (live m n) (nat_abs z)
        (dvd_trans (nat_abs z) (subst (λ k. nat_abs z ∣ k) (size-signed new from) F.divides) divides)
        (λ k b. subst (λ x. nat_abs z ∣ nat_abs x) (cell k b ∙ sym (mix-at k b))
        (back-divides (get_or out k (pos 0)) z _ (F.right k b))))
        (F.greatest T (subst (λ k. T ∣ k) (sym (size-signed new from)) multiple)
        (λ k b. subst (λ x. T ∣ nat_abs x) (sym (cell k b)) (T-mix k b)))

    found-by : z ≡ by m n l c p q
    found-by = F.sign-is ∙ signed-again new from (nat_abs z) some ∙ ap (signed_by new) size_is

    nonzero : z ≢ pos 0
    nonzero e = nonzero-by h (sym found-by ∙ e)

    each : (k : ℕ) → k < live m n → get_or out k (pos 0) ≡ get_or (entries_after m n l c p q) k (pos 0)
    each k b = sym (quotient_is (get_or out k (pos 0)) z _ nonzero (F.right k b))
        ∙ ap₂ quot_z (cell k b ∙ sym (mix-at k b)) found-by
        ∙ sym (filled_in most_entries (pos 0) (live m n) (quotients mixes (by m n l c p q)) k b)

    found-cells : length old ≡ most_entries → StartsWith (live m n) (entries_after m n l c p q) out
    found-cells e = record { long = F.apart.long ∙ e; same = each }

    -- .. and no larger than what was tried first
    found-most : nat_abs z ≤ from
    found-most = le_of_dvd some (subst (λ k. nat_abs z ∣ k) (size-signed new from) F.divides)

  -- ---- a cell beyond the range

  wider : (size x : ℕ) → T ∣ size → 0 < size → T ∣ x → size * largest_number < x → largest_number < x / T
  wider size x d o e b = lt_of_mul-lt-mul_left T (lt_of_le_of_lt (mul-le-mul (le_of_dvd o d) (le_refl largest_number))
      (subst (λ y. size * largest_number < y) (sym exact) b))
    where
      exact : T * (x / T) ≡ x
      exact = let z : x % T ≡ 0 = mod-eq-zero_of_dvd T e in omega (arith, div-add-mod x T)

  exceeds-beyond : (from : ℕ) → T ∣ from → Exceeds l (border_at m n l c p q) (signed_by new from) →
      fits_after m n l c p q ≡ false
  exceeds-beyond from multiple X =
      small-cell (live m n) (entries_after m n l c p q) (common_after m n l c p q) X.place X.in-live
      (tells-false (tells-within largest_number _)
      (λ w. let h = w.within in let y : ⊥ = omega (arith, size_is, over) in y))
    where
      number : ℤ
      number = mixed_at m n c l p q X.place

      over : largest_number < nat_abs number / T
      over = wider X.size (nat_abs number)
          (X.greatest T (subst (λ k. T ∣ k) (sym (size-signed new from)) multiple)
          (λ k b. subst (λ x. T ∣ nat_abs x) (sym (difference-is m n l c p q k b)) (T-mix k b)))
          X.some_size (T-mix X.place X.in-live)
          (subst (λ x. X.size * largest_number < nat_abs x)
          (difference-is m n l c p q X.place X.in-live) X.above)

      size_is : nat_abs (get_or (entries_after m n l c p q) X.place (pos 0)) ≡ nat_abs number / T
      size_is = ap nat_abs
          (filled_in most_entries (pos 0) (live m n) (quotients mixes (by m n l c p q)) X.place X.in-live
          ∙ ap (λ y. quot_z y (by m n l c p q)) (mix-at X.place X.in-live))
          ∙ size-quot number (by m n l c p q) ∙ ap (λ k. nat_abs number / k) (size-signed new T)

  -- ---- the new common number

  after-up : pos 0 ≤ℤ common_after m n l c p q
  after-up = signed-quotient-up new T T-pos

  pub within-up : common_after m n l c p q ≤ℤ pos largest_number → in_range (common_after m n l c p q) ≡ true
  within-up b = tells-true (tells-within largest_number (common_after m n l c p q))
      (record { within = under-size largest_number 0 (common_after m n l c p q) after-up b })

  pub beyond-up : pos largest_number <ℤ common_after m n l c p q → fits_after m n l c p q ≡ false
  beyond-up b = small-common (live m n) (entries_after m n l c p q) (common_after m n l c p q)
      (tells-false (tells-within largest_number (common_after m n l c p q)) (λ w. clash_ℤ b (within-hi w)))

-- ---- what trials from a first divisor end with, for a pivot that is asked for

module _ {l : List ℤ} {a : Asked} (h : Able l a) (from : ℕ) (some : 0 < from) (few : from ≤ largest_number) where
  abbrev raw : ℤ
  raw = product a.rows a.columns l a.common a.spot.row.0 a.spot.column.0

  pub settled-ends : from ∣ nat_abs raw → T h ∣ from → (w : Settled) (old out : List ℤ) →
      length old ≡ most_entries → SettledAs l (border_for l a) (signed_by raw from) old w out → EndsAs l a w out
  settled-ends divides multiple (ends.By z) old out e F = record {
    by-is = found-by h from some divides multiple F;
    by-within = record { within = le_trans (found-most h from some divides multiple F) few };
    cells_are = found-cells h from some divides multiple F e;
  }
  settled-ends divides multiple ends.Beyond old out e X = exceeds-beyond h from multiple X
  settled-ends divides multiple ends.Open old out e t = tt
