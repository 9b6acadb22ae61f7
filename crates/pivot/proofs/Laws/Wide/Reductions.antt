-- The parts of a pivot by place: the product that is the new common number, the mixed entries, their divisor.
--   pivot-in, end-in                             places in range
--   within-product, within-size, mix-within      what bounds each number
--   size-most, quotient_fits                     .. and the divisor and the new common number
--   nonzero-product, nonzero-by                  neither the product nor the divisor is 0
--   fits-common, fits-entries                    what passes the range test
--   divided-all                                  the entries divided in place
--   kept-all                                     .. and the cells in use kept over those of an array
use mathlib.Core.Path.{◌≡◌, ap, ap₂, subst, sym, ◌∙◌}
use mathlib.Core.Bool.{true}
use mathlib.Core.List.{List, ◌++◌}
use mathlib.Core.Logic.{◌≢◌}
use Prim.Native.Nat.{ℕ, ◌+◌, ◌*◌, ◌≤◌, ◌<◌}
use native.Mathlib.Nat.{le_trans}
use native.Mathlib.Omega.{arith}
use lib.Dec.{lit≤}
use lib.IntN.{ℤ, pos, ◌*ℤ◌}
use lib.ListN.{drop, get_or, length, length-drop, length-replicate, replicate}
use lib.Seq.{ext_get_or, get_or-drop}
use mir.Syntax.{w64}
use mir.Val.{SFits}
use Rattle.whole.specs.Numbers.{Within, AllWithin}
use Rattle.whole.specs.Tables.{filled, table}
use Rattle.whole.proofs.Lists.Below.{all-each}
use Rattle.whole.proofs.Bools.{and-true}
use Rattle.whole.proofs.Lists.Prefix.{filled-rest}
use Rattle.whole.proofs.Numbers.Division.{within-quot}
use Rattle.whole.proofs.Lists.Tables.{filled_in, replicate-at, table_same}
use Rattle.whole.proofs.Tells.{tells-within}
use Rattle.whole.proofs.Numbers.Sizes.{within-*, within-le, product-nonzero, all-within-filled}
use Rattle.divisor.specs.Cells.{largest_size, divided_cells, divisor_below, quotients}
use Rattle.divisor.proofs.Laws.Cells.{divisor-above-zero, divisor-most, fits-size}
use Rattle.divisor.proofs.Laws.Signs.{signed-nonzero}
use Rattle.rules.specs.Sizes.{largest_number}
use Rattle.layout.specs.Layout.{most_entries, flat, row_at, column_at, live}
use Rattle.pivot.specs.Pivot.{mixed_at, product, mix, by, common_after, entries_after, fits_after, Pivotable}
use Rattle.pivot.specs.Pivot.{StartsWith, in_range, kept_cells, small_below}
use Rattle.layout.proofs.Laws.Layout.{flat_in, live-most}
use Rattle.pivot.proofs.Laws.Wide.Mixes.{mixed-within}

module _ {m n : ℕ} {l : List ℤ} {c : ℤ} {p q : ℕ} (h : Pivotable m n l c p q) where
  abbrev new : ℤ
  new = product m n l c p q

  abbrev mixes : List ℤ
  mixes = mix m n l c p q

  pub pivot-in : flat m n p q < most_entries
  pivot-in = flat_in m n p q h.in_rows h.in-columns h.few-rows h.few-columns

  pub end-in : live m n ≤ most_entries
  end-in = live-most m n h.few-rows h.few-columns

  within-product : (k : ℕ) → Within (get_or l k (pos 0) *ℤ c) (largest_number * largest_number)
  within-product k = within-* (h.all-within.each k) h.common-within

  pub within-size : Within new largest_size
  within-size = within-le (within-product (flat m n p q)) (lit≤ tt)

  pub nonzero-product : new ≢ pos 0
  nonzero-product = product-nonzero h.pivot-nonzero h.common-nonzero

  pub size-most : divisor_below (live m n) mixes new ≤ largest_size
  size-most = le_trans (divisor-most mixes new (live m n) nonzero-product) within-size.within

  pub nonzero-by : by m n l c p q ≢ pos 0
  nonzero-by = signed-nonzero new (divisor_below (live m n) mixes new)
      (divisor-above-zero mixes new (live m n) nonzero-product)

  pub mix-within : AllWithin mixes largest_size
  mix-within = all-within-filled most_entries (live m n) (mixed_at m n c l p q)
      (λ k d. mixed-within h.common-within h.all-within m n p q (row_at m n k) (column_at m n k))

  pub quotient_fits : SFits w64 (common_after m n l c p q)
  quotient_fits = fits-size (within-quot (by m n l c p q) within-size)

  abbrev after : ℕ → ℤ
  after k = get_or (entries_after m n l c p q) k (pos 0)

  pub fits-common : fits_after m n l c p q ≡ true → Within (common_after m n l c p q) largest_number
  unfolding small_below
  fits-common e = (tells-within largest_number (common_after m n l c p q)).if-true (and-true _ _ e).0

  fits-cell : fits_after m n l c p q ≡ true → (k : ℕ) → k < live m n → Within (after k) largest_number
  unfolding small_below
  fits-cell e k b = (tells-within largest_number (after k)).if-true
      (all-each (live m n) (λ i. in_range (after i)) (and-true (in_range (common_after m n l c p q)) _ e).1 k b)

  pub fits-entries : fits_after m n l c p q ≡ true → AllWithin (entries_after m n l c p q) largest_number
  fits-entries e = let f = quotients mixes (by m n l c p q) in all-within-filled most_entries (live m n) f
      (λ k b. subst (λ z. Within z largest_number) (filled_in most_entries (pos 0) (live m n) f k b) (fits-cell e k b))

-- the mixed entries divided in place are the definition's
pub divided-all : (e : ℕ) (f : ℕ → ℤ) (g : ℤ) → let l = filled most_entries (pos 0) e f in
    divided_cells e l g ≡ filled most_entries (pos 0) e (quotients l g)
unfolding filled
divided-all e f g =
    ap (λ r. table e (quotients (filled most_entries (pos 0) e f) g) ++ r) (filled-rest most_entries (pos 0) f e)

-- cells that an array has are kept over entries whose cells that are not in use are 0
pub kept-all : (e : ℕ) (f : ℕ → ℤ) (next old : List ℤ) → StartsWith e (filled most_entries (pos 0) e f) next →
    length old ≡ most_entries → ((i : ℕ) → e ≤ i → get_or old i (pos 0) ≡ pos 0) →
    kept_cells e next old ≡ filled most_entries (pos 0) e f
unfolding filled
kept-all e f next old b long unused = ap₂ (λ (l r : List ℤ). l ++ r)
    (table_same e (λ i. get_or next i (pos 0)) f (λ i h. b.same i h ∙ filled_in most_entries (pos 0) e f i h))
    (ext_get_or (pos 0) (drop e old) (drop e blank) (simp (length-drop, length-replicate) (omega (arith, long)))
    (λ i h. get_or-drop e old i (pos 0) ∙ unused (e + i) (omega arith)
    ∙ sym (get_or-drop e blank i (pos 0) ∙ replicate-at most_entries (pos 0) (e + i))))
  where
    blank : List ℤ
    blank = replicate most_entries (pos 0)
