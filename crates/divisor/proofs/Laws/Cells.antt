-- The divisor and the quotients of the first cells.
--   divisor-none, divisor-more          no cells, one more
--   cells-divide, cells-greatest        it divides the number and each cell, and whatever does so divides it
--   divisor-one                         1 stays 1
--   divisor-above-zero, divisor-most    above 0, and no more than the number's size
--   divisor-same, divisor-front         equal cells; the first cells taken off
--   divided-front                       .. and divided in place
--   fits-size                           a number with a size fits 64 bits
use Prim.Native.Nat.{ℕ, zero, suc, ◌+◌, ◌≤◌, ◌<◌, ◌∣◌}
use native.Mathlib.Nat.{dvd-one, lt_of_le_of_lt}
use native.Mathlib.Omega.{arith}
use native.Mathlib.Numerals.{add-one}
use mathlib.Core.Path.{◌≡◌, refl, ap, ap₂, subst, ◌∙◌}
use mathlib.Core.Logic.{◌≢◌}
use mathlib.Core.List.{List, ◌++◌, append-nil}
use lib.Dec.{lit<}
use lib.IntN.{ℤ, pos, nat_abs}
use lib.ListN.{length, take, drop, get_or, drop_of_length-le}
use Rattle.std.proofs.lemmas.List.{get_or-take, length-take-le}
use mir.Syntax.{w64}
use mir.Val.{SFits}
use Rattle.whole.specs.Below.{fold_below}
use Rattle.whole.specs.Divisors.{gcd}
use Rattle.whole.specs.Numbers.{Within}
use Rattle.whole.specs.Tables.{table}
use Rattle.whole.proofs.Lists.Tables.{table_same}
use Rattle.whole.proofs.Numbers.Divisors.{fold-dvd, fold-greatest, fold-pos, fold-most}
use Rattle.whole.proofs.Numbers.Sizes.{fits-abs, size-pos}
use Rattle.divisor.specs.Cells.{largest_size, divisor_below, divided_cells, quotients}

pub fits-size : {z : ℤ} → Within z largest_size → SFits w64 z
fits-size h = fits-abs (lt_of_le_of_lt h.within (lit< tt))

module _ (l : List ℤ) (common : ℤ) where
  pub divisor-none : divisor_below 0 l common ≡ nat_abs common
  unfolding divisor_below fold_below
  divisor-none = refl

  pub divisor-more : (k : ℕ) → divisor_below (k + 1) l common ≡ gcd (nat_abs (get_or l k (pos 0)))
      (divisor_below k l common)
  unfolding divisor_below fold_below
  divisor-more k = rw add-one refl

  module _ (k : ℕ) where
    abbrev cell_size : ℕ → ℕ
    cell_size i = nat_abs (get_or l i (pos 0))

    pub cells-divide :
        (divisor_below k l common ∣ nat_abs common) × ((i : ℕ) → i < k → divisor_below k l common ∣ cell_size i)
    unfolding divisor_below
    cells-divide = fold-dvd k cell_size (nat_abs common)

    pub cells-greatest : (d : ℕ) → d ∣ nat_abs common → ((i : ℕ) → i < k → d ∣ cell_size i) →
        d ∣ divisor_below k l common
    unfolding divisor_below
    cells-greatest d p q = fold-greatest k cell_size (nat_abs common) d p q

    pub divisor-above-zero : common ≢ pos 0 → 0 < divisor_below k l common
    unfolding divisor_below
    divisor-above-zero n = fold-pos k cell_size (nat_abs common) (size-pos common n)

    pub divisor-most : common ≢ pos 0 → divisor_below k l common ≤ nat_abs common
    unfolding divisor_below
    divisor-most n = fold-most k cell_size (nat_abs common) (size-pos common n)

  pub divisor-one : (k n : ℕ) → k ≤ n → divisor_below k l common ≡ 1 → divisor_below n l common ≡ 1
  divisor-one k n h e =
      let d = cells-divide n in
      dvd-one.0 (subst (λ g. divisor_below n l common ∣ g) e
      (cells-greatest k (divisor_below n l common) d.0 (λ i b. d.1 i (omega arith))))

divisor-same : (k : ℕ) (l r : List ℤ) (common : ℤ) → ((i : ℕ) → i < k → get_or l i (pos 0) ≡ get_or r i (pos 0)) →
    divisor_below k l common ≡ divisor_below k r common
unfolding divisor_below fold_below
divisor-same zero l r common h = refl
divisor-same (suc k) l r common h = ap₂ (λ (z : ℤ) (g : ℕ). gcd (nat_abs z) g) (h k (omega arith))
    (divisor-same k l r common (λ i b. h i (omega arith)))

module _ (k : ℕ) (l : List ℤ) (room : k ≤ length l) where
  pub divisor-front : (common : ℤ) → divisor_below (length (take k l)) (take k l) common ≡ divisor_below k l common
  divisor-front common = ap (λ n. divisor_below n (take k l) common) (length-take-le k l room)
      ∙ divisor-same k (take k l) l common (λ i h. get_or-take k l i (pos 0) h)

  pub divided-front : (by : ℤ) → divided_cells (length (take k l)) (take k l) by ++ drop k l ≡ divided_cells k l by
  divided-front by = ap (λ (t : List ℤ). t ++ drop k l) (
      ap (λ n. table n (quotients (take k l) by) ++ drop n (take k l)) (length-take-le k l room)
      ∙ ap₂ (λ (a b : List ℤ). a ++ b)
      (table_same k (quotients (take k l) by) (quotients l by) (λ i h. rw (get_or-take k l i (pos 0) h) refl))
      (drop_of_length-le (take k l) {i = k} (rw (length-take-le k l room) (omega arith)))
      ∙ append-nil (table k (quotients l by)))
