-- Flat places and the places of rows and columns, for m rows and n columns. Only this file and the proofs of
-- src/lib.rt know which way the entries lie; the laws of places are proved for either way.
--   row_laid_lem, column-laid, flat-laid-back   from places to the flat place and back, and the other way round
--   flat-laid-live, row-laid-live, ..       the place of a row and a column in use is live, and the other way round
--   live-most, flat_in                      the live cells fit the array, and so does a place in use
--   row-flat, column-flat, flat_back, ..    the same in the order in use
--   spot-along, step-live                   the spot of a step of a line, and that it is live
--   lines-live, line-next                   all lines are what is live; a line ends where the next begins
--   lines_are, steps-are                    a line is a column
--   row-along, column-along                 the places of a step of a line
--   row-strip, column-strip, row_count, ..  the cells of a row and of a column, and how many there are
use Prim.Native.Nat.{ℕ, zero, suc, ◌+◌, ◌*◌, ◌/◌, ◌%◌, ◌≤◌, ◌<◌}
use native.Mathlib.Nat.{add_comm, add-mul-div_right, add-mul-mod_self_right, div-add-mod', div-eq_of_lt}
use native.Mathlib.Nat.{div-lt_iff_lt-mul}
use native.Mathlib.Nat.{lt_of_lt_of_le, mod-eq_of_lt, mod-lt, mul_comm, mul-le-mul, mul-zero, suc-mul}
use native.Mathlib.Omega.{arith}
use mathlib.Core.Path.{◌≡◌, refl, ap, ap₂, sym, ◌∙◌}
use lib.Arith.{digits_lt}
use Rattle.rules.specs.Sizes.{most_columns, most_rows}
use Rattle.layout.specs.Layout.{Order, by_rows, by_columns, in_use, most_entries, flat_laid, row_laid, column_laid}
use Rattle.layout.specs.Layout.{lines_laid, steps_laid, flat, row_at, column_at, lines, steps, line_at, live}
use Rattle.layout.specs.Layout.{row_place, column_place, spot_at, along, row_strip_laid, column_strip_laid, row_strip}
use Rattle.layout.specs.Layout.{column_strip}

-- ---- a number by its quotient and its remainder

module _ (n a b : ℕ) (h : b < n) where
  quotient-of : (a * n + b) / n ≡ a
  quotient-of = ap (λ x. x / n) (add_comm (a * n) b) ∙ add-mul-div_right b a {z = n} (omega arith)
      ∙ ap (λ x. x + a) (div-eq_of_lt h) ∙ (let z : 0 + a ≡ a = omega arith in z)

  remainder_of : (a * n + b) % n ≡ b
  remainder_of = ap (λ x. x % n) (add_comm (a * n) b) ∙ add-mul-mod_self_right b a n ∙ mod-eq_of_lt h

-- ---- places, in either order

pub row_laid_lem : (o : Order) (m n i j : ℕ) → i < m → j < n → row_laid o m n (flat_laid o m n i j) ≡ i
unfolding flat_laid row_laid
row_laid_lem by_rows m n i j h k = quotient-of n i j k
row_laid_lem by_columns m n i j h k = remainder_of m j i h

pub column-laid : (o : Order) (m n i j : ℕ) → i < m → j < n → column_laid o m n (flat_laid o m n i j) ≡ j
unfolding flat_laid column_laid
column-laid by_rows m n i j h k = remainder_of n i j k
column-laid by_columns m n i j h k = quotient-of m j i h

pub flat-laid-live : (o : Order) (m n i j : ℕ) → i < m → j < n → flat_laid o m n i j < live m n
unfolding flat_laid live
flat-laid-live by_rows m n i j h k = digits_lt h k
flat-laid-live by_columns m n i j h k = rw (mul_comm m n) (digits_lt k h)

pub flat-laid-back : (o : Order) (m n k : ℕ) → flat_laid o m n (row_laid o m n k) (column_laid o m n k) ≡ k
unfolding flat_laid row_laid column_laid
flat-laid-back by_rows m n k = div-add-mod' k n
flat-laid-back by_columns m n k = div-add-mod' k m

pub live-most : (m n : ℕ) → m ≤ most_rows → n ≤ most_columns → live m n ≤ most_entries
unfolding live
live-most m n h k = mul-le-mul h k

-- a quotient and a remainder below a product
module _ (a n k : ℕ) (h : k < a * n) where
  above_zero : 0 < n
  above_zero = go n h
    where
      go : (n : ℕ) → k < a * n → 0 < n
      go zero l = let z : ⊥ = omega (arith, mul-zero a) in absurd z
      go (suc n) l = omega arith

  quotient-below : k / n < a
  quotient-below = (div-lt_iff_lt-mul above_zero).1 h

  remainder-below : k % n < n
  remainder-below = mod-lt k above_zero

pub row-laid-live : (o : Order) (m n k : ℕ) → k < live m n → row_laid o m n k < m
unfolding live row_laid
row-laid-live by_rows m n k h = quotient-below m n k h
row-laid-live by_columns m n k h = remainder-below n m k (rw (mul_comm n m) h)

pub column-laid-live : (o : Order) (m n k : ℕ) → k < live m n → column_laid o m n k < n
unfolding live column_laid
column-laid-live by_rows m n k h = remainder-below m n k h
column-laid-live by_columns m n k h = quotient-below n m k (rw (mul_comm n m) h)

-- ---- places, in the order in use

pub row-flat : (m n i j : ℕ) → i < m → j < n → row_at m n (flat m n i j) ≡ i
row-flat = row_laid_lem in_use

pub column-flat : (m n i j : ℕ) → i < m → j < n → column_at m n (flat m n i j) ≡ j
column-flat = column-laid in_use

pub flat_back : (m n k : ℕ) → flat m n (row_at m n k) (column_at m n k) ≡ k
flat_back = flat-laid-back in_use

pub flat-live : (m n i j : ℕ) → i < m → j < n → flat m n i j < live m n
flat-live = flat-laid-live in_use

pub row-live : (m n k : ℕ) → k < live m n → row_at m n k < m
row-live = row-laid-live in_use

pub column-live : (m n k : ℕ) → k < live m n → column_at m n k < n
column-live = column-laid-live in_use

pub flat_in : (m n i j : ℕ) → i < m → j < n → m ≤ most_rows → n ≤ most_columns → flat m n i j < most_entries
flat_in m n i j h k r c = lt_of_lt_of_le (flat-live m n i j h k) (live-most m n r c)

-- ---- lines and their steps, in the order in use

module _ (m n line step : ℕ) (h : step < steps m n) where
  pub spot-along : record { row = row_place step; column = column_place line } ≡ spot_at m n (line_at m n line + step)
  unfolding steps_laid row_laid column_laid
  spot-along = ap₂ (λ a b. record { row = row_place a; column = column_place b })
      (sym (remainder_of m line step h)) (sym (quotient-of m line step h))

  pub step-live : line < lines m n → line_at m n line + step < live m n
  unfolding lines_laid steps_laid live
  step-live k = rw (mul_comm m n) (digits_lt k h)

  pub row-along : row_at m n (line_at m n line + step) ≡ step
  unfolding steps_laid row_laid
  row-along = remainder_of m line step h

  pub column-along : column_at m n (line_at m n line + step) ≡ line
  unfolding steps_laid column_laid
  column-along = quotient-of m line step h

pub lines_are : (m n : ℕ) → lines m n ≡ n
unfolding lines_laid
lines_are m n = refl

pub steps-are : (m n : ℕ) → steps m n ≡ m
unfolding steps_laid
steps-are m n = refl

pub lines-live : (m n : ℕ) → line_at m n (lines m n) ≡ live m n
unfolding lines_laid steps_laid live
lines-live m n = mul_comm n m

pub line-next : (m n line : ℕ) → line_at m n line + steps m n ≡ line_at m n (line + 1)
line-next m n line = omega (arith, suc-mul line (steps m n))

-- ---- strips, in either order

row-strip-laid : (o : Order) (m n i j : ℕ) → along (row_strip_laid o m n i) j ≡ flat_laid o m n i j
unfolding row_strip_laid flat_laid
row-strip-laid by_rows m n i j = omega arith
row-strip-laid by_columns m n i j = omega arith

column-strip-laid : (o : Order) (m n i j : ℕ) → along (column_strip_laid o m n j) i ≡ flat_laid o m n i j
unfolding column_strip_laid flat_laid
column-strip-laid by_rows m n i j = omega arith
column-strip-laid by_columns m n i j = omega arith

-- .. and in the order in use, with how many cells there are
pub row-strip : (m n i j : ℕ) → along (row_strip m n i) j ≡ flat m n i j
row-strip = row-strip-laid in_use

pub column-strip : (m n i j : ℕ) → along (column_strip m n j) i ≡ flat m n i j
column-strip = column-strip-laid in_use

pub row_count : (m n i : ℕ) → (row_strip m n i).count ≡ n
unfolding row_strip_laid
row_count m n i = refl

pub column-count : (m n j : ℕ) → (column_strip m n j).count ≡ m
unfolding column_strip_laid
column-count m n j = refl
