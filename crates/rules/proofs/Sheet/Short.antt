-- How long a sheet is: at most `most_sheet` bytes, of as many bodies as a file has.
use mathlib.Core.List.{List}
use mathlib.Core.Option.{Option, none, some}
use mathlib.Core.Path.{refl, ◌≡◌}
use Prim.Native.Nat.{suc, zero, ℕ, ◌*◌, ◌+◌, ◌^◌, ◌<◌, ◌≤◌}
use native.Mathlib.Nat.{suc-mul}
use native.Mathlib.Omega.{arith}
use lib.IntN.{pos, ℤ}
use lib.ListN.{length, length-append}
use Rattle.rules.proofs.Program.Numbers.{digits-short}
use Rattle.rules.proofs.Sheet.Fits.{class-few, largest-few, lower-few, pivot-sum-few, upper-few}
use Rattle.rules.proofs.Sheet.Largest.{largest-is}
use Rattle.rules.specs.Program.Text.{ascii, decimal, line, lines_below}
use Rattle.rules.specs.Sheet.Text.{body_name, largest_line, named_line, refused_line, refused_lines, sheet_lines}
use Rattle.rules.specs.Sheet.Text.{sheet_text}
use Rattle.rules.specs.Sheet.Totals.{body_at, largest_body, largest_pivots, lower_named, of_class, pivot_sum, refused}
use Rattle.rules.specs.Sheet.Totals.{upper_named, verdict}
use Rattle.rules.specs.Sizes.{most_bodies, most_count_line, most_rows, most_sheet, most_variables}

-- ---- lines

count-line : (name : List ℕ) (k n : ℕ) → n < 10 ^ suc k → length (line name (pos n)) ≤ length name + suc k + 1
unfolding line ascii decimal
count-line name k n h = simp length-append (let d = digits-short k n h in omega (arith, d))

refused-line : (j n : ℕ) (d : ℕ) → j < 10 ^ suc d → n < 100 → length (refused_line j n) ≤ most_count_line (9 + suc d)
unfolding refused_line ascii
refused-line j n d h l =
    simp length-append
    (let a = digits-short d j h in let b = count-line (ascii " ") 1 n l in omega (arith, a, b))

lines-most : (k c : ℕ) (f : ℕ → List ℕ) → ((v : ℕ) → v < k → length (f v) ≤ c) → length (lines_below k f) ≤ k * c
unfolding lines_below
lines-most zero c f h = omega arith
lines-most (suc k) c f h =
    let r = lines-most k c f (λ v l. h v (omega arith)) in let s = h k (omega arith) in
    let m = suc-mul k c in rw length-append (omega (arith, r, s, m))

refused-lines : (count : ℕ → ℕ) → ((j : ℕ) → count j < 100) →
    length (refused_lines count) ≤ 6 * most_count_line 10 + most_count_line 11
unfolding refused_lines
refused-lines count h =
    let a = lines-most 6 (most_count_line 10) (λ j. refused_line (j + 1) (count (j + 1)))
    (λ j l. refused-line (j + 1) (count (j + 1)) 0 (omega arith) (h (j + 1))) in
    let b = refused-line 10 (count 10) 1 (omega arith) (h 10) in
    rw length-append (omega (arith, a, b))

name-short : (o : Option ℕ) → ((i : ℕ) → o ≡ some i → i < 100) → length (body_name o) ≤ 4
unfolding body_name ascii
name-short none h = omega arith
name-short (some i) h = let d = digits-short 1 i (h i refl) in omega (arith, d)

largest-line : (most : ℕ) (o : Option ℕ) → most < 10 ^ 14 → length (body_name o) ≤ 4 →
    length (largest_line most o) ≤ 8 + 14 + 6 + 4 + 1
unfolding largest_line ascii
largest-line most o h n = simp length-append (let d = digits-short 13 most h in omega (arith, d, n))

named-line : (v lower upper : ℕ) → v < 100 → lower < 100 → upper < 100 →
    length (named_line v lower upper) ≤ 2 + 7 + 2 + 7 + 2 + 1
unfolding named_line ascii
named-line v lower upper h l u =
    simp length-append
    (let a = digits-short 1 v h in let b = digits-short 1 lower l in
    let c = count-line (ascii " upper ") 1 upper u in omega (arith, a, b, c))

-- ---- the sheet

module _ (rows k : ℕ) (body : ℕ → List ℤ) (h : rows ≤ most_rows) (l : k ≤ most_bodies) where
  sum-digits : pivot_sum rows k body < 10 ^ 16
  sum-digits = let r = pivot-sum-few rows k body h in omega (arith, r, l)

  largest-digits : largest_pivots rows k body < 10 ^ 14
  largest-digits = let r = largest-few rows k body h in omega (arith, r)

  lines-short : length (sheet_lines rows k body) ≤ most_sheet
  unfolding sheet_lines ascii
  lines-short =
      simp length-append
      (let a = count-line (ascii "bodies ") 1 k (omega arith) in
      let b = count-line (ascii "can ") 1 (of_class rows k body (verdict 1)) (few 1) in
      let c = count-line (ascii "cannot ") 1 (of_class rows k body (verdict 2)) (few 2) in
      let d = count-line (ascii "range ") 1 (of_class rows k body (verdict 3)) (few 3) in
      let e = refused-lines (λ j. of_class rows k body (refused j))
      (λ j. let r = class-few rows k body (refused j) in omega (arith, r)) in
      let f = count-line (ascii "pivots ") 15 (pivot_sum rows k body) sum-digits in
      let g = largest-line (largest_pivots rows k body) (largest_body rows k body) largest-digits
      (name-short (largest_body rows k body)
      (λ i q. let r = ((largest-is rows k body i).0 q).in-range in omega (arith, r))) in
      let n = lines-most most_variables 21
      (λ v. named_line v (lower_named rows k body v) (upper_named rows k body v)) named in
      omega (arith, a, b, c, d, e, f, g, n))
    where
      few : (v : ℕ) → of_class rows k body (verdict v) < 100
      few v = let r = class-few rows k body (verdict v) in omega (arith, r)

      named : (v : ℕ) → v < most_variables →
          length (named_line v (lower_named rows k body v) (upper_named rows k body v)) ≤ 21
      named v b =
          let r = lower-few rows k body v in let s = upper-few rows k body v in
          named-line v (lower_named rows k body v) (upper_named rows k body v)
          (omega arith) (omega (arith, r)) (omega (arith, s))

pub sheet-short : (rows : ℕ) (bodies : List (List ℤ)) → rows ≤ most_rows → length bodies ≤ most_bodies →
    length (sheet_text rows bodies) ≤ most_sheet
unfolding sheet_text
sheet-short rows bodies h l = lines-short rows (length bodies) (body_at bodies) h l
