-- Arrays of which a part is written, and quotients that stand there.
--   spared-start, -more, -then, -wider, -twice           nothing written, one cell more, one part after another, a
--                                                       larger part, twice
--   each_more                                           what holds of each cell written, with one cell more
--   column-none, -more, -divides, -greatest, -one       the divisor of a column; once it is 1 it stays 1
--   above-none, -more, -here, -at       the sizes of its cells
--   column-alike                                        a column of equal parts
--   column-end, -live, -most, columned, cell-here       a column of a border
--   quotients-then, columns-all                         right quotients before a column and in it; all columns
use Prim.Native.Nat.{ℕ, ◌+◌, ◌-◌, ◌≤◌, ◌<◌, ◌∣◌}
use native.Mathlib.Decide.{ℕ_discrete, dec_lt}
use native.Mathlib.Nat.{dvd-one, le_refl, le_trans, mul-le-mul}
use native.Mathlib.Numerals.{add-one}
use native.Mathlib.Omega.{arith}
use mathlib.Core.Path.{◌≡◌, refl, ap, ap₂, sym, subst, ◌∙◌}
use mathlib.Core.Bool.{true, false}
use mathlib.Core.Logic.{◌≢◌, ◌⊎◌, inl, inr}
use mathlib.Core.List.{List}
use lib.Dec.{ltb}
use lib.IntN.{ℤ, pos, nat_abs}
use lib.ListN.{length, get_or, set, length-set}
use lib.Seq.{get_or-set_same, get_or-set_other}
use Rattle.whole.specs.Below.{fold_below}
use Rattle.whole.specs.Divisors.{gcd}
use Rattle.whole.specs.Numbers.{AllWithin}
use Rattle.whole.proofs.Lists.Below.{some-start, some_more, some_of, some_at}
use Rattle.whole.proofs.Bools.{or-of}
use Rattle.whole.proofs.Numbers.Divisors.{fold-dvd, fold-greatest}
use Rattle.whole.proofs.Tells.{tells-lt, tells-true, tells-false}
use Rattle.rules.specs.Sizes.{largest_number}
use Rattle.pivot.specs.declared.border.Border.{Border}
use Rattle.pivot.specs.declared.column.Column.{Column}
use Rattle.layout.specs.Layout.{lines, steps, line_at, live}
use Rattle.pivot.specs.Border.{Bordered, difference_of, difference_at}
use Rattle.pivot.specs.Trials.{Spared, Quotient, Columned, border_column, difference_in, column_divisor, some_above}
use Rattle.layout.proofs.Laws.Layout.{lines_are, steps-are, lines-live, line-next, step-live, live-most}
use Rattle.layout.proofs.Laws.Layout.{row-along, column-along}

pub spared-start : (s : ℕ) (l : List ℤ) → Spared s 0 l l
spared-start s l = record { long = refl; kept = λ i h. refl }

pub spared-more : (s k : ℕ) (old new : List ℤ) (z : ℤ) → Spared s k old new → Spared s (k + 1) old (set new (s + k) z)
spared-more s k old new z h = record {
  long = length-set new (s + k) z ∙ h.long;
  kept = λ i e. get_or-set_other new (s + k) i z (pos 0) (away i e) ∙ h.kept i (less i e);
}
  where
    away : (i : ℕ) → (i < s) ⊎ (s + (k + 1) ≤ i) → i ≢ s + k
    away i (inl a) e = let z : ⊥ = omega arith in z
    away i (inr a) e = let z : ⊥ = omega arith in z

    less : (i : ℕ) → (i < s) ⊎ (s + (k + 1) ≤ i) → (i < s) ⊎ (s + k ≤ i)
    less i (inl a) = inl a
    less i (inr a) = inr (omega arith)

-- a second part right behind a first one that starts at 0
pub spared-then : (k w : ℕ) (a b c : List ℤ) → Spared 0 k a b → Spared k w b c → Spared 0 (k + w) a c
spared-then k w a b c h g = record {
  long = g.long ∙ h.long;
  kept = λ i e. g.kept i (inr (past i e)) ∙ h.kept i (inr (let z = past i e in omega arith));
}
  where
    past : (i : ℕ) → (i < 0) ⊎ (0 + (k + w) ≤ i) → k + w ≤ i
    past i (inl e) = let z : ⊥ = omega arith in absurd z
    past i (inr e) = omega arith

pub spared-wider : (k w : ℕ) (a b : List ℤ) → k ≤ w → Spared 0 k a b → Spared 0 w a b
spared-wider k w a b l h = record { long = h.long; kept = λ i e. h.kept i (inr (past i e)) }
  where
    past : (i : ℕ) → (i < 0) ⊎ (0 + w ≤ i) → 0 + k ≤ i
    past i (inl e) = let z : ⊥ = omega arith in absurd z
    past i (inr e) = omega arith

pub spared-twice : (k : ℕ) (a b c : List ℤ) → Spared 0 k a b → Spared 0 k b c → Spared 0 k a c
spared-twice k a b c h g = record { long = g.long ∙ h.long; kept = λ i e. g.kept i e ∙ h.kept i e }

-- what holds of each of the k cells from s, and of one cell more
pub each_more : (Q : ℕ → ℤ → Type 0) (s k : ℕ) (l : List ℤ) (z : ℤ) → s + k < length l →
    ((i : ℕ) → i < k → Q i (get_or l (s + i) (pos 0))) → Q k z →
    (i : ℕ) → i < k + 1 → Q i (get_or (set l (s + k) z) (s + i) (pos 0))
each_more Q s k l z b h q i e = go (ℕ_discrete i k)
  where
    apart : i ≢ k → s + i ≢ s + k
    apart n e = n (omega arith)

    go : Dec (i ≡ k) → Q i (get_or (set l (s + k) z) (s + i) (pos 0))
    go (yes f) = rw (f, get_or-set_same l (s + k) z (pos 0) b) q
    go (no n) = rw (get_or-set_other l (s + k) (s + i) z (pos 0) (apart n)) (h i (omega arith))

-- ---- the divisor of a column

module _ (l besides : List ℤ) (c : Column) (by : ℕ) where
  pub column-none : column_divisor l besides c 0 by ≡ by
  unfolding column_divisor fold_below
  column-none = refl

  pub column-more : (k : ℕ) →
      column_divisor l besides c (k + 1) by ≡ gcd (nat_abs (difference_in l besides c k))
      (column_divisor l besides c k by)
  unfolding column_divisor fold_below
  column-more k = rw add-one refl

pub column-divides : (l besides : List ℤ) (c : Column) (k by : ℕ) →
    (column_divisor l besides c k by ∣ by)
    × ((i : ℕ) → i < k → column_divisor l besides c k by ∣ nat_abs (difference_in l besides c i))
unfolding column_divisor
column-divides l besides c k by = fold-dvd k (λ i. nat_abs (difference_in l besides c i)) by

pub column-greatest : (l besides : List ℤ) (c : Column) (k by d : ℕ) → d ∣ by →
    ((i : ℕ) → i < k → d ∣ nat_abs (difference_in l besides c i)) → d ∣ column_divisor l besides c k by
unfolding column_divisor
column-greatest l besides c k by d p q = fold-greatest k (λ i. nat_abs (difference_in l besides c i)) by d p q

pub column-one : (l besides : List ℤ) (c : Column) (by k n : ℕ) → k ≤ n → column_divisor l besides c k by ≡ 1 →
    column_divisor l besides c n by ≡ 1
column-one l besides c by k n h e =
    let d = column-divides l besides c n by in
    dvd-one.0 (subst (λ g. column_divisor l besides c n by ∣ g) e
    (column-greatest l besides c k by (column_divisor l besides c n by) d.0 (λ i b. d.1 i (omega arith))))

-- ---- a column of a border, which is a line of the array

pub column-alike : (m : ℕ) {k k' : ℕ} {x x' y y' : ℤ} → k ≡ k' → x ≡ x' → y ≡ y' →
    ◌≡◌ {A = Column} (record { start = k; rows = m; pivot = x; above = y })
    (record { start = k'; rows = m; pivot = x'; above = y' })
column-alike m {k} {k'} {x} {x'} {y} {y'} e f g =
    ap (λ (k : ℕ). record { start = k; rows = m; pivot = x; above = y }) e
    ∙ ap₂ (λ (x y : ℤ). record { start = k'; rows = m; pivot = x; above = y }) f g

module _ (l : List ℤ) (b : Border) (j : ℕ) (in-columns : j < b.columns) where
  abbrev m : ℕ
  m = b.rows

  abbrev n : ℕ
  n = b.columns

  abbrev from : ℕ
  from = line_at m n j

  in_lines : j < lines m n
  in_lines = rw (lines_are m n) in-columns

  in-steps : {i : ℕ} → i < m → i < steps m n
  in-steps h = rw (steps-are m n) h

  -- where it ends
  pub column-end : from + m ≡ line_at m n (j + 1)
  column-end = ap (λ k. from + k) (sym (steps-are m n)) ∙ line-next m n j

  pub column-inside : (i : ℕ) → i < m → from + i < live m n
  column-inside i h = step-live m n j i (in-steps h) in_lines

  pub column-most : from + m ≤ live m n
  column-most = subst (λ k. k ≤ live m n) (sym column-end)
      (subst (λ k. line_at m n (j + 1) ≤ k) (lines-live m n)
      (mul-le-mul (omega (arith, in_lines)) (le_refl (steps m n))))

  pub columned : AllWithin l largest_number → Bordered b → Columned l b.besides (border_column b j)
  columned a B = record {
    few-rows = B.few-rows;
    in_array = le_trans column-most (live-most m n B.few-rows B.few-columns);
    entries-within = a;
    besides-within = B.besides-within;
    pivot-within = B.pivot-within;
    above_within = B.aboves-within.each j;
  }

  -- its cells are those of the array
  pub cell-here : (i : ℕ) → i < m → difference_at l b (from + i) ≡ difference_in l b.besides (border_column b j) i
  cell-here i h = ap₂ (λ r c. difference_of b.pivot (get_or l (from + i) (pos 0)) (get_or b.besides r (pos 0))
      (get_or b.aboves c (pos 0))) (row-along m n j i (in-steps h)) (column-along m n j i (in-steps h))

  -- right quotients before the column, and in it
  pub quotients-then : (by : ℤ) (old new : List ℤ) → Spared from m old new →
      ((k : ℕ) → k < from → Quotient by (difference_at l b k) (get_or old k (pos 0))) →
      ((i : ℕ) → i < m → Quotient by (difference_in l b.besides (border_column b j) i)
      (get_or new (from + i) (pos 0))) →
      (k : ℕ) → k < from + m → Quotient by (difference_at l b k) (get_or new k (pos 0))
  quotients-then by old new A before here k h = go (dec_lt k from)
    where
      go : Dec (k < from) → Quotient by (difference_at l b k) (get_or new k (pos 0))
      go (yes e) = rw (A.kept k (inl e)) (before k e)
      go (no e) =
          let i : ℕ = k - from in
          let f : from + i ≡ k = omega arith in
          let g : i < m = omega arith in
          subst (λ k. Quotient by (difference_at l b k) (get_or new k (pos 0))) f
          (subst (λ z. Quotient by z (get_or new (from + i) (pos 0))) (sym (cell-here i g)) (here i g))

-- all columns are what is live
pub columns-all : (b : Border) {j : ℕ} → j ≡ b.columns → line_at b.rows b.columns j ≡ live b.rows b.columns
columns-all b e = let m = b.rows in let n = b.columns in
    ap (line_at m n) (e ∙ sym (lines_are m n)) ∙ lines-live m n

-- ---- the sizes of a column's cells

module _ (l besides : List ℤ) (c : Column) (limit : ℕ) where
  pub above-none : some_above l besides c 0 limit ≡ false
  unfolding some_above
  above-none = some-start (λ i. ltb limit (nat_abs (difference_in l besides c i)))

  pub above_more : (k : ℕ) → some_above l besides c k limit ≡ false → nat_abs (difference_in l besides c k) ≤ limit →
      some_above l besides c (k + 1) limit ≡ false
  unfolding some_above
  above_more k e h = rw add-one (some_more k (λ i. ltb limit (nat_abs (difference_in l besides c i)))
      ∙ or-of e (tells-false (tells-lt limit (nat_abs (difference_in l besides c k))) h))

  pub above-here : (k i : ℕ) → i < k → limit < nat_abs (difference_in l besides c i) →
      some_above l besides c k limit ≡ true
  unfolding some_above
  above-here k i b h = some_of k i (λ i. ltb limit (nat_abs (difference_in l besides c i))) b
      (tells-true (tells-lt limit (nat_abs (difference_in l besides c i))) h)

  pub above_at : (k : ℕ) → some_above l besides c k limit ≡ true →
      (i : ℕ) × (i < k) × (limit < nat_abs (difference_in l besides c i))
  unfolding some_above
  above_at k e =
      let w = some_at k (λ i. ltb limit (nat_abs (difference_in l besides c i))) e in
      (w.0, w.1, (tells-lt limit (nat_abs (difference_in l besides c w.0))).if-true w.2)
