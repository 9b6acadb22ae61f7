-- What the tests on the words come to.
--   parity                        the remainder by 2 of a signed number, against that of its size
--   zero_bits                     a signed number's bits are 0 exactly where it is
--   few_words, kind-place, ..     the places of words whose sizes and whose length are fine
--   row-long, row-word            a row's words, as a part of all
--   variable-word                 a variable's words, likewise
--   accepted-framed               accepted words are such
use Rattle.std.proofs.Common.{get_or, get_or-drop, get_or-take}
use Rattle.std.specs.Simd.{first_chunks}
use mathlib.Core.Path.{◌≡◌, refl, sym, ◌∙◌, ap, ap₂}
use mathlib.Core.Bool.{not}
use mathlib.Core.List.{List}
use Prim.Native.Nat.{ℕ, zero, suc, ◌+◌, ◌*◌, ◌%◌, ◌^◌, ◌-◌, ◌≤◌, ◌<◌}
use native.Mathlib.Omega.{arith}
use native.Mathlib.Nat.{le_refl, mod-lt, mul-le-mul}
use borrow.Author.Tests.{ne_eqb}
use lib.Dec.{eqb}
use lib.IntN.{ℤ, pos, negsuc, neg_ℤ, nat_abs}
use lib.ListN.{drop, length, length-drop, take}
use lib.Seq.{drop-drop, length-take-le}
use lib.Signed.{rem_z}
use mir.Syntax.{w32}
use mir.Val.{SFits, of_z}
use Rattle.whole.specs.Numbers.{eq_z}
use Rattle.rules.specs.Sizes.{most_cells, most_rows}
use Rattle.rules.specs.Problem.{coefficient_word, m_of, n_of, vars_of, kind_place, word}
use Rattle.rules.specs.Refusal.{Accepted}
use Rattle.rules.proofs.Refusal.Accepted.{m-few, n-few}
use Rattle.judge.specs.Words.{Framed}

-- ---- bits

pub parity : (z : ℤ) → not (eqb (of_z w32 (rem_z z (pos 2))) 0) ≡ eqb (nat_abs z % 2) 1
parity (pos a) = up (a % 2) (mod-lt a (omega arith))
  where
    up : (r : ℕ) → r < 2 → not (eqb r 0) ≡ eqb r 1
    up zero h = refl
    up (suc zero) h = refl
    up (suc (suc r)) h = let z : ⊥ = omega arith in absurd z
parity (negsuc a) = down (suc a % 2) (mod-lt (suc a) (omega arith))
  where
    down : (r : ℕ) → r < 2 → not (eqb (of_z w32 (neg_ℤ (pos r))) 0) ≡ eqb r 1
    down zero h = refl
    down (suc zero) h = refl
    down (suc (suc r)) h = let z : ⊥ = omega arith in absurd z

pub zero_bits : (z : ℤ) → SFits w32 z → eqb (of_z w32 z) 0 ≡ eq_z z (pos 0)
zero_bits (pos a) f = refl
zero_bits (negsuc a) f = let h : a < 2 ^ 31 = f.sfits in ne_eqb (2 ^ 32 - suc a) 0 (λ e. omega arith)

-- ---- places

module _ {ws : List ℤ} {n m : ℕ} (F : Framed ws n m) where
  pub few_words : m * n ≤ most_cells
  few_words = mul-le-mul F.few-rows F.few-columns

  pub size-product : m * n ≡ m_of ws * n_of ws
  size-product = ap₂ (λ a b. a * b) F.rows_are F.columns-are

  pub vars-are : n + m ≡ vars_of ws
  vars-are = ap₂ (λ a b. a + b) F.columns-are F.rows_are

  pub kind-place : (v : ℕ) → 2 + m * n + 3 * v ≡ kind_place ws v
  kind-place v = ap (λ p. 2 + p + 3 * v) size-product

-- row i, as a part of the words
module _ {ws : List ℤ} {n m : ℕ} (F : Framed ws n m) (i k : ℕ) (h : i < m) (e : k ≡ n) where
  abbrev pub row-words : List ℤ
  row-words = take k (drop (2 + i * n) ws)

  row-within : 2 + i * n + n ≤ length ws
  row-within = let q : (i + 1) * n ≤ m * n = mul-le-mul (omega arith) (le_refl n) in omega (arith, F.exact)

  pub row-long : length row-words ≡ n_of ws
  row-long = length-take-le k (drop (2 + i * n) ws) (omega (arith, row-within, length-drop (2 + i * n) ws))
      ∙ e ∙ F.columns-are

  pub row-word : (j : ℕ) → j < n_of ws → word row-words j ≡ coefficient_word ws i j
  row-word j l = get_or-take k (drop (2 + i * n) ws) j (pos 0) (omega (arith, F.columns-are))
      ∙ get_or-drop (2 + i * n) ws j (pos 0)
      ∙ ap (word ws) ((let z : 2 + i * n + j ≡ 2 + (i * n + j) = omega arith in z)
      ∙ ap (λ p. 2 + (i * p + j)) F.columns-are)

-- variable v, as a part of the words: three behind all coefficients
chunk-at : (k i : ℕ) (xs d : List ℤ) → i < k → get_or (first_chunks 3 k xs) i d ≡ take 3 (drop (3 * i) xs)
chunk-at zero i xs d h = absurd (omega arith)
chunk-at (suc k) zero xs d h = refl
chunk-at (suc k) (suc i) xs d h = chunk-at k i (drop 3 xs) d (omega arith) ∙ ap (take 3) (drop-drop (3 * i) 3 xs)
    ∙ ap (λ n. take 3 (drop n xs)) (let z : 3 + 3 * i ≡ 3 * suc i = omega arith in z)

pub variable-word : (k i j p : ℕ) (ws d : List ℤ) → i < k → j < 3 →
    word (get_or (first_chunks 3 k (drop p ws)) i d) j ≡ word ws (p + 3 * i + j)
variable-word k i j p ws d h l =
    ap (λ xs. word xs j) (chunk-at k i (drop p ws) d h) ∙ get_or-take 3 (drop (3 * i) (drop p ws)) j (pos 0) l
    ∙ get_or-drop (3 * i) (drop p ws) j (pos 0) ∙ get_or-drop p ws (3 * i + j) (pos 0)
    ∙ ap (word ws) (let z : p + (3 * i + j) ≡ p + 3 * i + j = omega arith in z)

pub accepted-framed : {ws : List ℤ} {n m : ℕ} → Accepted most_rows ws → n ≡ n_of ws → m ≡ m_of ws → Framed ws n m
accepted-framed A e q = record {
  columns-are = e;
  rows_are = q;
  few-columns = rw e (n-few A);
  few-rows = rw q (m-few A);
  exact = A.exact ∙ sym (ap₂ (λ n m. 2 + m * n + 3 * (n + m)) e q);
}
