-- The pieces of specs/Pieces are those of the rules' text, where n and m are at hand.
--   chunk-part, chunk-rest, chunk-inside    the next words of a part, and what is left of it
--   row-behind, row-next, rows-end    the place behind a row; while a row is left, and when none is
--   row-part, limits-part      a row from its coefficients among the words, the limits of a variable from their words
--   row_inside                 .. which are all there
--   sum-alone, sum-joined      one term, or more
--   named_as                    a name, by its number among the variables
--   lower_text, upper_text     a limit that is missing, or present, strict or not
--   script-at                  the whole text
use mathlib.Core.Bool.{Bool, true, false, cond}
use mathlib.Core.List.{List, ◌++◌}
use mathlib.Core.Logic.{◌≢◌}
use mathlib.Core.Path.{◌≡◌, refl, sym, ◌∙◌, ap, ap₂}
use Prim.Native.Nat.{ℕ, suc, ◌+◌, ◌-◌, ◌*◌, ◌≤◌, ◌<◌}
use native.Mathlib.Nat.{add-mul, add-zero, le_refl, mul-le-mul, one-mul, suc-mul}
use native.Mathlib.Decide.{dec_lt}
use native.Mathlib.Omega.{arith}
use borrow.Author.Tests.{ne_eqb}
use lib.Dec.{ltb}
use lib.IntN.{ℤ, pos}
use lib.ListN.{drop, length, take, length-drop}
use lib.Seq.{drop-append_seam, get_or-drop, get_or-take, length-take-le, take-append_seam}
use Rattle.std.proofs.Common.{None, Some, add-one, drop-drop, length-append, min}
use Rattle.std.proofs.lemmas.List.{drop-take, length-take, take-take}
use Rattle.rules.specs.Limit.{has_lower, has_upper, strict_lower, strict_upper}
use Rattle.rules.specs.Problem.{word}
use Rattle.rules.specs.Program.Text.{lines_below}
use Rattle.rules.specs.Exchange.Script.{assert_row, check_sat, close, column_name, declaration, end_assert}
use Rattle.rules.specs.Exchange.Script.{exchange_text, limit_text, limits_text, lower_relation, name_of, open_sum}
use Rattle.rules.specs.Exchange.Script.{row_name, row_text, set_logic, sum_text, term, terms_text, upper_relation}
use Rattle.rules.proofs.Program.Same.{lines_same}
use Rattle.judge.specs.Words.{Framed}
use Rattle.exchange.specs.Pieces.{limit_piece, limits_piece, lower_limit, name_at, name_text, row_piece, terms_piece}
use Rattle.exchange.specs.Pieces.{upper_limit}
use Rattle.exchange.specs.declared.limits.Limit.{Limit}
use Rattle.exchange.specs.declared.limits.Relation.TheVariants as relations
use Rattle.exchange.specs.declared.names.Name.{Name}
use Rattle.exchange.specs.declared.names.Name.TheVariants.{Column, Row}

-- ---- names and limits

pub named_as : (n v : ℕ) → name_text (name_at n v) ≡ name_of n v
unfolding name_of
named_as n v = go (ltb v n)
  where
    go : (b : Bool) → name_text (cond b (Column v) (Row (v - n))) ≡ cond b (column_name v) (row_name (v - n))
    go true = refl
    go false = refl

lower_text : (name : Name) (kind z : ℤ) →
    limit_piece name (lower_limit kind z)
    ≡ limit_text (has_lower kind) (lower_relation (strict_lower kind)) (name_text name) z
unfolding limit_text lower_relation
lower_text name kind z = go (has_lower kind) (strict_lower kind)
  where
    limit : Bool → Limit
    limit s = record { relation = cond s relations.More relations.NoLess; number = z }

    go : (b s : Bool) →
        limit_piece name (cond b (Some (limit s)) None) ≡ limit_text b (lower_relation s) (name_text name) z
    go false s = refl
    go true true = refl
    go true false = refl

upper_text : (name : Name) (kind z : ℤ) →
    limit_piece name (upper_limit kind z)
    ≡ limit_text (has_upper kind) (upper_relation (strict_upper kind)) (name_text name) z
unfolding limit_text upper_relation
upper_text name kind z = go (has_upper kind) (strict_upper kind)
  where
    limit : Bool → Limit
    limit s = record { relation = cond s relations.Less relations.NoMore; number = z }

    go : (b s : Bool) →
        limit_piece name (cond b (Some (limit s)) None) ≡ limit_text b (upper_relation s) (name_text name) z
    go false s = refl
    go true true = refl
    go true false = refl

-- ---- a part of the words

-- from place a on, up to place a + k
abbrev pub words_part : List ℤ → ℕ → ℕ → List ℤ
words_part ws a k = take (a + k - a) (drop a ws)

part_length : (ws : List ℤ) (a k : ℕ) → a + k ≤ length ws → length (words_part ws a k) ≡ k
part_length ws a k h =
    let z : a + k - a ≡ k = omega arith in
    rw z (length-take-le k (drop a ws) (rw length-drop (omega arith)))

part-word : (ws : List ℤ) (a k j : ℕ) → j < k → word (words_part ws a k) j ≡ word ws (a + j)
part-word ws a k j h =
    get_or-take (a + k - a) (drop a ws) j (pos 0) (omega arith) ∙ get_or-drop a ws j (pos 0)

-- of the words from place a up to place b the next k, and what is left
module _ (ws : List ℤ) (a b k : ℕ) {rest : List ℤ} (chunk more : List ℤ) (r : rest ≡ take (b - a) (drop a ws))
    (e : rest ≡ chunk ++ more) (l : length chunk ≡ k) where
  no_more : k ≤ b - a
  no_more =
      let z : length rest ≡ length chunk + length more = ap length e ∙ length-append chunk more in
      let y : length rest ≡ min (b - a) (length (drop a ws)) = ap length r ∙ length-take (b - a) (drop a ws) in
      omega (arith, z, y, l)

  pub chunk-inside : 0 < k → a + k ≤ b
  chunk-inside h = omega (arith, no_more)

  pub chunk-part : chunk ≡ words_part ws a k
  chunk-part =
      let z : length chunk ≡ a + k - a = omega (arith, l) in
      sym (take-append_seam chunk more) ∙ ap₂ take z (sym e ∙ r)
      ∙ take-take (a + k - a) (b - a) (drop a ws) (omega (arith, no_more))

  pub chunk-rest : more ≡ take (b - (a + k)) (drop (a + k) ws)
  chunk-rest =
      let z : b - a ≡ k + (b - (a + k)) = omega (arith, no_more) in
      sym (drop-append_seam chunk more) ∙ ap₂ drop l (sym e ∙ r) ∙ ap (λ i. drop k (take i (drop a ws))) z
      ∙ drop-take k (b - (a + k)) (drop a ws) ∙ ap (take (b - (a + k))) (drop-drop k a ws)

module _ {ws : List ℤ} {n m : ℕ} (F : Framed ws n m) where
  -- ---- rows

  row_inside : (i : ℕ) → i < m → 2 + i * n + n ≤ length ws
  row_inside i h =
      let z : suc i * n ≤ m * n = mul-le-mul h (le_refl n) in
      omega (arith, z, suc-mul i n, F.exact)

  terms-at : (i : ℕ) → terms_text ws i ≡ lines_below n (λ j. term (word ws (2 + (i * n + j))) j)
  unfolding terms_text
  terms-at i = rw F.columns-are refl

  module _ (i : ℕ) (h : i < m) where
    abbrev coefficients : List ℤ
    coefficients = words_part ws (2 + i * n) n

    many : length coefficients ≡ n
    many = part_length ws (2 + i * n) n (row_inside i h)

    same-term : (j : ℕ) → j < n → term (word coefficients j) j ≡ term (word ws (2 + (i * n + j))) j
    same-term j l = ap (λ z. term z j)
        (part-word ws (2 + i * n) n j l
        ∙ ap (word ws) (let z : 2 + i * n + j ≡ 2 + (i * n + j) = omega arith in z))

    terms-part : terms_piece coefficients ≡ terms_text ws i
    terms-part = ap (λ k. lines_below k (λ j. term (word coefficients j) j)) many
        ∙ lines_same n _ _ same-term ∙ sym (terms-at i)

    pub row-part : row_piece i coefficients ≡ row_text ws i
    unfolding row_text
    row-part = ap₂ (λ k t. assert_row ++ row_name i ++ sum_text k t ++ end_assert) (many ∙ F.columns-are) terms-part

  -- ---- limits

  pub limits-part :
      (v : ℕ) → limits_piece (name_at n v) (words_part ws (2 + m * n + 3 * v) 3) ≡ limits_text ws v
  unfolding limits_text
  limits-part v =
      rw (
        lower_text,
        upper_text,
        named_as,
        part-word ws (2 + m * n + 3 * v) 3 0 (omega arith),
        part-word ws (2 + m * n + 3 * v) 3 1 (omega arith),
        part-word ws (2 + m * n + 3 * v) 3 2 (omega arith),
        add-zero,
      )
      (rw (F.columns-are, F.rows_are) refl)

  -- ---- the whole text

  pub script-at : exchange_text ws ≡ set_logic ++ lines_below (n + m) (declaration n) ++ lines_below m (row_text ws)
      ++ lines_below (n + m) (limits_text ws) ++ check_sat
  unfolding exchange_text
  script-at = rw (F.columns-are, F.rows_are) refl

-- ---- how many rows are left

pub row-behind : (n v : ℕ) → 2 + v * n + n ≡ 2 + (v + 1) * n
row-behind n v = let z : (v + 1) * n ≡ v * n + n = rw add-one (suc-mul v n) in omega (arith, z)

module _ (n m v : ℕ) (some : 0 < n) where
  pub row-next : 2 + v * n + n ≤ 2 + m * n → v < m
  row-next h = elim (dec_lt v m) [
    | yes s ↦ s
    | no s ↦ let z : m * n ≤ v * n = mul-le-mul (omega arith) (le_refl n) in absurd (omega (arith, z))
  ]

  pub rows-end :
      (ws : List ℤ) → 2 + m * n ≤ length ws → v ≤ m →
      length (take (2 + m * n - (2 + v * n)) (drop (2 + v * n) ws)) < n → v ≡ m
  rows-end ws h l f =
      let all : m * n ≡ v * n + (m - v) * n =
      ap (λ k. k * n) (let e : m ≡ v + (m - v) = omega (arith, l) in e) ∙ add-mul v (m - v) n in
      elim (dec_lt v m) [
        | yes s ↦
            let z : 1 * n ≤ (m - v) * n = mul-le-mul (omega arith) (le_refl n) in
            absurd (omega (
              arith,
              f,
              z,
              all,
              one-mul n,
              length-take (2 + m * n - (2 + v * n)) (drop (2 + v * n) ws),
              length-drop (2 + v * n) ws,
              h,
            ))
        | no s ↦ omega arith
      ]

-- ---- by a test

pub sum-alone : (n : ℕ) (terms : List ℕ) → n ≡ 1 → sum_text n terms ≡ terms
unfolding sum_text
sum-alone n terms e = rw e refl

pub sum-joined : (n : ℕ) (terms : List ℕ) → n ≢ 1 → sum_text n terms ≡ open_sum ++ terms ++ close
unfolding sum_text
sum-joined n terms h = rw (ne_eqb n 1 h) refl
