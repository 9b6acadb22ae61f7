-- Fine parts are the parts of their words.
--   accepted-words   those words are accepted
--   said-back        and their text has the tokens of the parts
use mathlib.Core.List.{List, [], ◌∷◌, ◌++◌, append-nil, flatten}
use mathlib.Core.Logic.{◌≢◌}
use mathlib.Core.Option.{none}
use mathlib.Core.Path.{◌≡◌, refl, sym, ◌∙◌, ap, ap₂, subst}
use Prim.Native.Nat.{ℕ, zero, suc, ◌+◌, ◌-◌, ◌*◌, ◌/◌, ◌%◌, ◌≤◌, ◌<◌}
use native.Mathlib.Omega.{arith}
use lib.Arith.{digits_lt}
use lib.Dec.{le→leb}
use lib.IntN.{ℤ, pos}
use lib.ListN.{length, get_or, length-append, replicate, get_or-append, get_or-eq_default}
use lib.Seq.{get_or-append-add}
use lib.Signed.{◌≤ℤ◌}
use Rattle.whole.specs.Numbers.{Within}
use Rattle.whole.specs.Tables.{table, table_from}
use Rattle.whole.proofs.Lists.Tables.{table-all, table_at, table-length, table_same}
use Rattle.whole.proofs.Tells.{tells-within}
use Rattle.rules.specs.Limit.{has_lower, has_upper, strict_lower, strict_upper}
use Rattle.rules.specs.Problem.{coefficient_word, kind, lower_word, n_of, problem, upper_word, word}
use Rattle.rules.specs.Refusal.{Accepted}
use Rattle.rules.specs.Sizes.{largest_coefficient, most_columns, most_rows}
use Rattle.rules.specs.Exchange.Reader.{Pieces, slot_at, limit_word, limit_words, marks, plain_number, pieces_words}
use Rattle.rules.specs.Exchange.Tokens.{token_bytes}
use Rattle.rules.specs.Exchange.Script.{check_sat}
use Rattle.rules.proofs.Exchange.Tokens.Said.{body, heads, listed, listed_then, pieces_of, said, said_limit}
use Rattle.rules.proofs.Exchange.Tokens.Said.{said_row, slot_on}
use Rattle.rules.proofs.Exchange.Reader.Rows.{FineNumber, FinePieces, FineRow, FineSlot}
use Rattle.rules.proofs.Exchange.Words.Marks.{word-fine, Bits, flatten-at, flatten-each, flatten-length}
use Rattle.rules.proofs.Exchange.Words.Marks.{kind-bits, limit-back, limit-marked, slots-fine, zero-some}
use Rattle.rules.proofs.Exchange.Reader.Behind.{nones-said}
use Rattle.rules.proofs.Exchange.Words.Tables.{each_at, table-two}

-- ---- the words of fine parts

pos-least : (k : ℕ) → pos 0 ≤ℤ pos k
pos-least k = record { le = le→leb 0 k (omega arith) }

-- behind the two sizes
behind-two : (a b : ℤ) (l : List ℤ) (k : ℕ) → word (a ∷ b ∷ l) (2 + k) ≡ word l k
behind-two a b l k = ap (word (a ∷ b ∷ l)) (let z : 2 + k ≡ suc (suc k) = omega arith in z)

-- a list, and what is missing of it
table-padded : {A : Type 0} (l : List A) (d : A) (k : ℕ) → length l ≤ k →
    table k (λ i. get_or l i d) ≡ l ++ replicate (k - length l) d
unfolding table_from
table-padded l d k h =
    ap (λ j. table j (λ i. get_or l i d)) (let z : k ≡ length l + (k - length l) = omega arith in z)
    ∙ table-two (length l) (k - length l) (λ i. get_or l i d)
    ∙ ap₂ (λ x y. x ++ y) (table-all l d)
    (table_same (k - length l) _ (λ i. d) (λ i q. get_or-eq_default l d (omega arith)) ∙ rest (k - length l) 0)
  where
    rest : (j a : ℕ) → table_from a j (λ i. d) ≡ replicate j d
    rest zero a = refl
    rest (suc j) a = ap (λ r. d ∷ r) (rest j (suc a))

module _ (P : Pieces) (f : FinePieces P) where
  abbrev pub ws : List ℤ
  ws = pieces_words P

  pub n-is : n_of ws ≡ P.n
  unfolding pieces_words
  n-is = refl

  rows_long : length (flatten P.rows) ≡ P.m * P.n
  rows_long = flatten-length P.n P.rows f.each_row ∙ ap (λ k. k * P.n) f.all-rows

  row_word : (k : ℕ) → k < P.m * P.n → word ws (2 + k) ≡ word (flatten P.rows) k
  unfolding pieces_words
  row_word k h =
      behind-two (pos P.n) (pos P.m) (flatten P.rows ++ limit_words P) k
      ∙ get_or-append (flatten P.rows) (limit_words P) (pos 0) k (omega (arith, rows_long))

  coefficient-is : (i j : ℕ) → i < P.m → j < P.n → coefficient_word ws i j ≡ get_or (get_or P.rows i []) j (pos 0)
  coefficient-is i j h l =
      ap (λ k. word ws (2 + (i * k + j))) n-is
      ∙ row_word (i * P.n + j) (digits_lt h l)
      ∙ flatten-at P.n P.rows f.each_row i j (omega (arith, f.all-rows)) l

  limit-word : (k : ℕ) → k < 3 * (P.n + P.m) →
      word ws (2 + P.m * P.n + k) ≡ limit_word (slot_at P (2 * (k / 3))) (slot_at P (2 * (k / 3) + 1)) (k % 3)
  unfolding pieces_words limit_words
  limit-word k h =
      ap (word ws) (let z : 2 + P.m * P.n + k ≡ 2 + (length (flatten P.rows) + k) = omega (arith, rows_long) in z)
      ∙ behind-two (pos P.n) (pos P.m) (flatten P.rows ++ limit_words P) (length (flatten P.rows) + k)
      ∙ get_or-append-add (flatten P.rows) (limit_words P) k (pos 0)
      ∙ table_at (3 * (P.n + P.m)) _ (pos 0) k h

  module _ (v : ℕ) (h : v < P.n + P.m) where
    -- word c of variable v
    variable-word : (c : ℕ) → c < 3 →
        word ws (2 + P.m * P.n + (3 * v + c)) ≡ limit_word (slot_at P (2 * v)) (slot_at P (2 * v + 1)) c
    variable-word c l =
        limit-word (3 * v + c) (omega arith)
        ∙ ap₂ (λ a b. limit_word (slot_at P (2 * a)) (slot_at P (2 * a + 1)) b)
        (let z : (3 * v + c) / 3 ≡ v = omega arith in z) (let z : (3 * v + c) % 3 ≡ c = omega arith in z)

    kind-is : kind ws v ≡ pos (marks (slot_at P (2 * v)) + 2 * marks (slot_at P (2 * v + 1)))
    unfolding limit_word pieces_words
    kind-is = ap (word ws) (let z : 2 + P.m * P.n + 3 * v ≡ 2 + P.m * P.n + (3 * v + 0) = omega arith in z)
        ∙ variable-word 0 (omega arith)

    lower-is : lower_word ws v ≡ plain_number (slot_at P (2 * v))
    unfolding limit_word pieces_words
    lower-is = ap (word ws) (let z : 2 + P.m * P.n + 3 * v + 1 ≡ 2 + P.m * P.n + (3 * v + 1) = omega arith in z)
        ∙ variable-word 1 (omega arith)

    upper_is : upper_word ws v ≡ plain_number (slot_at P (2 * v + 1))
    unfolding limit_word pieces_words
    upper_is = ap (word ws) (let z : 2 + P.m * P.n + 3 * v + 2 ≡ 2 + P.m * P.n + (3 * v + 2) = omega arith in z)
        ∙ variable-word 2 (omega arith)

    bits : Bits (kind ws v) (slot_at P (2 * v)) (slot_at P (2 * v + 1))
    bits = subst (λ z. Bits z (slot_at P (2 * v)) (slot_at P (2 * v + 1))) (sym kind-is)
        (kind-bits (slot_at P (2 * v)) (slot_at P (2 * v + 1)))

    lower-back : (problem ws).lower v ≡ slot_at P (2 * v)
    unfolding problem
    lower-back =
        limit-back (slot_at P (2 * v)) (has_lower (kind ws v)) (strict_lower (kind ws v)) (lower_word ws v)
        bits.has-lower bits.strict-lower lower-is

    upper-back : (problem ws).upper v ≡ slot_at P (2 * v + 1)
    unfolding problem
    upper-back =
        limit-back (slot_at P (2 * v + 1)) (has_upper (kind ws v)) (strict_upper (kind ws v)) (upper_word ws v)
        bits.has-upper bits.strict-upper upper_is

  slot-fine : (k : ℕ) → FineSlot (slot_at P k)
  unfolding slot_at
  slot-fine k = slots-fine P.limits k f.each_limit

  row_fine : (i : ℕ) → i < P.m → FineRow P.n (get_or P.rows i [])
  row_fine i h = each_at (FineRow P.n) P.rows [] i (omega (arith, f.all-rows)) f.each_row

  not-blank : (i : ℕ) → i < P.m → (j : ℕ) × (j < P.n) × (coefficient_word ws i j ≢ pos 0)
  not-blank i h =
      let r = row_fine i h in
      let w = zero-some (get_or P.rows i []) r.filled in
      let few : w.0 < P.n = omega (arith, w.1, r.width) in
      (w.0, few, λ e. w.2 (sym (coefficient-is i w.0 h few) ∙ e))

  pub accepted-words : Accepted most_rows (pieces_words P)
  unfolding pieces_words limit_words
  accepted-words = record {
    enough = omega arith;
    n-least = record { le = le→leb 1 P.n f.n-least };
    n-most = record { le = le→leb P.n most_columns f.n-most };
    m-least = record { le = le→leb 0 P.m (omega arith) };
    m-most = record { le = le→leb P.m most_rows f.m-most };
    exact = long;
    coefficients = λ i h. subst (λ z. Within z largest_coefficient) (sym (row_word i h))
        ((tells-within largest_coefficient _).if-true
        (each_at FineNumber (flatten P.rows) (pos 0) i (omega (arith, rows_long))
        (flatten-each P.n P.rows f.each_row)));
    kind-least = λ v h. rw (kind-is v h) (pos-least _);
    kind-most = λ v h. subst (λ z. z ≤ℤ pos 15) (sym (kind-is v h))
        (record { le = le→leb _ 15 (kind-bits (slot_at P (2 * v)) (slot_at P (2 * v + 1))).most });
    lower-marked = λ v h. limit-marked (slot_at P (2 * v)) _ _ (bits v h).has-lower (bits v h).strict-lower;
    upper-marked = λ v h. limit-marked (slot_at P (2 * v + 1)) _ _ (bits v h).has-upper (bits v h).strict-upper;
    lowers = λ v h. word-fine (slot_at P (2 * v)) _ _ (slot-fine (2 * v)) (bits v h).has-lower (lower-is v h);
    uppers = λ v h. word-fine (slot_at P (2 * v + 1)) _ _ (slot-fine (2 * v + 1)) (bits v h).has-upper (upper_is v h);
    no-blank = not-blank;
  }
    where
      long : suc (suc (length (flatten P.rows ++ limit_words P))) ≡ 2 + P.m * P.n + 3 * (P.n + P.m)
      long =
          omega (
            arith,
            length-append (flatten P.rows) (limit_words P),
            rows_long,
            table-length (3 * (P.n + P.m)) (λ k. limit_word (slot_at P (2 * (k / 3))) (slot_at P (2 * (k / 3) + 1))
                (k % 3)),
          )

  -- ---- their parts

  rows_same : table P.m (λ i. table P.n (coefficient_word ws i)) ≡ P.rows
  rows_same =
      table_same P.m _ (λ i. get_or P.rows i []) (λ i h.
      table_same P.n _ (λ j. get_or (get_or P.rows i []) j (pos 0)) (λ j l. coefficient-is i j h l)
      ∙ ap (λ k. table k (λ j. get_or (get_or P.rows i []) j (pos 0))) (sym (row_fine i h).width)
      ∙ table-all (get_or P.rows i []) (pos 0))
      ∙ ap (λ k. table k (λ i. get_or P.rows i [])) (sym f.all-rows)
      ∙ table-all P.rows []

  slot_is : (k : ℕ) → k < 2 * (P.n + P.m) → slot_on (problem ws) (k / 2) (k % 2) ≡ get_or P.limits k none
  unfolding slot_on slot_at
  slot_is k h = go (k % 2) refl
    where
      go : (s : ℕ) → k % 2 ≡ s → slot_on (problem ws) (k / 2) s ≡ slot_at P k
      go zero e = lower-back (k / 2) (omega arith) ∙ ap (slot_at P) (omega arith)
      go (suc zero) e = upper-back (k / 2) (omega arith) ∙ ap (slot_at P) (omega arith)
      go (suc (suc s)) e = let o : ⊥ = omega arith in absurd o

  slots_same : table (2 * (P.n + P.m)) (λ k. slot_on (problem ws) (k / 2) (k % 2))
      ≡ P.limits ++ replicate (2 * (P.n + P.m) - length P.limits) none
  slots_same =
      table_same (2 * (P.n + P.m)) _ (λ k. get_or P.limits k none) slot_is
      ∙ table-padded P.limits none (2 * (P.n + P.m)) f.few-limits

  pub said-back : said (pieces_of (pieces_words P)) ≡ said P
  unfolding said body pieces_of pieces_words
  said-back =
      ap (λ x. heads P.n P.m ++ x ++ token_bytes check_sat)
      (ap₂ (λ x y. x ++ y) (ap (listed (said_row P.n) 0) rows_same)
      (ap (listed (said_limit P.n) 0) slots_same
      ∙ listed_then (said_limit P.n) 0 P.limits (replicate (2 * (P.n + P.m) - length P.limits) none)
      ∙ ap (λ x. listed (said_limit P.n) 0 P.limits ++ x)
      (nones-said P.n (0 + length P.limits) (2 * (P.n + P.m) - length P.limits))
      ∙ append-nil (listed (said_limit P.n) 0 P.limits)))
