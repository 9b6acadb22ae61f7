-- The words of a problem, and its pieces.
--   takes-words   limits that are missing at the end change no word
--   pieces-back   the words of the pieces of accepted words are those words
--   fine-pieces   and those pieces are fine
use mathlib.Core.Bool.{Bool, true, false, not, ◌&&◌, ◌||◌}
use mathlib.Core.List.{List, [], ◌∷◌, ◌++◌, append_assoc, append-nil, flatten}
use mathlib.Core.Option.{Option, none, some}
use mathlib.Core.Path.{◌≡◌, refl, sym, ◌∙◌, ap, ap₂}
use Prim.Native.Nat.{ℕ, zero, suc, ◌+◌, ◌-◌, ◌*◌, ◌/◌, ◌%◌, ◌≤◌, ◌<◌}
use native.Mathlib.Omega.{arith}
use lib.Arith.{digits_lt}
use lib.Dec.{eqb}
use lib.IntN.{ℤ, pos, nat_abs}
use lib.ListN.{length, get_or, replicate}
use Rattle.whole.specs.Below.{all_below}
use Rattle.whole.specs.Numbers.{eq_z}
use Rattle.whole.specs.Tables.{table, table_from}
use Rattle.whole.proofs.Bools.{and-true, true-false}
use Rattle.whole.proofs.Lists.Below.{all-each}
use Rattle.whole.proofs.Lists.Tables.{table-all, table_at, table-length, table_same}
use Rattle.whole.proofs.Numbers.Tests.{above, own-size, under-size}
use Rattle.whole.proofs.Tells.{tells-eq, tells-eq_z, tells-true, tells-within}
use Rattle.rules.specs.Limit.{Limit, bit, has_lower, has_upper, present, strict_lower, strict_upper}
use Rattle.rules.specs.Problem.{coefficient_word, kind, lower_word, m_of, n_of, problem, upper_word, vars_of, word}
use Rattle.rules.specs.Refusal.{Accepted, FineLimit}
use Rattle.rules.specs.Sizes.{largest_limit, most_rows}
use Rattle.rules.specs.Exchange.Reader.{Pieces, all_zero, slot_at, limit_word, limit_words, marks, pieces}
use Rattle.rules.specs.Exchange.Reader.{plain_number, with_limit, pieces_words}
use Rattle.rules.proofs.Refusal.Accepted.{m-few, n-few}
use Rattle.rules.proofs.Exchange.Words.Tables.{defaults-behind, each-table, flatten-table, replicate_more}
use Rattle.rules.proofs.Exchange.Words.Tables.{table-two}
use Rattle.rules.proofs.Exchange.Reader.Limits.{takes, with-length}
use Rattle.rules.proofs.Exchange.Reader.Rows.{FineNumber, FinePieces, FineRow, FineSlot}
use Rattle.rules.proofs.Exchange.Tokens.Said.{pieces_of, slot_on}

-- ---- limits that are missing at the end

takes_at : (P : Pieces) (k : ℕ) (l : List (Option Limit)) → length P.limits ≤ k → (i : ℕ) →
    get_or (takes P k l).limits i none ≡ get_or (P.limits ++ (replicate (k - length P.limits) none ++ l)) i none
unfolding takes with_limit
takes_at P k [] h i =
    sym (defaults-behind P.limits (k - length P.limits) none i)
    ∙ ap (λ r. get_or (P.limits ++ r) i none) (sym (append-nil (replicate (k - length P.limits) none)))
takes_at P k (none ∷ l) h i =
    takes_at P (suc k) l (omega arith) i
    ∙ ap (λ r. get_or (P.limits ++ r) i none)
    (ap (λ j. replicate j none ++ l) (let z : suc k - length P.limits ≡ suc (k - length P.limits) = omega arith in
    z)
    ∙ sym (replicate_more (k - length P.limits) none l))
takes_at P k (some x ∷ l) h i =
    takes_at (with_limit P k x) (suc k) l (omega (arith, with-length P k x h)) i
    ∙ ap (λ j. get_or ((with_limit P k x).limits ++ (replicate j none ++ l)) i none)
    (let z : suc k - length (with_limit P k x).limits ≡ 0 = omega (arith, with-length P k x h) in z)
    ∙ ap (λ r. get_or r i none)
    (append_assoc P.limits (replicate (k - length P.limits) none ++ (some x ∷ [])) l
    ∙ ap (λ r. P.limits ++ r) (append_assoc (replicate (k - length P.limits) none) (some x ∷ []) l))

takes-kept : (P : Pieces) (k : ℕ) (l : List (Option Limit)) →
    ((takes P k l).n ≡ P.n) × ((takes P k l).m ≡ P.m) × ((takes P k l).rows ≡ P.rows)
unfolding takes with_limit
takes-kept P k [] = (refl, refl, refl)
takes-kept P k (none ∷ l) = takes-kept P (suc k) l
takes-kept P k (some x ∷ l) = takes-kept (with_limit P k x) (suc k) l

words_same : (P Q : Pieces) → P.n ≡ Q.n → P.m ≡ Q.m → P.rows ≡ Q.rows →
    ((i : ℕ) → get_or P.limits i none ≡ get_or Q.limits i none) → pieces_words P ≡ pieces_words Q
unfolding pieces_words limit_words slot_at
words_same P Q e f g h =
    ap₂ (λ x y. x ∷ y) (ap pos e)
    (ap₂ (λ x y. x ∷ y) (ap pos f)
    (ap₂ (λ x y. x ++ y) (ap flatten g)
    (ap (λ c. table (3 * c) (λ k. limit_word (get_or P.limits (2 * (k / 3)) none)
    (get_or P.limits (2 * (k / 3) + 1) none) (k % 3))) (ap₂ (λ x y. x + y) e f)
    ∙ table_same (3 * (Q.n + Q.m)) _ _
    (λ k l. ap₂ (λ x y. limit_word x y (k % 3)) (h (2 * (k / 3))) (h (2 * (k / 3) + 1))))))

pub takes-words : (P : Pieces) → pieces_words (takes (pieces P.n P.m P.rows []) 0 P.limits) ≡ pieces_words P
takes-words P =
    let Q = pieces P.n P.m P.rows [] in
    let kept = takes-kept Q 0 P.limits in
    words_same (takes Q 0 P.limits) P kept.0 kept.1 kept.2 (λ i. takes_at Q 0 P.limits (omega arith) i)

-- ---- a kind has the marks of its limits

-- strict marks on a missing limit, or the kind is made of its marks again
kind_test : ℕ → Bool
kind_test k = (strict_lower (pos k) && not (has_lower (pos k))) || (strict_upper (pos k) && not (has_upper (pos k)))
    || eqb (marks (present (has_lower (pos k)) (record { plain = pos 0; strict = strict_lower (pos k) }))
    + 2 * marks (present (has_upper (pos k)) (record { plain = pos 0; strict = strict_upper (pos k) }))) k

kind-tests : all_below 16 kind_test ≡ true
unfolding kind_test all_below bit marks present
kind-tests = refl

marks-any : (b s : Bool) (x y : ℤ) →
    marks (present b (record { plain = x; strict = s })) ≡ marks (present b (record { plain = y; strict = s }))
unfolding marks present
marks-any true s x y = refl
marks-any false s x y = refl

made : ℤ → ℕ
made z = marks (present (has_lower z) (record { plain = pos 0; strict = strict_lower z }))
    + 2 * marks (present (has_upper z) (record { plain = pos 0; strict = strict_upper z }))

marked : (s b : Bool) → (s ≡ true → b ≡ true) → (s && not b) ≡ false
marked true true f = refl
marked true false f = true-false (f refl) refl
marked false b f = refl

kind-again : (k : ℕ) → k < 16 → (strict_lower (pos k) ≡ true → has_lower (pos k) ≡ true) →
    (strict_upper (pos k) ≡ true → has_upper (pos k) ≡ true) → made (pos k) ≡ k
unfolding kind_test made
kind-again k h f g =
    let t = all-each 16 kind_test kind-tests k h in
    (tells-eq (made (pos k)) k).if-true
    (or-last (marked (strict_lower (pos k)) (has_lower (pos k)) f)
    (marked (strict_upper (pos k)) (has_upper (pos k)) g) t)
  where
    or-last : {a b c : Bool} → a ≡ false → b ≡ false → (a || b || c) ≡ true → c ≡ true
    or-last {a} {b} {c} p q t = rw (p, q) at t

module _ (ws : List ℤ) (A : Accepted most_rows ws) (v : ℕ) (h : v < vars_of ws) where
  kind-made : pos (marks ((problem ws).lower v) + 2 * marks ((problem ws).upper v)) ≡ kind ws v
  unfolding problem made
  kind-made =
      ap₂ (λ x y. pos (x + 2 * y))
      (marks-any (has_lower (kind ws v)) (strict_lower (kind ws v)) (lower_word ws v) (pos 0))
      (marks-any (has_upper (kind ws v)) (strict_upper (kind ws v)) (upper_word ws v) (pos 0))
      ∙ go (kind ws v) (nat_abs (kind ws v)) (own-size 0 (kind ws v) (A.kind-least v h))
      (omega (arith, under-size 15 0 (kind ws v) (A.kind-least v h) (A.kind-most v h)))
      (A.lower-marked v h) (A.upper-marked v h)
    where
      go : (z : ℤ) (k : ℕ) → z ≡ pos k → k < 16 → (strict_lower z ≡ true → has_lower z ≡ true) →
          (strict_upper z ≡ true → has_upper z ≡ true) → pos (made z) ≡ z
      go z k e l f g =
          ap (λ y. pos (made y)) e
          ∙ ap pos (kind-again k l (rw e at f) (rw e at g)) ∙ sym e

  plain-made : (b s : Bool) (z : ℤ) → FineLimit b z → plain_number (present b (record { plain = z; strict = s })) ≡ z
  unfolding plain_number present
  plain-made true s z f = refl
  plain-made false s z f = sym f

  limit-words : (c : ℕ) → c < 3 →
      limit_word ((problem ws).lower v) ((problem ws).upper v) c ≡ word ws (2 + m_of ws * n_of ws + (3 * v + c))
  unfolding limit_word problem
  limit-words zero l = kind-made ∙ ap (word ws) (omega arith)
  limit-words (suc zero) l =
      plain-made (has_lower (kind ws v)) (strict_lower (kind ws v)) (lower_word ws v) (A.lowers v h)
      ∙ ap (word ws) (omega arith)
  limit-words (suc (suc zero)) l =
      plain-made (has_upper (kind ws v)) (strict_upper (kind ws v)) (upper_word ws v) (A.uppers v h)
      ∙ ap (word ws) (omega arith)
  limit-words (suc (suc (suc c))) l = let o : ⊥ = omega arith in absurd o

  -- limits by number
  lower-at : slot_at (pieces_of ws) (2 * v) ≡ (problem ws).lower v
  unfolding slot_at pieces_of slot_on
  lower-at =
      table_at (2 * vars_of ws) (λ k. slot_on (problem ws) (k / 2) (k % 2)) none (2 * v) (omega arith)
      ∙ ap₂ (slot_on (problem ws)) (let z : (2 * v) / 2 ≡ v = omega arith in z)
      (let z : (2 * v) % 2 ≡ 0 = omega arith in z)

  upper-at : slot_at (pieces_of ws) (2 * v + 1) ≡ (problem ws).upper v
  unfolding slot_at pieces_of slot_on
  upper-at =
      table_at (2 * vars_of ws) (λ k. slot_on (problem ws) (k / 2) (k % 2)) none (2 * v + 1) (omega arith)
      ∙ ap₂ (slot_on (problem ws)) (let z : (2 * v + 1) / 2 ≡ v = omega arith in z)
      (let z : (2 * v + 1) % 2 ≡ 1 = omega arith in z)

module _ (ws : List ℤ) (A : Accepted most_rows ws) where
  limits-back : limit_words (pieces_of ws) ≡ table (3 * vars_of ws) (λ k. word ws (2 + m_of ws * n_of ws + k))
  unfolding limit_words pieces_of
  limits-back = table_same (3 * vars_of ws) _ _ each
    where
      each : (k : ℕ) → k < 3 * vars_of ws →
          limit_word (slot_at (pieces_of ws) (2 * (k / 3))) (slot_at (pieces_of ws) (2 * (k / 3) + 1)) (k % 3)
          ≡ word ws (2 + m_of ws * n_of ws + k)
      each k l =
          let few : k / 3 < vars_of ws = omega arith in
          ap₂ (λ x y. limit_word x y (k % 3)) (lower-at ws A (k / 3) few) (upper-at ws A (k / 3) few)
          ∙ limit-words ws A (k / 3) few (k % 3) (omega arith)
          ∙ ap (λ c. word ws (2 + m_of ws * n_of ws + c)) (let z : 3 * (k / 3) + k % 3 ≡ k = omega arith in z)

  rows_back : flatten (pieces_of ws).rows ≡ table (m_of ws * n_of ws) (λ k. word ws (2 + k))
  unfolding pieces_of
  rows_back = flatten-table (m_of ws) (n_of ws) (λ k. word ws (2 + k))

  pub pieces-back : pieces_words (pieces_of ws) ≡ ws
  unfolding pieces_words pieces_of table_from
  pieces-back =
      ap₂ (λ x y. x ∷ y) (sym (own-size 1 (word ws 0) A.n-least))
      (ap₂ (λ x y. x ∷ y) (sym (own-size 0 (word ws 1) A.m-least))
      (ap₂ (λ x y. x ++ y) rows_back limits-back))
      ∙ sym
      (sym (table-all ws (pos 0)) ∙ ap (λ k. table k (word ws)) A.exact
      ∙ table-two (2 + m_of ws * n_of ws) (3 * vars_of ws) (word ws)
      ∙ ap (λ l. l ++ table (3 * vars_of ws) (λ k. word ws (2 + m_of ws * n_of ws + k)))
      (table-two 2 (m_of ws * n_of ws) (word ws)))

  -- ---- and those parts are fine

  zero-each : (l : List ℤ) (j : ℕ) → j < length l → all_zero l ≡ true → get_or l j (pos 0) ≡ pos 0
  unfolding all_zero
  zero-each [] j h e = let o : ⊥ = omega arith in absurd o
  zero-each (z ∷ l) zero h e = (tells-eq_z z (pos 0)).if-true (and-true (eq_z z (pos 0)) (all_zero l) e).0
  zero-each (z ∷ l) (suc j) h e = zero-each l j (omega arith) (and-true (eq_z z (pos 0)) (all_zero l) e).1

  fine-row : (i : ℕ) → i < m_of ws → FineRow (n_of ws) (table (n_of ws) (coefficient_word ws i))
  fine-row i h = record {
    width = table-length (n_of ws) (coefficient_word ws i);
    each = each-table FineNumber (n_of ws) (coefficient_word ws i)
        (λ j l. tells-true (tells-within _ (coefficient_word ws i j))
        (A.coefficients (i * n_of ws + j) (digits_lt h l)));
    filled = go (all_zero (table (n_of ws) (coefficient_word ws i))) refl;
  }
    where
      go : (b : Bool) → all_zero (table (n_of ws) (coefficient_word ws i)) ≡ b → b ≡ false
      go false e = refl
      go true e =
          let w = A.no-blank i h in
          absurd (w.2 (sym (table_at (n_of ws) (coefficient_word ws i) (pos 0) w.0 w.1)
          ∙ zero-each (table (n_of ws) (coefficient_word ws i)) w.0
          (rw (table-length (n_of ws) (coefficient_word ws i)) w.1) e))

  fine-slot : (b s : Bool) (z : ℤ) → FineLimit b z → FineSlot (present b (record { plain = z; strict = s }))
  unfolding present
  fine-slot true s z f = tells-true (tells-within largest_limit z) f
  fine-slot false s z f = tt

  fine-side : (v side : ℕ) → v < vars_of ws → FineSlot (slot_on (problem ws) v side)
  unfolding slot_on problem
  fine-side v zero h = fine-slot (has_lower (kind ws v)) (strict_lower (kind ws v)) (lower_word ws v) (A.lowers v h)
  fine-side v (suc s) h = fine-slot (has_upper (kind ws v)) (strict_upper (kind ws v)) (upper_word ws v) (A.uppers v h)

  pub fine-pieces : FinePieces (pieces_of ws)
  unfolding pieces_of
  fine-pieces = record {
    n-least = above 1 (word ws 0) A.n-least;
    n-most = n-few A;
    m-most = m-few A;
    all-rows = table-length (m_of ws) (λ i. table (n_of ws) (coefficient_word ws i));
    each_row = each-table (FineRow (n_of ws)) (m_of ws) (λ i. table (n_of ws) (coefficient_word ws i)) fine-row;
    few-limits = omega (arith, table-length (2 * vars_of ws) (λ k. slot_on (problem ws) (k / 2) (k % 2)));
    each_limit = each-table FineSlot (2 * vars_of ws) (λ k. slot_on (problem ws) (k / 2) (k % 2))
        (λ k h. fine-side (k / 2) (k % 2) (omega arith));
  }
