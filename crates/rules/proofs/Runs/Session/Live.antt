-- The words with some limits taken out.
--   bits_of                what a kind's four bits are
--   live-length, live-front, n-live, m-live, coefficient-live    as many words; n, m and the coefficients as they were
--   kind-live, lower-word-live, upper-word-live, has-.., strict-..    the three words of a variable, and the bits
--   live-accepted          accepted words stay accepted
--   live-agree, live-shown    in its rows and limits their problem is the one with the limits that are kept, and so it
--                          has its evidence
--   live-checked           which the checker accepts
use mathlib.Core.Bool.{Bool, cond, false, true, ◌&&◌}
use mathlib.Core.List.{List}
use mathlib.Core.Path.{ap, ap₂, refl, subst, sym, ◌∙◌, ◌≡◌}
use Prim.Native.Nat.{ℕ, ◌*◌, ◌+◌, ◌-◌, ◌/◌, ◌%◌, ◌^◌, ◌<◌, ◌≤◌}
use native.Mathlib.Omega.{arith}
use lib.Arith.{digits_lt}
use lib.Dec.{le→leb}
use lib.IntN.{nat_abs, pos, ℤ}
use lib.ListN.{length}
use lib.Signed.{le_z_yes, ◌≤ℤ◌}
use Rattle.whole.proofs.Lists.Tables.{table_at, table-length}
use Rattle.rules.proofs.Evidence.Checked.{checked-accepted}
use Rattle.rules.proofs.Evidence.Own.Words.{Judged}
use Rattle.rules.proofs.Refusal.Exactly.{accepted-exactly}
use Rattle.rules.proofs.Runs.Session.Like.{Agree, shown-alike}
use Rattle.rules.proofs.Tableau.Units.{ge-false, lt-true}
use Rattle.rules.specs.Evidence.{checked}
use Rattle.rules.specs.Facts.Evidence.{Shown}
use Rattle.rules.specs.Keeping.Limits.{keeping, kept}
use Rattle.rules.specs.Keeping.Words.{kind_of, live_kind, live_limit, live_word, live_words, bit_value}
use Rattle.rules.specs.Limit.{Limit, bit, has_lower, has_upper, present, strict_lower, strict_upper}
use Rattle.rules.specs.Problem.{Problem, coefficient_word, kind, kind_place, lower_word, m_of, n_of, problem}
use Rattle.rules.specs.Problem.{upper_word, vars_of, word}
use Rattle.rules.specs.Refusal.{Accepted, FineLimit, problem_refusal}
use Rattle.rules.specs.Sizes.{most_rows}
use Rattle.rules.specs.Step.{Side, above, below}

-- ---- a kind

abbrev Bits : (a b c d : Bool) → Type 0
Bits a b c d = (bit 0 (kind_of a b c d) ≡ a) × (bit 1 (kind_of a b c d) ≡ b) × (bit 2 (kind_of a b c d) ≡ c)
    × (bit 3 (kind_of a b c d) ≡ d)

bits_of : (a b c d : Bool) → Bits a b c d
unfolding bit kind_of
bits_of false false false false = (refl, refl, refl, refl)
bits_of false false false true = (refl, refl, refl, refl)
bits_of false false true false = (refl, refl, refl, refl)
bits_of false false true true = (refl, refl, refl, refl)
bits_of false true false false = (refl, refl, refl, refl)
bits_of false true false true = (refl, refl, refl, refl)
bits_of false true true false = (refl, refl, refl, refl)
bits_of false true true true = (refl, refl, refl, refl)
bits_of true false false false = (refl, refl, refl, refl)
bits_of true false false true = (refl, refl, refl, refl)
bits_of true false true false = (refl, refl, refl, refl)
bits_of true false true true = (refl, refl, refl, refl)
bits_of true true false false = (refl, refl, refl, refl)
bits_of true true false true = (refl, refl, refl, refl)
bits_of true true true false = (refl, refl, refl, refl)
bits_of true true true true = (refl, refl, refl, refl)

-- ---- the words

module _ (on : Side → ℕ → Bool) (ws : List ℤ) (exact : length ws ≡ 2 + m_of ws * n_of ws + 3 * vars_of ws) where
  abbrev L : List ℤ
  L = live_words on ws

  live-length : length L ≡ length ws
  unfolding live_words
  live-length = table-length (length ws) (live_word on ws)

  live_at : (i : ℕ) → i < length ws → word L i ≡ live_word on ws i
  unfolding live_words
  live_at i h = table_at (length ws) (live_word on ws) (pos 0) i h

  live-front : (i : ℕ) → i < 2 + m_of ws * n_of ws → word L i ≡ word ws i
  unfolding live_word
  live-front i h = live_at i (omega arith) ∙ rw (lt-true {a = i} {b = kind_place ws 0} (omega arith)) refl

  live-limit : (v r : ℕ) → v < vars_of ws → r < 3 → word L (kind_place ws v + r) ≡ live_limit on ws v r
  unfolding live_word
  live-limit v r h k = live_at (kind_place ws v + r) (omega arith)
      ∙ ap (λ b. cond b (word ws (kind_place ws v + r)) (live_limit on ws (i / 3) (i % 3)))
      (ge-false {a = kind_place ws v + r} {b = kind_place ws 0} (omega arith))
      ∙ ap₂ (live_limit on ws) (let z : i / 3 ≡ v = omega arith in z) (let z : i % 3 ≡ r = omega arith in z)
    where
      i : ℕ
      i = kind_place ws v + r - kind_place ws 0

  n-live : n_of L ≡ n_of ws
  n-live = ap nat_abs (live-front 0 (omega arith))

  m-live : m_of L ≡ m_of ws
  m-live = ap nat_abs (live-front 1 (omega arith))

  place-live : (v : ℕ) → kind_place L v ≡ kind_place ws v
  place-live v = ap₂ (λ m n. 2 + m * n + 3 * v) m-live n-live

  -- word r of the three of variable v
  limit-word : (v r : ℕ) → v < vars_of ws → r < 3 → word L (kind_place L v + r) ≡ live_limit on ws v r
  limit-word v r h k = ap (λ p. word L (p + r)) (place-live v) ∙ live-limit v r h k

  module _ (v : ℕ) (h : v < vars_of ws) where
    kind-live : kind L v ≡ live_kind (on below v) (on above v) (kind ws v)
    unfolding live_limit
    kind-live = ap (word L) (let z : kind_place L v ≡ kind_place L v + 0 = omega arith in z)
        ∙ limit-word v 0 h (omega arith)

    lower-word-live : lower_word L v ≡ cond (on below v) (lower_word ws v) (pos 0)
    unfolding live_limit
    lower-word-live = limit-word v 1 h (omega arith)

    upper-word-live : upper_word L v ≡ cond (on above v) (upper_word ws v) (pos 0)
    unfolding live_limit
    upper-word-live = limit-word v 2 h (omega arith)

    -- its bits: those of the limits that are kept
    has-lower-live : has_lower (kind L v) ≡ (on below v && has_lower (kind ws v))
    unfolding live_kind
    has-lower-live = ap has_lower kind-live ∙ (bits_of _ _ _ _).0

    has-upper-live : has_upper (kind L v) ≡ (on above v && has_upper (kind ws v))
    unfolding live_kind
    has-upper-live = ap has_upper kind-live ∙ (bits_of _ _ _ _).1

    strict-lower-live : strict_lower (kind L v) ≡ (on below v && strict_lower (kind ws v))
    unfolding live_kind
    strict-lower-live = ap strict_lower kind-live ∙ (bits_of _ _ _ _).2

    strict-upper-live : strict_upper (kind L v) ≡ (on above v && strict_upper (kind ws v))
    unfolding live_kind
    strict-upper-live = ap strict_upper kind-live ∙ (bits_of _ _ _ _).3

  coefficient-live : (i j : ℕ) → i < m_of ws → j < n_of ws → coefficient_word L i j ≡ coefficient_word ws i j
  coefficient-live i j h k = ap (λ n. word L (2 + (i * n + j))) n-live
      ∙ live-front (2 + (i * n_of ws + j)) (let z = digits_lt h k in omega arith)

-- ---- accepted words stay accepted

value-most : (b : ℕ) (set : Bool) → bit_value b set ≤ 2 ^ b
value-most b true = omega arith
value-most b false = omega arith

pos-le : {a b : ℕ} → a ≤ b → pos a ≤ℤ pos b
pos-le {a} {b} h = le_z_yes (le→leb a b h)

kind-range : (a b c d : Bool) → (pos 0 ≤ℤ kind_of a b c d) × (kind_of a b c d ≤ℤ pos 15)
unfolding kind_of
kind-range a b c d =
    let p : bit_value 0 a ≤ 1 = value-most 0 a in
    let q : bit_value 1 b ≤ 2 = value-most 1 b in
    let r : bit_value 2 c ≤ 4 = value-most 2 c in
    let s : bit_value 3 d ≤ 8 = value-most 3 d in
    (pos-le (omega arith), pos-le (omega arith))

-- a limit's word that is fine, where the limit is kept and where it is dropped
fine-live : (b has : Bool) (z : ℤ) → FineLimit has z → FineLimit (b && has) (cond b z (pos 0))
fine-live true has z F = F
fine-live false has z F = refl

-- a mark on a limit that is there
marked-live : (b strict has : Bool) → (strict ≡ true → has ≡ true) → (b && strict) ≡ true → (b && has) ≡ true
marked-live true strict has f e = f e
marked-live false strict has f e = e

module _ {rows : ℕ} (on : Side → ℕ → Bool) (ws : List ℤ) (A : Accepted rows ws) where
  abbrev K : List ℤ
  K = live_words on ws

  abbrev n-is : n_of K ≡ n_of ws
  n-is = n-live on ws A.exact

  abbrev m-is : m_of K ≡ m_of ws
  m-is = m-live on ws A.exact

  variable-of : {v : ℕ} → v < vars_of K → v < vars_of ws
  variable-of h = rw (← n-is, ← m-is) h

  pub live-accepted : Accepted rows (live_words on ws)
  live-accepted = record {
    enough = rw (live-length on ws A.exact) A.enough;
    n-least = rw (live-front on ws A.exact 0 (omega arith)) A.n-least;
    n-most = rw (live-front on ws A.exact 0 (omega arith)) A.n-most;
    m-least = rw (live-front on ws A.exact 1 (omega arith)) A.m-least;
    m-most = rw (live-front on ws A.exact 1 (omega arith)) A.m-most;
    exact = live-length on ws A.exact ∙ A.exact ∙ sym (ap₂ (λ n m. 2 + m * n + 3 * (n + m)) n-is m-is);
    coefficients = λ i h. let k : i < m_of ws * n_of ws = rw (← n-is, ← m-is) h in
        rw (live-front on ws A.exact (2 + i) (omega arith)) (A.coefficients i k);
    kind-least = λ v h. rw (kind-live on ws A.exact v (variable-of h)) (unfold live_kind in (kind-range _ _ _ _).0);
    kind-most = λ v h. rw (kind-live on ws A.exact v (variable-of h)) (unfold live_kind in (kind-range _ _ _ _).1);
    lower-marked = λ v h e. let k = variable-of h in has-lower-live on ws A.exact v k
        ∙ marked-live (on below v) (strict_lower (kind ws v)) (has_lower (kind ws v)) (A.lower-marked v k)
        (sym (strict-lower-live on ws A.exact v k) ∙ e);
    upper-marked = λ v h e. let k = variable-of h in has-upper-live on ws A.exact v k
        ∙ marked-live (on above v) (strict_upper (kind ws v)) (has_upper (kind ws v)) (A.upper-marked v k)
        (sym (strict-upper-live on ws A.exact v k) ∙ e);
    lowers = λ v h. let k = variable-of h in
        rw (has-lower-live on ws A.exact v k, lower-word-live on ws A.exact v k)
        (fine-live (on below v) (has_lower (kind ws v)) (lower_word ws v) (A.lowers v k));
    uppers = λ v h. let k = variable-of h in
        rw (has-upper-live on ws A.exact v k, upper-word-live on ws A.exact v k)
        (fine-live (on above v) (has_upper (kind ws v)) (upper_word ws v) (A.uppers v k));
    no-blank = λ i h. let k : i < m_of ws = rw (← m-is) h in let (j, q, z) = A.no-blank i k in
        (j, rw n-is q, λ e. z (sym (coefficient-live on ws A.exact i j k q) ∙ e));
  }

-- ---- their problem is the one with the limits that are kept

one-limit : (b has strict : Bool) (z : ℤ) →
    present {X = Limit} (b && has) (record { plain = cond b z (pos 0); strict = b && strict })
    ≡ kept b (present {X = Limit} has (record { plain = z; strict = strict }))
unfolding present kept
one-limit true has strict z = refl
one-limit false has strict z = refl

module _ {rows : ℕ} (on : Side → ℕ → Bool) (ws : List ℤ) (A : Accepted rows ws) where
  abbrev Q : Problem Limit
  Q = keeping on (problem ws)

  abbrev R : Problem Limit
  R = problem (live_words on ws)

  -- in the rows, and of every variable
  live-agree : Agree Q.n Q.m Q.coefficient R.coefficient Q.lower Q.upper R.lower R.upper
  unfolding problem
  live-agree = record {
    coefficients = coefficient-live on ws A.exact;
    lowers = λ v h. rw (
      has-lower-live on ws A.exact v h,
      lower-word-live on ws A.exact v h,
      strict-lower-live on ws A.exact v h,
    )
        (one-limit (on below v) (has_lower (kind ws v)) (strict_lower (kind ws v)) (lower_word ws v));
    uppers = λ v h. rw (
      has-upper-live on ws A.exact v h,
      upper-word-live on ws A.exact v h,
      strict-upper-live on ws A.exact v h,
    )
        (one-limit (on above v) (has_upper (kind ws v)) (strict_upper (kind ws v)) (upper_word ws v));
  }

  live-shown : (a : List ℤ) → Shown Q a → Shown R a
  unfolding problem
  live-shown a S =
      subst (λ (P : Problem Limit). Shown P a)
      (ap₂ (λ n m. record { n = n; m = m; coefficient = R.coefficient; lower = R.lower; upper = R.upper })
      (sym (n-live on ws A.exact)) (sym (m-live on ws A.exact)))
      (shown-alike Q.n Q.m Q.coefficient R.coefficient Q.lower Q.upper R.lower R.upper
      live-agree a S)

-- evidence over the limits that are kept passes the checker for these words
pub live-checked : (on : Side → ℕ → Bool) (ws : List ℤ) → Accepted most_rows ws → (a : List ℤ) →
    Judged (keeping on (problem ws)) a → checked (live_words on ws) a ≡ 8
unfolding problem_refusal problem
live-checked on ws A a J = (checked-accepted (live_words on ws) a).1 (
  (accepted-exactly most_rows (live_words on ws)).1 (live-accepted on ws A),
  rw (n-live on ws A.exact, m-live on ws A.exact) J.enough,
  live-shown on ws A a J.judged,
)
