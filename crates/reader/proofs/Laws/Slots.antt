-- The words of one limit more.
--   slot-here, slot-other  the limits by number, with one more
--   limits-words           how many words there are for limits
--   limit-words-set        one limit put into the three words of its variable
use mathlib.Core.Bool.{Bool, true, false, cond}
use mathlib.Core.List.{List, [], ◌∷◌, ◌++◌, append_assoc}
use mathlib.Core.Logic.{◌≢◌}
use mathlib.Core.Option.{Option, none, some}
use mathlib.Core.Path.{◌≡◌, sym, ◌∙◌, ap, ap₂, subst}
use Prim.Native.Nat.{ℕ, zero, suc, ◌+◌, ◌-◌, ◌*◌, ◌/◌, ◌%◌, ◌≤◌, ◌<◌}
use native.Mathlib.Decide.{ℕ_discrete, dec_lt}
use native.Mathlib.Omega.{arith}
use lib.IntN.{ℤ, pos, ◌+ℤ◌}
use lib.ListN.{get_or, length, length-append, length-replicate, length-set, replicate, set, get_or-append}
use lib.ListN.{get_or-eq_default}
use lib.Seq.{ext_get_or, get_or-append_seam, get_or-set_other, get_or-set_same}
use Rattle.whole.proofs.Lists.Tables.{table_at, table-length}
use Rattle.rules.specs.Limit.{Limit}
use Rattle.rules.specs.Exchange.Reader.{Pieces, limit_word, limit_words, marks, plain_number, slot_at, with_limit}
use Rattle.rules.proofs.Exchange.Words.Tables.{defaults-behind}
use Rattle.reader.specs.Limits.{limit_set, mark_of, side_number}

-- ---- the limits by number

abbrev earlier : Pieces → ℕ → List (Option Limit)
earlier P k = P.limits ++ replicate (k - length P.limits) none

module _ (P : Pieces) (k : ℕ) (l : Limit) (h : length P.limits ≤ k) where
  earlier-length : length (earlier P k) ≡ k
  earlier-length = simp (length-append, length-replicate) (omega arith)

  with-limits : (with_limit P k l).limits ≡ earlier P k ++ (some l ∷ [])
  unfolding with_limit
  with-limits = sym (append_assoc P.limits (replicate (k - length P.limits) none) (some l ∷ []))

  slot-here : slot_at (with_limit P k l) k ≡ some l
  unfolding slot_at
  slot-here =
      ap (λ s. get_or s k none) with-limits
      ∙ ap (λ i. get_or (earlier P k ++ (some l ∷ [])) i none) (sym earlier-length)
      ∙ get_or-append_seam (earlier P k) (some l) [] none

  slot-other : (i : ℕ) → i ≢ k → slot_at (with_limit P k l) i ≡ slot_at P i
  unfolding slot_at
  slot-other i n = ap (λ s. get_or s i none) with-limits ∙ go (dec_lt i k) (dec_lt k i)
    where
      long : k < i → length (earlier P k ++ (some l ∷ [])) ≤ i
      long q = rw (length-append (earlier P k) (some l ∷ []), earlier-length) (omega arith)

      go : Dec (i < k) → Dec (k < i) → get_or (earlier P k ++ (some l ∷ [])) i none ≡ get_or P.limits i none
      go (yes q) o =
          get_or-append (earlier P k) (some l ∷ []) none i (rw earlier-length q)
          ∙ defaults-behind P.limits (k - length P.limits) none i
      go (no q) (yes o) =
          get_or-eq_default (earlier P k ++ (some l ∷ [])) none (long o)
          ∙ sym (get_or-eq_default P.limits none (omega arith))
      go (no q) (no o) = absurd (n (let z : i ≡ k = omega arith in z))

-- ---- the words of all limits

abbrev word_of : Pieces → ℕ → ℕ → ℤ
word_of P u c = limit_word (slot_at P (2 * u)) (slot_at P (2 * u + 1)) c

pub limits-words : (P : Pieces) → length (limit_words P) ≡ 3 * (P.n + P.m)
unfolding limit_words
limits-words P = table-length (3 * (P.n + P.m)) (λ k. word_of P (k / 3) (k % 3))

word-at : (P : Pieces) (u c : ℕ) → u < P.n + P.m → c < 3 →
    get_or (limit_words P) (3 * u + c) (pos 0) ≡ word_of P u c
unfolding limit_words
word-at P u c h l =
    table_at (3 * (P.n + P.m)) (λ k. word_of P (k / 3) (k % 3)) (pos 0) (3 * u + c) (omega arith)
    ∙ ap₂ (λ q r. word_of P q r) (let z : (3 * u + c) / 3 ≡ u = omega arith in z)
    (let z : (3 * u + c) % 3 ≡ c = omega arith in z)

module _ (P : Pieces) (v k : ℕ) (l : Limit) (few : v < P.n + P.m) (h : length P.limits ≤ k) (own : k / 2 ≡ v)
  where
    abbrev Q : Pieces
    Q = with_limit P k l

    -- a list that differs in the three words of one variable
    all_words : (L : List ℤ) → length L ≡ length (limit_words P) →
        ((i : ℕ) → i / 3 ≢ v → get_or L i (pos 0) ≡ get_or (limit_words P) i (pos 0)) →
        ((c : ℕ) → c < 3 → get_or L (3 * v + c) (pos 0) ≡ word_of (with_limit P k l) v c) →
        L ≡ limit_words (with_limit P k l)
    unfolding with_limit
    all_words L e others here =
        ext_get_or (pos 0) L (limit_words Q) (e ∙ limits-words P ∙ sym (limits-words Q))
        (λ i q. each i (subst (λ s. i < s) (e ∙ limits-words P) q))
      where
        at : (u c : ℕ) → u < P.n + P.m → c < 3 → Dec (u ≡ v) → get_or L (3 * u + c) (pos 0) ≡ word_of Q u c
        at u c a b (yes s) =
            ap (λ j. get_or L (3 * j + c) (pos 0)) s ∙ here c b ∙ sym (ap (λ j. word_of Q j c) s)
        at u c a b (no n) =
            others (3 * u + c) (λ s. n (let z : u ≡ v = omega arith in z))
            ∙ word-at P u c a b
            ∙ ap₂ (λ s t. limit_word s t c)
            (sym (slot-other P k l h (2 * u) (λ s. n (let z : u ≡ v = omega arith in z))))
            (sym (slot-other P k l h (2 * u + 1) (λ s. n (let z : u ≡ v = omega arith in z))))

        each : (i : ℕ) → i < 3 * (P.n + P.m) → get_or L i (pos 0) ≡ get_or (limit_words Q) i (pos 0)
        each i q =
            ap (λ j. get_or L j (pos 0)) split
            ∙ at (i / 3) (i % 3) (omega arith) (omega arith) (ℕ_discrete (i / 3) v)
            ∙ sym (ap (λ j. get_or (limit_words Q) j (pos 0)) split
            ∙ word-at Q (i / 3) (i % 3) (omega arith) (omega arith))
          where
            split : i ≡ 3 * (i / 3) + i % 3
            split = omega arith

-- ---- one limit more

abbrev pub limit_said : ℤ → Bool → Limit
limit_said z strict = record { plain = z; strict = strict }

module _ (P : Pieces) (v : ℕ) (strict : Bool) (z : ℤ) (few : v < P.n + P.m) where
  inside : (c : ℕ) → c < 3 → 3 * v + c < length (limit_words P)
  inside c b = rw (limits-words P) (omega arith)

  first-inside : 3 * v < length (limit_words P)
  first-inside = rw (limits-words P) (omega arith)

  first_word : get_or (limit_words P) (3 * v) (pos 0) ≡ word_of P v 0
  first_word =
      ap (λ j. get_or (limit_words P) j (pos 0)) (let e : 3 * v ≡ 3 * v + 0 = omega arith in e)
      ∙ word-at P v 0 few (omega arith)

  -- two of the three words, the first and another
  module _ (c : ℕ) (low : 0 < c) (most : c < 3) (x : ℤ) where
    abbrev L : List ℤ
    L = set (set (limit_words P) (3 * v) x) (3 * v + c) z

    two-length : length L ≡ length (limit_words P)
    two-length =
        length-set (set (limit_words P) (3 * v) x) (3 * v + c) z ∙ length-set (limit_words P) (3 * v) x

    two-other : (i : ℕ) → i ≢ 3 * v → i ≢ 3 * v + c → get_or L i (pos 0) ≡ get_or (limit_words P) i (pos 0)
    two-other i a b =
        get_or-set_other (set (limit_words P) (3 * v) x) (3 * v + c) i z (pos 0) b
        ∙ get_or-set_other (limit_words P) (3 * v) i x (pos 0) a

    two-apart : (i : ℕ) → i / 3 ≢ v → get_or L i (pos 0) ≡ get_or (limit_words P) i (pos 0)
    two-apart i n = two-other i
        (λ e. n (let s : i / 3 ≡ v = omega arith in s)) (λ e. n (let s : i / 3 ≡ v = omega arith in s))

    two-first : get_or L (3 * v + 0) (pos 0) ≡ x
    two-first =
        ap (λ j. get_or L j (pos 0)) (let e : 3 * v + 0 ≡ 3 * v = omega arith in e)
        ∙ get_or-set_other (set (limit_words P) (3 * v) x) (3 * v + c) (3 * v) z (pos 0)
        (λ e. let o : ⊥ = omega arith in o)
        ∙ get_or-set_same (limit_words P) (3 * v) x (pos 0) first-inside

    two-second : get_or L (3 * v + c) (pos 0) ≡ z
    two-second =
        get_or-set_same (set (limit_words P) (3 * v) x) (3 * v + c) z (pos 0)
        (rw (length-set (limit_words P) (3 * v) x) (inside c most))

  module _ (h : length P.limits ≤ 2 * v + 0) where
    abbrev Lower : Pieces
    Lower = with_limit P (2 * v + 0) (limit_said z strict)

    lower-slot : slot_at Lower (2 * v) ≡ some (limit_said z strict)
    lower-slot =
        ap (slot_at Lower) (let e : 2 * v ≡ 2 * v + 0 = omega arith in e)
        ∙ slot-here P (2 * v + 0) (limit_said z strict) h

    upper-same : slot_at Lower (2 * v + 1) ≡ slot_at P (2 * v + 1)
    upper-same = slot-other P (2 * v + 0) (limit_said z strict) h (2 * v + 1) (λ e. let o : ⊥ = omega arith in o)

    upper-none : slot_at P (2 * v + 1) ≡ none
    unfolding slot_at
    upper-none = get_or-eq_default P.limits none (omega arith)

    lower-here : (c : ℕ) → c < 3 →
        get_or (L 1 (omega arith) (omega arith) (pos (mark_of strict))) (3 * v + c) (pos 0) ≡ word_of Lower v c
    unfolding limit_word marks mark_of plain_number
    lower-here zero b =
        two-first 1 (omega arith) (omega arith) (pos (mark_of strict))
        ∙ ap pos (let e : 1 + cond strict 4 0 ≡ 1 + cond strict 4 0 + 2 * 0 = omega arith in e)
        ∙ sym (ap₂ (λ s t. limit_word s t 0) lower-slot (upper-same ∙ upper-none))
    lower-here (suc zero) b =
        two-second 1 (omega arith) (omega arith) (pos (mark_of strict)) ∙ sym (ap plain_number lower-slot)
    lower-here (suc (suc zero)) b =
        two-other 1 (omega arith) (omega arith) (pos (mark_of strict)) (3 * v + 2)
        (λ e. let o : ⊥ = omega arith in o) (λ e. let o : ⊥ = omega arith in o)
        ∙ word-at P v 2 few (omega arith) ∙ sym (ap plain_number upper-same)
    lower-here (suc (suc (suc c))) b = let o : ⊥ = omega arith in absurd o

  module _ (h : length P.limits ≤ 2 * v + 1) where
    abbrev Upper : Pieces
    Upper = with_limit P (2 * v + 1) (limit_said z strict)

    abbrev kind : ℤ
    kind = get_or (limit_words P) (3 * v) (pos 0) +ℤ pos (2 * mark_of strict)

    lower-same : slot_at Upper (2 * v) ≡ slot_at P (2 * v)
    lower-same = slot-other P (2 * v + 1) (limit_said z strict) h (2 * v) (λ e. let o : ⊥ = omega arith in o)

    upper-slot : slot_at Upper (2 * v + 1) ≡ some (limit_said z strict)
    upper-slot = slot-here P (2 * v + 1) (limit_said z strict) h

    none_yet : slot_at P (2 * v + 1) ≡ none
    unfolding slot_at
    none_yet = get_or-eq_default P.limits none (omega arith)

    pub kind-before : get_or (limit_words P) (3 * v) (pos 0) ≡ pos (marks (slot_at P (2 * v)) + 2 * 0)
    unfolding limit_word marks
    kind-before = first_word ∙ ap (λ t. limit_word (slot_at P (2 * v)) t 0) none_yet

    upper-here : (c : ℕ) → c < 3 →
        get_or (L 2 (omega arith) (omega arith) kind) (3 * v + c) (pos 0) ≡ word_of Upper v c
    unfolding limit_word marks mark_of plain_number
    upper-here zero b =
        two-first 2 (omega arith) (omega arith) kind
        ∙ ap (λ w. w +ℤ pos (2 * mark_of strict)) kind-before
        ∙ ap pos (sum (marks (slot_at P (2 * v))) (cond strict 4 0))
        ∙ sym (ap₂ (λ s t. limit_word s t 0) lower-same upper-slot)
      where
        sum : (a b : ℕ) → a + 2 * 0 + 2 * (1 + b) ≡ a + 2 * (1 + b)
        sum a b = omega arith
    upper-here (suc zero) b =
        two-other 2 (omega arith) (omega arith) kind (3 * v + 1)
        (λ e. let o : ⊥ = omega arith in o) (λ e. let o : ⊥ = omega arith in o)
        ∙ word-at P v 1 few (omega arith) ∙ sym (ap plain_number lower-same)
    upper-here (suc (suc zero)) b =
        two-second 2 (omega arith) (omega arith) kind ∙ sym (ap plain_number upper-slot)
    upper-here (suc (suc (suc c))) b = let o : ⊥ = omega arith in absurd o

pub limit-words-set : (P : Pieces) (v : ℕ) (upper strict : Bool) (z : ℤ) → v < P.n + P.m →
    length P.limits ≤ 2 * v + side_number upper →
    limit_set (limit_words P) (3 * v) upper strict z
    ≡ limit_words (with_limit P (2 * v + side_number upper) (record { plain = z; strict = strict }))
unfolding limit_set side_number
limit-words-set P v false strict z few h =
    all_words P v (2 * v + 0) (limit_said z strict) few h (omega arith)
    (L P v strict z few 1 (omega arith) (omega arith) (pos (mark_of strict)))
    (two-length P v strict z few 1 (omega arith) (omega arith) (pos (mark_of strict)))
    (two-apart P v strict z few 1 (omega arith) (omega arith) (pos (mark_of strict)))
    (lower-here P v strict z few h)
limit-words-set P v true strict z few h =
    all_words P v (2 * v + 1) (limit_said z strict) few h (omega arith)
    (L P v strict z few 2 (omega arith) (omega arith) (kind P v strict z few h))
    (two-length P v strict z few 2 (omega arith) (omega arith) (kind P v strict z few h))
    (two-apart P v strict z few 2 (omega arith) (omega arith) (kind P v strict z few h))
    (upper-here P v strict z few h)
