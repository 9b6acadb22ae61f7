-- The tokens of the text that is written for a problem (tokens-written): those of its parts, one after the other.
--   fixed           the fixed texts, with their tokens
--   digits-run, column-run, row-run, name-run, relation-run   numbers, names and relations are one token each
--   tokens-written  so a text's tokens are those of the problem's parts
use mathlib.Core.Bool.{Bool, true, false, cond}
use mathlib.Core.List.{List, [], ◌∷◌, ◌++◌, append_assoc}
use mathlib.Core.Path.{◌≡◌, refl, sym, ◌∙◌, ap, ap₂}
use Prim.Native.Nat.{ℕ, zero, suc, ◌+◌, ◌-◌, ◌*◌, ◌/◌, ◌%◌, ◌≤◌, ◌<◌}
use native.Mathlib.Omega.{arith}
use borrow.Author.Tests.{lt-ltb, le-ltb, ne_eqb}
use lib.Dec.{eqb, ltb}
use lib.IntN.{ℤ, pos, negsuc}
use Rattle.whole.specs.Tables.{table}
use Rattle.rules.specs.Limit.{has_lower, has_upper, present, strict_lower, strict_upper}
use Rattle.rules.specs.Problem.{coefficient_word, kind, lower_word, m_of, n_of, problem, upper_word, vars_of}
use Rattle.rules.specs.Program.Text
use Rattle.rules.specs.Program.Text.{ascii, digit, digits, lines_below}
use Rattle.rules.specs.Exchange.Tokens
use Rattle.rules.specs.Exchange.Tokens.{is_blank, is_comment, is_parenthesis, is_plain, token_bytes}
use Rattle.rules.specs.Exchange.Script
use Rattle.rules.specs.Exchange.Script.{assert_limit, assert_row, check_sat, close, column_name, declaration}
use Rattle.rules.specs.Exchange.Script.{declare_const, end_assert, exchange_text, less, limit_text, limits_text}
use Rattle.rules.specs.Exchange.Script.{lower_relation, more, name_of, no_less, no_more, number_text, of_real}
use Rattle.rules.specs.Exchange.Script.{open_minus, open_sum, open_term, row_name, row_text, set_logic, space, sum_text}
use Rattle.rules.specs.Exchange.Script.{term, terms_text, upper_relation}
use Rattle.rules.specs.Exchange.Reader.{closes, opens}
use Rattle.rules.proofs.Program.Numbers.{by_digits}
use Rattle.rules.proofs.Exchange.Tokens.Spelled
use Rattle.rules.proofs.Exchange.Tokens.Said.{below-pairs, below-same, below_split, body, heads, listed}
use Rattle.rules.proofs.Exchange.Tokens.Said.{listed-table, pieces_of, relation_at, said, said_declaration}
use Rattle.rules.proofs.Exchange.Tokens.Said.{said_limit, said_number, said_row, said_side, said_term, slot_on}
use Rattle.rules.proofs.Exchange.Tokens.Said.{words_below}
use Rattle.rules.proofs.Exchange.Tokens.Spelled.{AllPlain, Lex, Run, EndsRun, lex-none, lex-run, lex-then}
use Rattle.rules.proofs.Exchange.Tokens.Spelled.{lex-tokens, plain_more, starts-then}

-- ---- the fixed texts: their tokens, and that those which stand behind a run end it

record Fixed : Type 0 where
  pub set-logic : Lex set_logic (token_bytes set_logic)
  pub declare-const : Lex declare_const (token_bytes declare_const)
  pub of-real : Lex of_real (token_bytes of_real)
  pub assert-row : Lex assert_row (token_bytes assert_row)
  pub end-assert : Lex end_assert (token_bytes end_assert)
  pub open-sum : (s : List ℕ) (ws : List (List ℕ)) → EndsRun s → Lex s ws →
      Lex (open_sum ++ s) (token_bytes open_sum ++ ws)
  pub open-term : Lex open_term (token_bytes open_term)
  pub open-minus : Lex open_minus (token_bytes open_minus)
  pub closing : Lex close (token_bytes close)
  pub spacing : Lex space []
  pub assert-limit : Lex assert_limit (token_bytes assert_limit)
  pub check-sat : Lex check_sat (token_bytes check_sat)
  pub real-starts : EndsRun of_real
  pub assert-starts : EndsRun end_assert
  pub sum-starts : EndsRun open_sum
  pub term-starts : EndsRun open_term
  pub close-starts : EndsRun close
  pub space-starts : EndsRun space

fixed : Fixed
unfolding Spelled.spelled Tokens.is_blank Tokens.is_parenthesis Tokens.ends_line Tokens.is_comment Tokens.is_plain
    Tokens.begins Tokens.single Tokens.mode_after Tokens.tokens_at Tokens.last Tokens.scan Tokens.tokens
    Tokens.token_bytes
    Text.ascii Script.set_logic Script.declare_const Script.of_real Script.assert_row Script.end_assert Script.open_sum
    Script.open_term Script.open_minus Script.close Script.space Script.assert_limit Script.check_sat
fixed = record {
  set-logic = record { lex = λ t. refl };
  declare-const = record { lex = λ t. refl };
  of-real = record { lex = λ t. refl };
  assert-row = record { lex = λ t. refl };
  end-assert = record { lex = λ t. refl };
  open-sum = λ s ws e h.
      lex-then {s = 32 ∷ 40 ∷ []} {v = (40 ∷ []) ∷ []} (record { lex = λ t. refl })
      (lex-run {w = 43 ∷ []} (record { first = 43; others = []; is = refl; plain = (refl, tt) }) e h);
  open-term = record { lex = λ t. refl };
  open-minus = record { lex = λ t. refl };
  closing = record { lex = λ t. refl };
  spacing = record { lex = λ t. refl };
  assert-limit = record { lex = λ t. refl };
  check-sat = record { lex = λ t. refl };
  real-starts = record { first = 32; others = _; is = refl; stops = refl };
  assert-starts = record { first = 41; others = _; is = refl; stops = refl };
  sum-starts = record { first = 32; others = _; is = refl; stops = refl };
  term-starts = record { first = 32; others = _; is = refl; stops = refl };
  close-starts = record { first = 41; others = _; is = refl; stops = refl };
  space-starts = record { first = 32; others = _; is = refl; stops = refl };
}

-- ---- numbers, names and relations are one token each

digit-plain : (d : ℕ) → d < 10 → is_plain (digit d) ≡ true
unfolding is_plain is_blank is_parenthesis is_comment
digit-plain d h = rw (
  ne_eqb (48 + d) 9 (λ e. omega arith),
  ne_eqb (48 + d) 10 (λ e. omega arith),
  ne_eqb (48 + d) 13 (λ e. omega arith),
  ne_eqb (48 + d) 32 (λ e. omega arith),
  ne_eqb (48 + d) 40 (λ e. omega arith),
  ne_eqb (48 + d) 41 (λ e. omega arith),
  ne_eqb (48 + d) 59 (λ e. omega arith),
) refl

digits-plain : (k : ℕ) → AllPlain (digits k)
digits-plain = by_digits (λ n t. AllPlain t) (λ n h. (digit-plain n h, tt))
    (λ n t h. plain_more t (digit (n % 10)) h (digit-plain (n % 10) (omega arith)))

-- a text that is not empty
run_of : (w : List ℕ) → AllPlain w → (w ≡ [] → ⊥) → Run w
run_of [] h n = absurd (n refl)
run_of (b ∷ w) h n = record { first = b; others = w; is = refl; plain = h }

digits-filled : (k : ℕ) → digits k ≡ [] → ⊥
digits-filled = by_digits (λ n t. t ≡ [] → ⊥) (λ n h e. clash (digit n) [] e) (λ n t h e. more t (digit (n % 10)) e)
  where
    clash : (b : ℕ) (t : List ℕ) → b ∷ t ≡ [] → ⊥
    clash b t e = let z : ◌≡◌ {A = ℕ} 0 1 = cc in omega arith

    more : (t : List ℕ) (b : ℕ) → t ++ (b ∷ []) ≡ [] → ⊥
    more [] b e = clash b [] e
    more (a ∷ t) b e = clash a (t ++ (b ∷ [])) e

digits-run : (k : ℕ) → Run (digits k)
digits-run k = run_of (digits k) (digits-plain k) (digits-filled k)

column-run : (j : ℕ) → Run (column_name j)
unfolding column_name ascii is_plain is_blank is_parenthesis is_comment
column-run j = record { first = 120; others = digits j; is = refl; plain = (refl, digits-plain j) }

row-run : (i : ℕ) → Run (row_name i)
unfolding row_name ascii is_plain is_blank is_parenthesis is_comment
row-run i = record { first = 114; others = digits i; is = refl; plain = (refl, digits-plain i) }

name-run : (n v : ℕ) → Run (name_of n v)
unfolding name_of
name-run n v = go (ltb v n)
  where
    go : (b : Bool) → Run (cond b (column_name v) (row_name (v - n)))
    go true = column-run v
    go false = row-run (v - n)

relation-run : (side : ℕ) (strict : Bool) → Run (relation_at side strict)
unfolding relation_at lower_relation upper_relation no_less more no_more less ascii is_plain is_blank is_parenthesis
    is_comment
relation-run zero true = record { first = 62; others = []; is = refl; plain = (refl, tt) }
relation-run zero false = record { first = 62; others = 61 ∷ []; is = refl; plain = (refl, (refl, tt)) }
relation-run (suc s) true = record { first = 60; others = []; is = refl; plain = (refl, tt) }
relation-run (suc s) false = record { first = 60; others = 61 ∷ []; is = refl; plain = (refl, (refl, tt)) }

-- ---- a number, and what follows it

lex-as : {s t : List ℕ} {v w : List (List ℕ)} → s ≡ t → v ≡ w → Lex t w → Lex s v
lex-as e f h = rw (e, f) h

number-lex : (z : ℤ) {s : List ℕ} {ws : List (List ℕ)} → EndsRun s → Lex s ws →
    Lex (number_text z ++ s) (said_number z ++ ws)
unfolding number_text said_number
number-lex (pos k) e h = lex-run (digits-run k) e h
number-lex (negsuc k) {s} {ws} e h =
    lex-as
    (simp append_assoc)
    (append_assoc (token_bytes open_minus) (digits (suc k) ∷ token_bytes close) ws)
    (lex-then fixed.open-minus
    (lex-run (digits-run (suc k)) (starts-then s fixed.close-starts) (lex-then fixed.closing h)))

-- ---- commands

lines-lex : (k : ℕ) {f : ℕ → List ℕ} {g : ℕ → List (List ℕ)} → ((i : ℕ) → Lex (f i) (g i)) →
    Lex (lines_below k f) (words_below k g)
unfolding lines_below words_below
lines-lex zero h = lex-none
lines-lex (suc k) h = lex-then (lines-lex k h) (h k)

lines_start : (k : ℕ) (f : ℕ → List ℕ) → EndsRun (f 0) → EndsRun (lines_below (suc k) f)
unfolding lines_below
lines_start zero f h = h
lines_start (suc k) f h = starts-then (f (suc k)) (lines_start k f h)

declaration-lex : (n v : ℕ) → Lex (declaration n v) (said_declaration (name_of n v))
unfolding declaration said_declaration
declaration-lex n v =
    lex-as (append_assoc declare_const (name_of n v) of_real) refl
    (lex-then fixed.declare-const (lex-run (name-run n v) fixed.real-starts fixed.of-real))

term-lex : (z : ℤ) (j : ℕ) → Lex (term z j) (said_term j z)
unfolding term said_term
term-lex z j =
    lex-as (simp append_assoc) refl
    (lex-then fixed.open-term
    (number-lex z (starts-then (column_name j ++ close) fixed.space-starts)
    (lex-then fixed.spacing (lex-run (column-run j) fixed.close-starts fixed.closing))))

term-start : (z : ℤ) (j : ℕ) → EndsRun (term z j)
unfolding term
term-start z j =
    starts-then close (starts-then (column_name j) (starts-then space (starts-then (number_text z) fixed.term-starts)))

-- one term alone, or a sum
sum-lex : (b : Bool) {s : List ℕ} {ws : List (List ℕ)} → EndsRun s → Lex s ws →
    Lex (cond b s (open_sum ++ s ++ close) ++ end_assert)
    (cond b [] (token_bytes open_sum) ++ (ws ++ (cond b [] (token_bytes close) ++ token_bytes end_assert)))
sum-lex true e h = lex-then h fixed.end-assert
sum-lex false {s} {ws} e h =
    lex-as (simp append_assoc) refl
    (fixed.open-sum (s ++ (close ++ end_assert)) (ws ++ (token_bytes close ++ token_bytes end_assert))
    (starts-then (close ++ end_assert) e) (lex-then h (lex-then fixed.closing fixed.end-assert)))

sum-start : (b : Bool) {s : List ℕ} → EndsRun s → EndsRun (cond b s (open_sum ++ s ++ close) ++ end_assert)
sum-start true e = starts-then end_assert e
sum-start false {s} e = starts-then end_assert (starts-then close (starts-then s fixed.sum-starts))

row-lex : (ws : List ℤ) (i : ℕ) → 1 ≤ n_of ws →
    Lex (row_text ws i) (said_row (n_of ws) i (table (n_of ws) (coefficient_word ws i)))
unfolding row_text sum_text terms_text said_row opens closes
row-lex ws i h =
    lex-as (simp append_assoc) (ap around (listed-table said_term (n_of ws) (coefficient_word ws i)))
    (lex-then fixed.assert-row
    (lex-run (row-run i) (sum-start (eqb (n_of ws) 1) starts)
    (sum-lex (eqb (n_of ws) 1) starts (lines-lex (n_of ws) (λ j. term-lex (coefficient_word ws i j) j)))))
  where
    around : List (List ℕ) → List (List ℕ)
    around t = token_bytes assert_row
        ++ row_name i ∷ (cond (eqb (n_of ws) 1) [] (token_bytes open_sum)
        ++ (t ++ (cond (eqb (n_of ws) 1) [] (token_bytes close) ++ token_bytes end_assert)))

    some-start : (n : ℕ) → 1 ≤ n → EndsRun (lines_below n (λ j. term (coefficient_word ws i j) j))
    some-start zero l = absurd (omega arith)
    some-start (suc k) l = lines_start k _ (term-start (coefficient_word ws i 0) 0)

    starts : EndsRun (lines_below (n_of ws) (λ j. term (coefficient_word ws i j) j))
    starts = some-start (n_of ws) h

side-lex : (n v side : ℕ) (b strict : Bool) (z : ℤ) →
    Lex (limit_text b (relation_at side strict) (name_of n v) z)
    (said_side n v side (present b (record { plain = z; strict = strict })))
unfolding limit_text said_side present
side-lex n v side false strict z = lex-none
side-lex n v side true strict z =
    lex-as (simp append_assoc) refl
    (lex-then fixed.assert-limit
    (lex-run (relation-run side strict) (starts-then _ fixed.space-starts)
    (lex-then fixed.spacing
    (lex-run (name-run n v) (starts-then _ fixed.space-starts)
    (lex-then fixed.spacing
    (number-lex z fixed.assert-starts fixed.end-assert))))))

limits-lex : (ws : List ℤ) (v : ℕ) → Lex (limits_text ws v)
    (said_side (n_of ws) v 0 ((problem ws).lower v) ++ said_side (n_of ws) v 1 ((problem ws).upper v))
unfolding limits_text problem relation_at
limits-lex ws v =
    lex-then
    (side-lex (n_of ws) v 0 (has_lower (kind ws v)) (strict_lower (kind ws v)) (lower_word ws v))
    (side-lex (n_of ws) v 1 (has_upper (kind ws v)) (strict_upper (kind ws v)) (upper_word ws v))

-- ---- the whole text

declared-words : (n m : ℕ) → words_below (n + m) (λ v. said_declaration (name_of n v))
    ≡ words_below n (λ j. said_declaration (column_name j)) ++ words_below m (λ i. said_declaration (row_name i))
unfolding name_of
declared-words n m =
    below_split n m (λ v. said_declaration (name_of n v))
    ∙ ap₂ (λ x y. x ++ y)
    (below-same n _ _ (λ j h. rw (lt-ltb j n h) refl))
    (below-same m _ _ (λ i h. rw (le-ltb (n + i) n (omega arith))
    (ap (λ k. said_declaration (row_name k)) (omega arith))))

limit-words : (ws : List ℤ) →
    words_below (vars_of ws) (λ v. said_side (n_of ws) v 0 ((problem ws).lower v)
    ++ said_side (n_of ws) v 1 ((problem ws).upper v))
    ≡ listed (said_limit (n_of ws)) 0 (table (2 * vars_of ws) (λ k. slot_on (problem ws) (k / 2) (k % 2)))
unfolding said_limit slot_on
limit-words ws =
    sym
    (listed-table (said_limit (n_of ws)) (2 * vars_of ws) (λ k. slot_on (problem ws) (k / 2) (k % 2))
    ∙ below-pairs (vars_of ws) (λ k. said_side (n_of ws) (k / 2) (k % 2) (slot_on (problem ws) (k / 2) (k % 2)))
    ∙ below-same (vars_of ws) _ _ (λ v h. ap₂ (λ x y. x ++ y) (side v (2 * v) 0 (omega arith) (omega arith))
    (side v (2 * v + 1) 1 (omega arith) (omega arith))))
  where
    side : (v k s : ℕ) → k / 2 ≡ v → k % 2 ≡ s →
        said_side (n_of ws) (k / 2) (k % 2) (slot_on (problem ws) (k / 2) (k % 2))
        ≡ said_side (n_of ws) v s (slot_on (problem ws) v s)
    side v k s e f = ap₂ (λ a b. said_side (n_of ws) a b (slot_on (problem ws) a b)) e f

pub tokens-written : (ws : List ℤ) → 1 ≤ n_of ws → token_bytes (exchange_text ws) ≡ said (pieces_of ws)
unfolding exchange_text said body heads pieces_of
tokens-written ws h =
    lex-tokens
    (lex-then (lex-then (lex-then (lex-then fixed.set-logic (lines-lex (vars_of ws) (declaration-lex (n_of ws))))
    (lines-lex (m_of ws) (λ i. row-lex ws i h))) (lines-lex (vars_of ws) (limits-lex ws))) fixed.check-sat)
    ∙ rw (
      declared-words (n_of ws) (m_of ws),
      limit-words ws,
      ← listed-table (said_row (n_of ws)) (m_of ws) (λ i. table (n_of ws) (coefficient_word ws i)),
    ) (simp append_assoc)
