-- The tokens of a problem's text, by their bytes: of a number, a term, a row, a limit, and of the whole text; and the
-- parts of a problem that has certain words.
--   listed, listed_more, listed-table   the tokens of a list's elements, one after the other
--   words_below, below-same, -split, -pairs   .. and of the numbers below k
use mathlib.Core.Bool.{Bool}
use mathlib.Core.List.{List, [], ◌∷◌, ◌++◌, append_assoc, append-nil}
use mathlib.Core.Option.{Option, none, some}
use mathlib.Core.Path.{◌≡◌, refl, sym, ◌∙◌, ap, ap₂}
use Prim.Native.Nat.{ℕ, zero, suc, ◌+◌, ◌*◌, ◌/◌, ◌%◌, ◌<◌}
use native.Mathlib.Omega.{arith}
use lib.IntN.{ℤ, pos, negsuc}
use lib.ListN.{length}
use Rattle.whole.specs.Tables.{table}
use Rattle.whole.proofs.Lists.Tables.{table-last, table-length}
use Rattle.rules.specs.Limit.{Limit}
use Rattle.rules.specs.Problem.{Problem, problem, n_of, m_of, vars_of, coefficient_word}
use Rattle.rules.specs.Program.Text.{digits}
use Rattle.rules.specs.Exchange.Tokens.{token_bytes}
use Rattle.rules.specs.Exchange.Script.{set_logic, declare_const, of_real, assert_row, end_assert, open_term}
use Rattle.rules.specs.Exchange.Script.{open_minus}
use Rattle.rules.specs.Exchange.Script.{close, assert_limit, check_sat, lower_relation, upper_relation, column_name}
use Rattle.rules.specs.Exchange.Script.{row_name, name_of}
use Rattle.rules.specs.Exchange.Reader.{Bytes, Pieces, pieces, opens, closes}

-- ---- one after the other

unfoldable pub listed : {A : Type 0} → (ℕ → A → List Bytes) → ℕ → List A → List Bytes
listed f i [] = []
listed f i (a ∷ l) = f i a ++ listed f (suc i) l

unfoldable pub words_below : ℕ → (ℕ → List Bytes) → List Bytes
words_below zero f = []
words_below (suc k) f = words_below k f ++ f k

pub listed_then : {A : Type 0} (f : ℕ → A → List Bytes) (i : ℕ) (l s : List A) →
    listed f i (l ++ s) ≡ listed f i l ++ listed f (i + length l) s
unfolding listed
listed_then f i [] s = ap (λ k. listed f k s) (let z : i ≡ i + 0 = omega arith in z)
listed_then f i (b ∷ l) s =
    ap (λ r. f i b ++ r)
    (listed_then f (suc i) l s
    ∙ ap (λ k. listed f (suc i) l ++ listed f k s) (let z : suc i + length l ≡ i + suc (length l) = omega arith in z))
    ∙ sym (append_assoc (f i b) (listed f (suc i) l) (listed f (i + suc (length l)) s))

pub listed_more : {A : Type 0} (f : ℕ → A → List Bytes) (l : List A) (a : A) →
    listed f 0 (l ++ (a ∷ [])) ≡ listed f 0 l ++ f (length l) a
unfolding listed
listed_more f l a =
    listed_then f 0 l (a ∷ [])
    ∙ ap (λ r. listed f 0 l ++ r) (append-nil (f (0 + length l) a))
    ∙ ap (λ k. listed f 0 l ++ f k a) (let z : 0 + length l ≡ length l = omega arith in z)

pub listed-table : {A : Type 0} (f : ℕ → A → List Bytes) (k : ℕ) (g : ℕ → A) →
    listed f 0 (table k g) ≡ words_below k (λ i. f i (g i))
unfolding listed words_below Rattle.whole.specs.Tables.table_from
listed-table f zero g = refl
listed-table f (suc k) g =
    ap (listed f 0) (table-last k g) ∙ listed_more f (table k g) (g k)
    ∙ ap₂ (λ l i. l ++ f i (g k)) (listed-table f k g) (table-length k g)

pub below-same : (k : ℕ) (f g : ℕ → List Bytes) → ((i : ℕ) → i < k → f i ≡ g i) → words_below k f ≡ words_below k g
unfolding words_below
below-same zero f g h = refl
below-same (suc k) f g h =
    ap₂ (λ x y. x ++ y) (below-same k f g (λ i l. h i (omega arith))) (h k (omega arith))

pub below_split : (j k : ℕ) (f : ℕ → List Bytes) →
    words_below (j + k) f ≡ words_below j f ++ words_below k (λ i. f (j + i))
unfolding words_below
below_split j zero f =
    ap (λ n. words_below n f) (let z : j + 0 ≡ j = omega arith in z) ∙ sym (append-nil (words_below j f))
below_split j (suc k) f =
    ap (λ n. words_below n f) (let z : j + suc k ≡ suc (j + k) = omega arith in z)
    ∙ ap (λ l. l ++ f (j + k)) (below_split j k f)
    ∙ append_assoc (words_below j f) (words_below k (λ i. f (j + i))) (f (j + k))

pub below-pairs : (k : ℕ) (f : ℕ → List Bytes) →
    words_below (2 * k) f ≡ words_below k (λ v. f (2 * v) ++ f (2 * v + 1))
unfolding words_below
below-pairs zero f = refl
below-pairs (suc k) f =
    ap (λ n. words_below n f) (let z : 2 * suc k ≡ suc (suc (2 * k)) = omega arith in z)
    ∙ append_assoc (words_below (2 * k) f) (f (2 * k)) (f (suc (2 * k)))
    ∙ ap₂ (λ l i. l ++ (f (2 * k) ++ f i)) (below-pairs k f) (let z : suc (2 * k) ≡ 2 * k + 1 = omega arith in z)

-- ---- the tokens of a text

unfoldable pub said_number : ℤ → List Bytes
said_number (pos k) = digits k ∷ []
said_number (negsuc k) = token_bytes open_minus ++ digits (suc k) ∷ token_bytes close

unfoldable pub said_declaration : Bytes → List Bytes
said_declaration name = token_bytes declare_const ++ name ∷ token_bytes of_real

unfoldable pub said_term : ℕ → ℤ → List Bytes
said_term j z = token_bytes open_term ++ (said_number z ++ column_name j ∷ token_bytes close)

unfoldable pub said_row : ℕ → ℕ → List ℤ → List Bytes
said_row n i row = token_bytes assert_row
    ++ row_name i ∷ (opens n ++ (listed said_term 0 row ++ (closes n ++ token_bytes end_assert)))

-- of side 0 the lower relation, else the upper one
unfoldable pub relation_at : ℕ → Bool → Bytes
relation_at zero strict = lower_relation strict
relation_at (suc s) strict = upper_relation strict

-- the limit of v on a side
unfoldable pub said_side : ℕ → ℕ → ℕ → Option Limit → List Bytes
said_side n v side none = []
said_side n v side (some l) = token_bytes assert_limit
    ++ relation_at side l.strict ∷ name_of n v ∷ (said_number l.plain ++ token_bytes end_assert)

-- limit number k
unfoldable pub said_limit : ℕ → ℕ → Option Limit → List Bytes
said_limit n k o = said_side n (k / 2) (k % 2) o

unfoldable pub heads : ℕ → ℕ → List Bytes
heads n m = token_bytes set_logic
    ++ (words_below n (λ j. said_declaration (column_name j)) ++ words_below m (λ i. said_declaration (row_name i)))

-- up to the end
unfoldable pub body : Pieces → List Bytes
body P = heads P.n P.m ++ (listed (said_row P.n) 0 P.rows ++ listed (said_limit P.n) 0 P.limits)

unfoldable pub said : Pieces → List Bytes
said P = body P ++ token_bytes check_sat

-- ---- the parts of a problem with these words

unfoldable pub slot_on : Problem Limit → ℕ → ℕ → Option Limit
slot_on P v zero = P.lower v
slot_on P v (suc s) = P.upper v

unfoldable pub pieces_of : List ℤ → Pieces
pieces_of ws = pieces (n_of ws) (m_of ws) (table (m_of ws) (λ i. table (n_of ws) (coefficient_word ws i)))
    (table (2 * vars_of ws) (λ k. slot_on (problem ws) (k / 2) (k % 2)))
