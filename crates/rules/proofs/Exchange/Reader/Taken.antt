-- The tokens of a problem are read, from the first to the last (pieces-lead).
use mathlib.Core.Bool.{Bool, true, false, cond, ◌&&◌}
use mathlib.Core.List.{List, [], ◌∷◌, ◌++◌, append_assoc, head-eq_of_cons-eq}
use mathlib.Core.Option.{some}
use mathlib.Core.Path.{◌≡◌, refl, sym, ◌∙◌, ap}
use Prim.Native.Nat.{ℕ, zero, suc, ◌+◌, ◌*◌, ◌≤◌, ◌<◌}
use native.Mathlib.Omega.{arith}
use borrow.Author.Tests.{lt-ltb}
use lib.Dec.{eqb, ltb}
use lib.ListN.{length}
use Rattle.rules.specs.Sizes.{most_columns, most_rows}
use Rattle.rules.specs.Program.Text.{ascii}
use Rattle.rules.specs.Exchange.Tokens.{token_bytes}
use Rattle.rules.specs.Exchange.Script.{assert_limit, check_sat, column_name, declare_const, of_real, open_term}
use Rattle.rules.specs.Exchange.Script.{row_name, set_logic}
use Rattle.rules.specs.Exchange.Reader.{Bytes, Pieces, Stage, ReaderState, coefficient, command, declaring, ended}
use Rattle.rules.specs.Exchange.Reader.{going, is, limit_command, limiting, matched, naming, decided, number, on}
use Rattle.rules.specs.Exchange.Reader.{opens, pieces, relating, row_head, same_bytes, outset, token_step}
use Rattle.rules.proofs.Exchange.Reader.Turns.{LeadsTo, all-todo-leads, chosen-leads, leads-then, matched-some}
use Rattle.rules.proofs.Exchange.Reader.Turns.{same_not, same_refl, stop, turn}
use Rattle.rules.proofs.Exchange.Reader.Limits.{check-leads, limits-lead, takes}
use Rattle.rules.proofs.Exchange.Tokens.Said.{body, heads, listed, said, said_declaration, said_limit, said_row}
use Rattle.rules.proofs.Exchange.Tokens.Said.{words_below}
use Rattle.rules.proofs.Exchange.Reader.Rows.{FinePieces, going-limits, leads-as, leads-from, rows-lead}
use Rattle.rules.proofs.Exchange.Reader.Openings.{assert_word, check_word, columns-rows, declare_word, openings}

-- ---- the whole

first_word : {ts rest : List Bytes} {t : Bytes} (st : Stage) (w : Bytes) (T : ReaderState) → ts ≡ t ∷ rest →
    matched ts st w ≡ some T → t ≡ w
first_word {ts} st w T e m = head-eq_of_cons-eq (sym e ∙ (matched-some ts st w T m).0)

-- a first token of another command is no declaration
command-apart : (P : Pieces) (w : Bytes) (T : ReaderState) → command P w ≡ some T → is (token_bytes declare_const) w
    ≡ false
unfolding command limit_command row_head is
command-apart P w T e = rw openings.declare-is (go (ltb (length P.rows) P.m) refl)
  where
    by-assert : assert_word ≡ w → same_bytes declare_word w ≡ false
    by-assert q = ap (same_bytes declare_word) (sym q) ∙ openings.assert-apart

    by-limit : (b : Bool) → cond b (matched (token_bytes assert_limit) (relating P) w)
        (matched (token_bytes check_sat) (ended P) w) ≡ some T → same_bytes declare_word w ≡ false
    by-limit true q = by-assert (first_word (relating P) w T openings.limit_is q)
    by-limit false q =
        ap (same_bytes declare_word) (sym (first_word (ended P) w T openings.check-is q)) ∙ openings.check-declared

    go : (b : Bool) → ltb (length P.rows) P.m ≡ b → same_bytes declare_word w ≡ false
    go true q =
        by-assert
        (first_word (number (coefficient P [])) w T
        (ap (λ l. l ++ row_name (length P.rows) ∷ opens P.n ++ token_bytes open_term) openings.row_is)
        (rw q at e))
    go false q =
        by-limit (is (token_bytes assert_limit) w && ltb (length P.limits) (2 * (P.n + P.m))) (rw q at e)

command-is : (P : Pieces) (w : Bytes) → token_step (going P).todo (going P).stage w ≡ command P w
unfolding going command row_head token_step decided
command-is P w = go (ltb (length P.rows) P.m)
  where
    go : (b : Bool) →
        token_step (cond b (on (row_head P) (number (coefficient P []))) (on [] (limiting P))).todo
        (cond b (on (row_head P) (number (coefficient P []))) (on [] (limiting P))).stage w
        ≡ cond b (matched (row_head P) (number (coefficient P [])) w) (limit_command P w)
    go true = rw openings.row_is refl
    go false = refl

-- what is read behind the declarations
from-declaring : (n m : ℕ) (w : Bytes) (ws : List Bytes) (U : ReaderState) →
    LeadsTo (going (pieces n m [] [])) (w ∷ ws) U → LeadsTo (on [] (declaring n m)) (w ∷ ws) U
unfolding token_step decided
from-declaring n m w ws U (turn {T = T} e r) =
    let c : command (pieces n m [] []) w ≡ some T = sym (command-is (pieces n m [] []) w) ∙ e in
    turn (apart c) r
  where
    apart : command (pieces n m [] []) w ≡ some T → decided (declaring n m) w ≡ some T
    apart c = rw (command-apart (pieces n m [] []) w T c) c

pub from-declared : (n m : ℕ) (ws : List Bytes) (U : ReaderState) →
    LeadsTo (going (pieces n m [] [])) (ws ++ token_bytes check_sat) U →
    LeadsTo (on [] (declaring n m)) (ws ++ token_bytes check_sat) U
from-declared n m [] U r =
    leads-as openings.check-is
    (from-declaring n m check_word (ascii ")" ∷ []) U (leads-as (sym openings.check-is) r))
from-declared n m (w ∷ ws) U r = from-declaring n m w (ws ++ token_bytes check_sat) U r

declare-leads : (n m : ℕ) → m < most_rows →
    LeadsTo (on [] (declaring n m)) (token_bytes declare_const) (on [] (naming n m))
unfolding decided is
declare-leads n m h = rw openings.declare-is
    (chosen-leads declare_word [] (declaring n m) (naming n m)
    (rw (openings.declare-is, same_refl declare_word, lt-ltb m most_rows h) refl))

column-leads : (n : ℕ) → n < most_columns →
    LeadsTo (on [] (declaring n 0)) (said_declaration (column_name n)) (on [] (declaring (suc n) 0))
unfolding said_declaration decided
column-leads n h =
    leads-then (declare-leads n 0 (omega arith))
    (chosen-leads (column_name n) (token_bytes of_real) (naming n 0) (declaring (suc n) 0)
    (rw (lt-ltb n most_columns h, same_refl (column_name n)) refl))

pub row_named_lem : (n m : ℕ) → LeadsTo (on [] (naming n m)) (row_name m ∷ token_bytes of_real)
    (on [] (declaring n (suc m)))
unfolding decided
row_named_lem n m =
    chosen-leads (row_name m) (token_bytes of_real) (naming n m) (declaring n (suc m))
    (rw (both (eqb m 0 && ltb n most_columns) (same_not (column_name n) (row_name m) (columns-rows n m))) refl)
  where
    both : (a : Bool) {b : Bool} → b ≡ false → (a && b) ≡ false
    both true e = e
    both false e = refl

row-declared : (n m : ℕ) → m < most_rows →
    LeadsTo (on [] (declaring n m)) (said_declaration (row_name m)) (on [] (declaring n (suc m)))
unfolding said_declaration
row-declared n m h = leads-then (declare-leads n m h) (row_named_lem n m)

columns-lead : (k : ℕ) → suc k ≤ most_columns →
    LeadsTo outset (token_bytes set_logic ++ words_below (suc k) (λ j. said_declaration (column_name j)))
    (on [] (declaring (suc k) 0))
unfolding words_below outset said_declaration
columns-lead zero h = leads-as (simp append_assoc)
    (all-todo-leads (token_bytes set_logic ++ token_bytes declare_const ++ column_name 0 ∷ token_bytes of_real)
    (declaring 1 0))
columns-lead (suc k) h =
    leads-as (sym (append_assoc (token_bytes set_logic) (words_below (suc k) (λ j. said_declaration (column_name j)))
    (said_declaration (column_name (suc k)))))
    (leads-then (columns-lead k (omega arith)) (column-leads (suc k) h))

rows-declared : (n m : ℕ) → m ≤ most_rows →
    LeadsTo (on [] (declaring n 0)) (words_below m (λ i. said_declaration (row_name i))) (on [] (declaring n m))
unfolding words_below
rows-declared n zero h = stop
rows-declared n (suc m) h = leads-then (rows-declared n m (omega arith)) (row-declared n m h)

heads-lead : (n m : ℕ) → 1 ≤ n → n ≤ most_columns → m ≤ most_rows → LeadsTo outset (heads n m) (on [] (declaring n m))
unfolding heads
heads-lead zero m h k l = absurd (let o : ⊥ = omega arith in o)
heads-lead (suc n) m h k l =
    leads-as (sym (append_assoc (token_bytes set_logic) _ _))
    (leads-then (columns-lead n k) (rows-declared (suc n) m l))

-- the tokens of fine parts take the reader to the end
pub pieces-lead : (P : Pieces) → FinePieces P →
    LeadsTo outset (said P) (on [] (ended (takes (pieces P.n P.m P.rows []) 0 P.limits)))
unfolding said body
pieces-lead P f =
    leads-as (simp append_assoc)
    (leads-then (heads-lead P.n P.m f.n-least f.n-most f.m-most)
    (leads-as (sym (append_assoc (listed (said_row P.n) 0 P.rows) (listed (said_limit P.n) 0 P.limits)
    (token_bytes check_sat)))
    (from-declared P.n P.m (listed (said_row P.n) 0 P.rows ++ listed (said_limit P.n) 0 P.limits) _
    (leads-as (append_assoc (listed (said_row P.n) 0 P.rows) (listed (said_limit P.n) 0 P.limits)
    (token_bytes check_sat))
    (leads-then (rows-lead (pieces P.n P.m [] []) P.rows 0 f.n-least refl (omega (arith, f.all-rows))
    f.each_row)
    (leads-from (going-limits (pieces P.n P.m P.rows []) (omega (arith, f.all-rows)))
    (leads-then (limits-lead (pieces P.n P.m P.rows []) 0 P.limits (omega arith)
    (omega (arith, f.few-limits)) f.each_limit)
    (check-leads (takes (pieces P.n P.m P.rows []) 0 P.limits)))))))))
