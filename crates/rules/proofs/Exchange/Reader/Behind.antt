-- What was read, behind a row and behind a number.
--   going-heard, command-goes   the next row, or the limits
--   taken-heard                 a coefficient or a limit more
use mathlib.Core.Bool.{Bool, true, false, cond, not, ◌&&◌}
use mathlib.Core.List.{List, [], ◌∷◌, ◌++◌, append_assoc, append-nil}
use mathlib.Core.Option.{Option, none, some}
use mathlib.Core.Path.{◌≡◌, refl, sym, ◌∙◌, ap, ap₂, subst}
use Prim.Native.Nat.{ℕ, zero, suc, ◌+◌, ◌-◌, ◌*◌, ◌/◌, ◌%◌, ◌≤◌, ◌<◌}
use native.Mathlib.Omega.{arith}
use native.Mathlib.Decide.{dec_lt}
use lib.Dec.{eqb, ltb}
use lib.IntN.{ℤ, pos}
use lib.ListN.{length, length-append, length-replicate, replicate}
use Rattle.whole.specs.Numbers.{eq_z, within}
use Rattle.whole.proofs.Bools.{and-true, not-true}
use Rattle.whole.proofs.Tells.{tells-eq, tells-lt, tells-true}
use Rattle.rules.specs.Limit.{Limit}
use Rattle.rules.specs.Sizes.{largest_coefficient}
use Rattle.rules.specs.Exchange.Tokens.{token_bytes}
use Rattle.rules.specs.Exchange.Script.{assert_limit, assert_row, close, column_name, end_assert, name_of, open_term}
use Rattle.rules.specs.Exchange.Script.{row_name}
use Rattle.rules.specs.Exchange.Reader.{Bytes, Pieces, Spot, ReaderState, all_zero, ahead, behind_term, closes}
use Rattle.rules.specs.Exchange.Reader.{coefficient, command, fits, going, limit, limit_command, matched, number}
use Rattle.rules.specs.Exchange.Reader.{on, opens, row_head, taken, with_limit, with_row}
use Rattle.rules.proofs.Exchange.Reader.Limits.{with-length}
use Rattle.rules.proofs.Exchange.Tokens.Said.{body, heads, listed, listed_more, listed_then, relation_at}
use Rattle.rules.proofs.Exchange.Tokens.Said.{said_limit, said_number, said_row, said_side, said_term}
use Rattle.rules.proofs.Exchange.Reader.Rows.{Each, FineNumber, FinePieces, FineRow, FineSlot, going-limits}
use Rattle.rules.proofs.Exchange.Reader.Rows.{going-row, zero-then}
use Rattle.rules.proofs.Exchange.Reader.Heard.{Onward, Good, GoodSpot, RowsRead, before, heard, limit-goes}
use Rattle.rules.proofs.Exchange.Reader.Heard.{matched-goes, rowed, rowing}
use Rattle.rules.proofs.Exchange.Words.Tables.{each-then}

-- ---- behind a row

body-rows : (P : Pieces) → P.limits ≡ [] → rowed P ≡ body P
unfolding rowed body listed
body-rows P e =
    ap (λ l. heads P.n P.m ++ l) (sym (append-nil (listed (said_row P.n) 0 P.rows)))
    ∙ ap (λ ls. heads P.n P.m ++ (listed (said_row P.n) 0 P.rows ++ listed (said_limit P.n) 0 ls)) (sym e)

rows-fine : (P : Pieces) → RowsRead P → P.m ≤ length P.rows → FinePieces P
rows-fine P r h = record {
  n-least = r.sizes.n-least;
  n-most = r.sizes.n-most;
  m-most = r.sizes.m-most;
  all-rows = omega (arith, r.few-rows);
  each_row = r.each_row;
  few-limits = omega (arith, ap length r.no-limits);
  each_limit = subst (λ l. Each FineSlot l) (sym r.no-limits) tt;
}

head-heard : (P : Pieces) → rowed P ++ row_head P ≡ before (coefficient P [])
unfolding before rowing row_head listed
head-heard P = simp (append_assoc, append-nil)

-- the next row, or the limits
going-heard : (P : Pieces) → RowsRead P → (rowed P ++ (going P).todo ≡ heard (going P).stage) × Good (going P).stage
unfolding heard
going-heard P r = go (dec_lt (length P.rows) P.m)
  where
    go : Dec (length P.rows < P.m) → (rowed P ++ (going P).todo ≡ heard (going P).stage) × Good (going P).stage
    go (yes l) =
        subst (λ S. (rowed P ++ S.todo ≡ heard S.stage) × Good S.stage) (sym (going-row P l))
        (head-heard P, (r, l, r.sizes.n-least, tt))
    go (no l) =
        subst (λ S. (rowed P ++ S.todo ≡ heard S.stage) × Good S.stage) (sym (going-limits P (omega arith)))
        (append-nil (rowed P) ∙ body-rows P r.no-limits, rows-fine P r (omega arith))

pub command-goes : (P : Pieces) (w : Bytes) (T : ReaderState) (p : List Bytes) → RowsRead P → p ≡ rowed P →
    command P w ≡ some T →
    Onward p w T
unfolding command heard
command-goes P w T p r q e = go (ltb (length P.rows) P.m) refl e
  where
    go : (b : Bool) → ltb (length P.rows) P.m ≡ b →
        cond b (matched (row_head P) (number (coefficient P [])) w) (limit_command P w) ≡ some T → Onward p w T
    go true l e =
        matched-goes (row_head P) (number (coefficient P [])) w T p e (ap (λ x. x ++ row_head P) q ∙ head-heard P)
        (r, (tells-lt (length P.rows) P.m).if-true l, r.sizes.n-least, tt)
    go false l e =
        limit-goes P w T p (rows-fine P r ((tells-lt (length P.rows) P.m).if-false l))
        (q ∙ body-rows P r.no-limits) e

-- ---- behind a number

row-heard : (P : Pieces) (row : List ℤ) → rowed (with_row P row)
    ≡ rowing P row ++ (closes P.n ++ token_bytes end_assert)
unfolding rowed rowing with_row said_row
row-heard P row =
    ap (λ l. heads P.n P.m ++ l) (listed_more (said_row P.n) P.rows row)
    ∙ simp append_assoc

pub row-rowed : (P : Pieces) (row : List ℤ) → RowsRead P → length P.rows < P.m → FineRow P.n row →
    RowsRead (with_row P row)
unfolding with_row
row-rowed P row r l f = record {
  sizes = r.sizes;
  few-rows = omega (arith, length-append P.rows (row ∷ []));
  each_row = each-then (FineRow P.n) P.rows (row ∷ []) r.each_row (f, tt);
  no-limits = r.no-limits;
}

term-heard : (P : Pieces) (row : List ℤ) → RowsRead P → length P.rows < P.m → length row ≤ P.n →
    Each FineNumber row →
    (length row ≡ P.n → all_zero row ≡ false) →
    (rowing P row ++ (behind_term P row).todo ≡ heard (behind_term P row).stage) × Good (behind_term P row).stage
unfolding behind_term heard before ahead
term-heard P row r l w f z = go (ltb (length row) P.n) refl
  where
    go : (b : Bool) → ltb (length row) P.n ≡ b →
        (rowing P row ++ (cond b (on (token_bytes open_term) (number (coefficient P row)))
        (ahead (closes P.n ++ token_bytes end_assert) (going (with_row P row)))).todo
        ≡ heard (cond b (on (token_bytes open_term) (number (coefficient P row)))
        (ahead (closes P.n ++ token_bytes end_assert) (going (with_row P row)))).stage)
        × Good (cond b (on (token_bytes open_term) (number (coefficient P row)))
        (ahead (closes P.n ++ token_bytes end_assert) (going (with_row P row)))).stage
    go true e = (refl, (r, l, (tells-lt (length row) P.n).if-true e, f))
    go false e =
        let wide : length row ≡ P.n = omega (arith, (tells-lt (length row) P.n).if-false e) in
        let g = going-heard (with_row P row)
        (row-rowed P row r l (record { width = wide; each = f; filled = z wide })) in (
          sym (append_assoc (rowing P row) (closes P.n ++ token_bytes end_assert) (going (with_row P row)).todo)
              ∙ ap (λ x. x ++ (going (with_row P row)).todo) (sym (row-heard P row)) ∙ g.0,
          g.1,
        )

-- a coefficient more
more-heard : (P : Pieces) (row : List ℤ) (z : ℤ) → before (coefficient P row)
    ++ (said_number z ++ (column_name (length row)
    ∷ token_bytes close)) ≡ rowing P (row ++ (z ∷ []))
unfolding before rowing said_term
more-heard P row z =
    simp append_assoc
    (ap (λ l. rowed P ++ (token_bytes assert_row ++ row_name (length P.rows) ∷ (opens P.n ++ l)))
    (sym (listed_more said_term row z)))

pub nones-said : (n i k : ℕ) → listed (said_limit n) i (replicate k none) ≡ []
unfolding listed said_limit said_side
nones-said n i zero = refl
nones-said n i (suc k) = nones-said n (suc i) k

limit-heard : (P : Pieces) (k : ℕ) (l : Limit) → length P.limits ≤ k →
    body P ++ said_limit P.n k (some l) ≡ body (with_limit P k l)
unfolding body with_limit said_limit listed
limit-heard P k l h =
    simp append_assoc
    (ap (λ x. heads P.n P.m ++ (listed (said_row P.n) 0 P.rows ++ x)) (sym gap))
  where
    f : ℕ → Option Limit → List Bytes
    f = said_limit P.n

    missing : List (Option Limit)
    missing = replicate (k - length P.limits) none

    gap : listed f 0 (P.limits ++ (missing ++ (some l ∷ []))) ≡ listed f 0 P.limits ++ f k (some l)
    gap =
        listed_then f 0 P.limits (missing ++ (some l ∷ []))
        ∙ ap (λ x. listed f 0 P.limits ++ x)
        (listed_then f (0 + length P.limits) missing (some l ∷ [])
        ∙ ap₂ (λ x j. x ++ listed f j (some l ∷ [])) (nones-said P.n (0 + length P.limits)
        (k - length P.limits))
        (let z : 0 + length P.limits + length missing ≡ k =
        omega (arith, length-replicate {A = Option Limit} (k - length P.limits) none) in z)
        ∙ append-nil (f k (some l)))

-- a limit more
limit-fine : (P : Pieces) (k : ℕ) (l : Limit) → FinePieces P → length P.limits ≤ k → k < 2 * (P.n + P.m) →
    FineSlot (some l) → FinePieces (with_limit P k l)
unfolding with_limit
limit-fine P k l f h few g = record {
  n-least = f.n-least;
  n-most = f.n-most;
  m-most = f.m-most;
  all-rows = f.all-rows;
  each_row = f.each_row;
  few-limits = omega (arith, with-length P k l h);
  each_limit = each-then FineSlot P.limits _ f.each_limit
      (each-then FineSlot (replicate (k - length P.limits) none) (some l ∷ []) (nones (k - length P.limits))
      (g, tt));
}
  where
    nones : (j : ℕ) → Each FineSlot (replicate j none)
    nones zero = tt
    nones (suc j) = (tt, nones j)

-- the last coefficient of a row that is 0 so far
fits-filled : (P : Pieces) (row : List ℤ) (z : ℤ) → fits (coefficient P row) z ≡ true →
    FineNumber z × (length (row ++ (z ∷ [])) ≡ P.n → all_zero (row ++ (z ∷ [])) ≡ false)
unfolding fits all_zero
fits-filled P row z e =
    let both = and-true (within largest_coefficient z) (not (eqb (suc (length row)) P.n &&
    (all_zero row && eq_z z (pos 0)))) e in
    (both.0, λ w. zero-then row (z ∷ []) ∙ one (eq_z z (pos 0)) (last w both.1))
  where
    last : length (row ++ (z ∷ [])) ≡ P.n →
        not (eqb (suc (length row)) P.n && (all_zero row && eq_z z (pos 0))) ≡ true → (all_zero row && eq_z z (pos 0))
        ≡ false
    last w n =
        let here : suc (length row) ≡ P.n = omega (arith, length-append row (z ∷ [])) in
        second (tells-true (tells-eq (suc (length row)) P.n) here) (not-true _ n)
      where
        second : {a b : Bool} → a ≡ true → (a && b) ≡ false → b ≡ false
        second {a} {b} p q = rw p at q

    one : (b : Bool) → (all_zero row && b) ≡ false → (all_zero row && (b && true)) ≡ false
    one true q = q
    one false q = q

regroup : (a b c d : List Bytes) → a ++ (b ++ (c ++ d)) ≡ (a ++ (b ++ c)) ++ d
regroup a b c d = simp append_assoc

-- behind a number that fits
pub taken-heard : (c : Spot) (z : ℤ) → GoodSpot c → fits c z ≡ true →
    (before c ++ (said_number z ++ (taken c z).todo) ≡ heard (taken c z).stage) × Good (taken c z).stage
unfolding taken ahead heard fits before said_limit said_side
taken-heard (coefficient P row) z (r, l, w, f) e =
    let q = fits-filled P row z e in
    let t = (behind_term P (row ++ (z ∷ []))).todo in
    let g = term-heard P (row ++ (z ∷ [])) r l (omega (arith, length-append row (z ∷ [])))
    (each-then FineNumber row (z ∷ []) f (q.0, tt)) q.1 in (
      regroup (before (coefficient P row)) (said_number z) (column_name (length row) ∷ token_bytes close) t
          ∙ ap (λ x. x ++ t) (more-heard P row z) ∙ g.0,
      g.1,
    )
taken-heard (limit P k strict) z (f, l, few) e = (
  append_assoc (body P) (token_bytes assert_limit ++ relation_at (k % 2) strict ∷ name_of P.n (k / 2) ∷ [])
      (said_number z ++ token_bytes end_assert)
      ∙ ap (λ x. body P ++ x) (append_assoc (token_bytes assert_limit)
      (relation_at (k % 2) strict ∷ name_of P.n (k / 2) ∷ [])
      (said_number z ++ token_bytes end_assert))
      ∙ limit-heard P k (record { plain = z; strict = strict }) l,
  limit-fine P k (record { plain = z; strict = strict }) f l few e,
)
