-- What was read so far is known from where the reader stands.
--   heard, Good          the tokens up to a decision, and what is known there
--   Heard S p            the tokens p, and those that must follow, are those up to the next decision
--   matched-goes, told-goes, limit-goes   one token more
use mathlib.Core.Bool.{Bool, true, false, cond, ◌&&◌}
use mathlib.Core.List.{List, [], ◌∷◌, ◌++◌, append_assoc}
use mathlib.Core.Option.{Option, none, some, none-ne-some}
use mathlib.Core.Path.{◌≡◌, refl, sym, ◌∙◌, ap, subst}
use Prim.Native.Nat.{ℕ, ◌+◌, ◌-◌, ◌*◌, ◌/◌, ◌%◌, ◌≤◌, ◌<◌}
use lib.Dec.{ltb}
use lib.IntN.{ℤ}
use lib.ListN.{length}
use Rattle.whole.proofs.Tells.{tells-lt}
use Rattle.rules.specs.Sizes.{most_columns, most_rows}
use Rattle.rules.specs.Exchange.Tokens.{token_bytes}
use Rattle.rules.specs.Exchange.Script.{assert_limit, assert_row, check_sat, declare_const, name_of, open_minus}
use Rattle.rules.specs.Exchange.Script.{open_term, row_name}
use Rattle.rules.specs.Exchange.Reader.{Bytes, Pieces, Spot, Stage, ReaderState, bounding, coefficient, declaring}
use Rattle.rules.specs.Exchange.Reader.{ended, is, limit, limit_command, limiting, matched, naming, number, opens}
use Rattle.rules.specs.Exchange.Reader.{relating, size}
use Rattle.rules.proofs.Exchange.Tokens.Said.{body, heads, listed, relation_at, said, said_row, said_term}
use Rattle.rules.proofs.Exchange.Reader.Rows.{Each, FineNumber, FinePieces, FineRow}
use Rattle.rules.proofs.Exchange.Reader.Turns.{matched-some}

-- ---- the tokens up to a decision

-- the rows that are whole
unfoldable pub rowed : Pieces → List Bytes
rowed P = heads P.n P.m ++ listed (said_row P.n) 0 P.rows

-- the row that is read, with these coefficients
unfoldable pub rowing : Pieces → List ℤ → List Bytes
rowing P row = rowed P
    ++ (token_bytes assert_row ++ row_name (length P.rows) ∷ (opens P.n ++ listed said_term 0 row))

unfoldable pub before : Spot → List Bytes
before (coefficient P row) = rowing P row ++ token_bytes open_term
before (limit P k strict) =
    body P ++ (token_bytes assert_limit ++ relation_at (k % 2) strict ∷ name_of P.n (k / 2) ∷ [])

unfoldable pub heard : Stage → List Bytes
heard (declaring n m) = heads n m
heard (naming n m) = heads n m ++ token_bytes declare_const
heard (number c) = before c
heard (size c) = before c ++ token_bytes open_minus
heard (limiting P) = body P
heard (relating P) = body P ++ token_bytes assert_limit
heard (bounding P side strict) = body P ++ (token_bytes assert_limit ++ relation_at side strict ∷ [])
heard (ended P) = said P

-- ---- what is known there

pub record Sizes (n m : ℕ) : Type 0 where
  pub n-least : 1 ≤ n
  pub n-most : n ≤ most_columns
  pub m-most : m ≤ most_rows

-- rows so far
pub record RowsRead (P : Pieces) : Type 0 where
  pub sizes : Sizes P.n P.m
  pub few-rows : length P.rows ≤ P.m
  pub each_row : Each (FineRow P.n) P.rows
  pub no-limits : P.limits ≡ []

abbrev pub GoodSpot : Spot → Type 0
GoodSpot (coefficient P row) =
    RowsRead P × (length P.rows < P.m) × (length row < P.n) × Each FineNumber row
GoodSpot (limit P k strict) = FinePieces P × (length P.limits ≤ k) × (k < 2 * (P.n + P.m))

abbrev pub Good : Stage → Type 0
Good (declaring n m) = Sizes n m
Good (naming n m) = Sizes n m × (m < most_rows)
Good (number c) = GoodSpot c
Good (size c) = GoodSpot c
Good (limiting P) = FinePieces P
Good (relating P) = FinePieces P × (length P.limits < 2 * (P.n + P.m))
Good (bounding P side strict) = FinePieces P × (side < 2) × (length P.limits < 2 * (P.n + P.m) + side - 1)
Good (ended P) = FinePieces P

-- the tokens p were read
pub record Heard (S : ReaderState) (p : List Bytes) : Type 0 where
  pub is : p ++ S.todo ≡ heard S.stage
  pub good : Good S.stage

-- one token more
abbrev pub Onward : List Bytes → Bytes → ReaderState → Type 0
Onward p w T = Heard T (p ++ (w ∷ []))

pub matched-goes : (ts : List Bytes) (st : Stage) (w : Bytes) (T : ReaderState) (p : List Bytes) → matched ts st w
    ≡ some T →
    p ++ ts ≡ heard st → Good st → Onward p w T
matched-goes ts st w T p e h g =
    let m = matched-some ts st w T e in
    record {
      is = append_assoc p (w ∷ []) T.todo ∙ ap (λ l. p ++ l) (sym m.0) ∙ h ∙ ap heard (sym m.1);
      good = subst (λ s. Good s) (sym m.1) g;
    }

-- a state that is told
pub told-goes : (S T : ReaderState) (w : Bytes) (p : List Bytes) → ◌≡◌ {A = Option ReaderState} (some S) (some T) →
    p ++ w ∷ S.todo ≡ heard S.stage → Good S.stage → Onward p w T
told-goes S T w p e h g =
    let z : S ≡ T = cc in
    record {
      is = append_assoc p (w ∷ []) T.todo ∙ ap (λ l. p ++ w ∷ l) (ap (λ X. X.todo) (sym z)) ∙ h
          ∙ ap (λ X. heard X.stage) z;
      good = subst (λ X. Good X.stage) z g;
    }

pub none-goes : {A : Type 0} (T : ReaderState) → ◌≡◌ {A = Option ReaderState} none (some T) → A
none-goes T e = absurd (none-ne-some T e)

-- ---- limits and the end

pub limit-goes : (P : Pieces) (w : Bytes) (T : ReaderState) (p : List Bytes) → FinePieces P → p ≡ body P →
    limit_command P w ≡ some T →
    Onward p w T
unfolding limit_command heard said
limit-goes P w T p f q e = go (is (token_bytes assert_limit) w) (ltb (length P.limits) (2 * (P.n + P.m))) refl e
  where
    go : (a b : Bool) → ltb (length P.limits) (2 * (P.n + P.m)) ≡ b →
        cond (a && b) (matched (token_bytes assert_limit) (relating P) w) (matched (token_bytes check_sat) (ended P) w)
        ≡ some T → Onward p w T
    go true true l e =
        matched-goes (token_bytes assert_limit) (relating P) w T p e (ap (λ r. r ++ token_bytes assert_limit) q)
        (f, (tells-lt (length P.limits) (2 * (P.n + P.m))).if-true l)
    go true false l e = matched-goes (token_bytes check_sat) (ended P) w T p e
        (ap (λ r. r ++ token_bytes check_sat) q) f
    go false b l e = matched-goes (token_bytes check_sat) (ended P) w T p e (ap (λ r. r ++ token_bytes check_sat) q) f
