-- From wherever the reader stands there is a way to the end (ways).
--   Way S            tokens that take the reader from S to an end
--   ones-fine        a row of ones, to fill what is left
use mathlib.Core.Bool.{Bool, true, false, cond, ◌&&◌}
use mathlib.Core.List.{List, [], ◌∷◌, ◌++◌}
use mathlib.Core.Path.{◌≡◌, refl, ◌∙◌, ap}
use Prim.Native.Nat.{ℕ, zero, suc, ◌+◌, ◌-◌, ◌*◌, ◌≤◌}
use native.Mathlib.Omega.{arith}
use lib.Dec.{ltb}
use lib.IntN.{ℤ, pos, negsuc}
use lib.ListN.{length, length-append, length-replicate, replicate}
use Rattle.whole.specs.Numbers.{within}
use Rattle.rules.specs.Exchange.Tokens.{token_bytes}
use Rattle.rules.specs.Exchange.Script.{check_sat, end_assert, open_term}
use Rattle.rules.specs.Exchange.Reader.{Bytes, Pieces, Spot, Stage, ReaderState, all_zero, ahead, behind_term}
use Rattle.rules.specs.Exchange.Reader.{bounded, bounding, closes, coefficient, declaring, ended, fits, going}
use Rattle.rules.specs.Exchange.Reader.{limit, limiting, naming, decided, number, on, pieces, relating, row_head}
use Rattle.rules.specs.Exchange.Reader.{size, token_step, taken, with_row}
use Rattle.rules.proofs.Exchange.Reader.Limits.{check-leads, name-read, relation-read, relation-taken}
use Rattle.rules.proofs.Exchange.Reader.Turns.{LeadsTo, all-todo-leads, leads-then, stop, turn}
use Rattle.rules.proofs.Exchange.Tokens.Said.{listed, said_row}
use Rattle.rules.proofs.Exchange.Reader.Rows.{Each, FineNumber, FineRow, fits-here, going-limits, leads-from}
use Rattle.rules.proofs.Exchange.Reader.Rows.{number-leads, rows-lead, size-leads, terms-lead, with_rows}
use Rattle.rules.proofs.Exchange.Reader.Rows.{zero-then}
use Rattle.rules.proofs.Exchange.Reader.Taken.{from-declared, row_named_lem}
use Rattle.rules.proofs.Exchange.Reader.Heard.{Good, GoodSpot, RowsRead, Sizes}
use Rattle.rules.proofs.Exchange.Words.Tables.{each-then}
use Rattle.rules.proofs.Exchange.Reader.Behind.{row-rowed, taken-heard}

pub record Way (S : ReaderState) : Type 0 where
  pub tokens : List Bytes
  pub pieces : Pieces
  pub leads : LeadsTo S tokens (on [] (ended pieces))

way_then : {S T : ReaderState} {p : List Bytes} → LeadsTo S p T → Way T → Way S
way_then {p = p} r w = record { tokens = p ++ w.tokens; pieces = w.pieces; leads = leads-then r w.leads }

way-todo : (ts : List Bytes) (st : Stage) → Way (on [] st) → Way (on ts st)
way-todo ts st w = way_then (all-todo-leads ts st) w

-- ---- rows of ones

abbrev ones : ℕ → List ℤ
ones k = replicate k (pos 1)

ones-each : (k : ℕ) → Each FineNumber (ones k)
unfolding within
ones-each zero = tt
ones-each (suc k) = (refl, ones-each k)

ones-filled : (k : ℕ) → 1 ≤ k → all_zero (ones k) ≡ false
unfolding all_zero
ones-filled zero h = let o : ⊥ = omega arith in absurd o
ones-filled (suc k) h = refl

ones-fine : (n : ℕ) → 1 ≤ n → FineRow n (ones n)
ones-fine n h = record { width = length-replicate n (pos 1); each = ones-each n; filled = ones-filled n h }

rows-fine : (n k : ℕ) → 1 ≤ n → Each (FineRow n) (replicate k (ones n))
rows-fine n zero h = tt
rows-fine n (suc k) h = (ones-fine n h, rows-fine n k h)

-- the rows that are left, and the end
abbrev rows_left : Pieces → List Bytes
rows_left P = listed (said_row P.n) (length P.rows) (replicate (P.m - length P.rows) (ones P.n))

rows_end : (P : Pieces) → RowsRead P → LeadsTo (going P) (rows_left P ++ token_bytes check_sat)
    (on [] (ended (with_rows P (replicate (P.m - length P.rows) (ones P.n)))))
rows_end P r =
    let left : ℕ = P.m - length P.rows in
    let few = length-replicate left (ones P.n) in
    let Q : Pieces = with_rows P (replicate left (ones P.n)) in
    leads-then
    (rows-lead P (replicate left (ones P.n)) (length P.rows) r.sizes.n-least refl
    (omega (arith, few, r.few-rows)) (rows-fine P.n left r.sizes.n-least))
    (leads-from (going-limits Q (omega (arith, few, length-append P.rows (replicate left (ones P.n)))))
    (check-leads Q))

way-rows : (P : Pieces) → RowsRead P → Way (going P)
way-rows P r = record { tokens = _; pieces = _; leads = rows_end P r }

way-declaring : (n m : ℕ) → Sizes n m → Way (on [] (declaring n m))
way-declaring n m g = record {
  tokens = _;
  pieces = _;
  leads = from-declared n m (rows_left (pieces n m [] [])) _
      (rows_end (pieces n m [] []) (record { sizes = g; few-rows = omega arith; each_row = tt; no-limits = refl }));
}

and_none : (b : Bool) → (b && false) ≡ false
and_none true = refl
and_none false = refl

-- ---- a number: the row is filled with ones; a limit is 0

way-coefficient : (P : Pieces) (row : List ℤ) → GoodSpot (coefficient P row) → Way (on [] (number (coefficient P row)))
unfolding all_zero
way-coefficient P row (r, l, w, f) =
    let left : ℕ = P.n - suc (length row) in
    let wide = length-replicate left (pos 1) in
    let filled : all_zero (row ++ pos 1 ∷ ones left) ≡ false = zero-then row (pos 1 ∷ ones left)
    ∙ and_none (all_zero row) in
    way_then
    (terms-lead P row (pos 1) (ones left) (length row) refl (omega (arith, wide)) (ones-each (suc left)) filled)
    (way-rows (with_row P (row ++ pos 1 ∷ ones left))
    (row-rowed P (row ++ pos 1 ∷ ones left) r l (record {
      width = omega (arith, wide, length-append row (pos 1 ∷ ones left));
      each = each-then FineNumber row (pos 1 ∷ ones left) f (ones-each (suc left));
      filled = filled;
    })))

way-limit : (P : Pieces) (k : ℕ) (strict : Bool) → Way (on [] (number (limit P k strict)))
unfolding fits within taken
way-limit P k strict =
    way_then (number-leads (limit P k strict) (pos 0) refl)
    (way-todo (token_bytes end_assert) _ (record { tokens = _; pieces = _; leads = check-leads _ }))

way-number : (c : Spot) → GoodSpot c → Way (on [] (number c))
way-number (coefficient P row) g = way-coefficient P row g
way-number (limit P k strict) g = way-limit P k strict

-- behind a number, where none stands with its sign alone
abbrev Plain : Stage → Type 0
Plain (declaring n m) = Unit {0}
Plain (naming n m) = Unit {0}
Plain (number c) = Unit {0}
Plain (size c) = ⊥
Plain (limiting P) = Unit {0}
Plain (relating P) = Unit {0}
Plain (bounding P side strict) = Unit {0}
Plain (ended P) = Unit {0}

going-plain : (P : Pieces) → Plain (going P).stage
unfolding going
going-plain P = go (ltb (length P.rows) P.m)
  where
    go : (b : Bool) → Plain (cond b (on (row_head P) (number (coefficient P []))) (on [] (limiting P))).stage
    go true = tt
    go false = tt

term-plain : (P : Pieces) (row : List ℤ) → Plain (behind_term P row).stage
unfolding behind_term ahead
term-plain P row = go (ltb (length row) P.n)
  where
    go : (b : Bool) → Plain (cond b (on (token_bytes open_term) (number (coefficient P row)))
        (ahead (closes P.n ++ token_bytes end_assert) (going (with_row P row)))).stage
    go true = tt
    go false = going-plain (with_row P row)

taken-plain : (c : Spot) (z : ℤ) → Plain (taken c z).stage
unfolding taken ahead
taken-plain (coefficient P row) z = term-plain P (row ++ (z ∷ []))
taken-plain (limit P k strict) z = tt

-- ---- every decision

way-bounding : (P : Pieces) (side : ℕ) (strict : Bool) → Good (bounding P side strict) →
    Way (on [] (bounding P side strict))
unfolding token_step decided bounded
way-bounding P side strict (f, s, q) =
    let v : ℕ = P.n + P.m - 1 in
    way_then (turn (ap (bounded P side strict) (name-read P v side (omega (arith, f.n-least)) (omega arith))) stop)
    (way-limit P (2 * v + side) strict)

way-plain : (st : Stage) → Good st → Plain st → Way (on [] st)
unfolding token_step decided
way-plain (declaring n m) g p = way-declaring n m g
way-plain (naming n m) g p =
    way_then (row_named_lem n m)
    (way-declaring n (suc m) (record { n-least = g.0.n-least; n-most = g.0.n-most; m-most = g.1 }))
way-plain (number c) g p = way-number c g
way-plain (size c) g p = absurd p
way-plain (limiting P) g p = record { tokens = _; pieces = _; leads = check-leads P }
way-plain (relating P) g p =
    way_then
    (turn (relation-read P 1 false (omega arith) ∙ relation-taken P 1 false (omega (arith, g.1))) stop)
    (way-bounding P 1 false (g.0, omega arith, omega (arith, g.1)))
way-plain (bounding P side strict) g p = way-bounding P side strict g
way-plain (ended P) g p = record { tokens = []; pieces = P; leads = stop }

least_fits : (c : Spot) → GoodSpot c → fits c (negsuc 0) ≡ true
unfolding fits within
least_fits (coefficient P row) g = fits-here P row (negsuc 0) refl (λ e. and_none (all_zero row))
least_fits (limit P k strict) g = refl

pub ways : (S : ReaderState) → Good S.stage → Way S
ways S g = way-todo S.todo S.stage (go S.stage g)
  where
    go : (st : Stage) → Good st → Way (on [] st)
    go (size c) g =
        let h = least_fits c g in
        way_then (size-leads c 0 h)
        (way-todo (taken c (negsuc 0)).todo (taken c (negsuc 0)).stage
        (way-plain (taken c (negsuc 0)).stage (taken-heard c (negsuc 0) g h).1 (taken-plain c (negsuc 0))))
    go (declaring n m) g = way-plain (declaring n m) g tt
    go (naming n m) g = way-plain (naming n m) g tt
    go (number c) g = way-plain (number c) g tt
    go (limiting P) g = way-plain (limiting P) g tt
    go (relating P) g = way-plain (relating P) g tt
    go (bounding P side strict) g = way-plain (bounding P side strict) g tt
    go (ended P) g = way-plain (ended P) g tt
