-- docs/formats/smtlib.md, "Reading": which texts are read, and where any other is refused.
-- A text is read token by token. What was read so far says which tokens must follow, one after the other (`todo`), and
-- what has to be decided then (`stage`); each decision is made by one token (`next`). The first token that is not taken
-- is the one at whose place the text is refused.
use Rattle.std.specs.Prelude.{Bool, true, false, cond, not, ◌&&◌, ℕ, zero, suc, ◌+◌, ◌-◌, ◌*◌, ◌/◌, ◌%◌, leb, ltb, eqb}
use Rattle.std.specs.Prelude.{ℤ, pos, negsuc, length, get_or, replicate}
use mathlib.Core.List.{List, [], ◌∷◌, ◌++◌, flatten}
use Rattle.std.proofs.Math.Option.{Option, none, some}
use Rattle.whole.specs.Below.{lowest}
use Rattle.whole.specs.Numbers.{within, eq_z}
use Rattle.whole.specs.Tables.{table}
use Rattle.rules.specs.Sizes.{most_columns, most_rows, largest_coefficient, largest_limit}
use Rattle.rules.specs.Limit.{Limit}
use Rattle.rules.specs.Program.Text.{digits, reading}
use Rattle.rules.specs.Exchange.Tokens.{token_bytes, token_place}
use Rattle.rules.specs.Exchange.Script.{set_logic, declare_const, of_real, assert_row, end_assert, open_sum, open_term}
use Rattle.rules.specs.Exchange.Script.{open_minus, close, assert_limit, no_less, more, no_more, less, check_sat}
use Rattle.rules.specs.Exchange.Script.{column_name, row_name, name_of}

-- ---- tokens by their bytes

abbrev pub Bytes : Type 0
Bytes = List ℕ

unfoldable pub same_bytes : Bytes → Bytes → Bool
same_bytes [] [] = true
same_bytes [] (b ∷ t) = false
same_bytes (a ∷ s) [] = false
same_bytes (a ∷ s) (b ∷ t) = eqb a b && same_bytes s t

-- the first of these tokens is this one
unfoldable pub is : List Bytes → Bytes → Bool
is [] w = false
is (t ∷ ts) w = same_bytes t w

-- a number of 0 or more, with no zero in front
unfoldable pub numeral : Bytes → Option ℕ
numeral w = cond (same_bytes (digits (reading 0 w)) w) (some (reading 0 w)) none

-- ---- what was read

-- the sizes; the rows that are whole; and the limits so far by their numbers, that of v's lower one being 2v and that
-- of its upper one 2v + 1
pub record Pieces : Type 0 where
  pub n : ℕ
  pub m : ℕ
  pub rows : List (List ℤ)
  pub limits : List (Option Limit)

abbrev pub pieces : ℕ → ℕ → List (List ℤ) → List (Option Limit) → Pieces
pieces n m rows limits = record { n = n; m = m; rows = rows; limits = limits }

-- where a number stands: in the next row, behind these coefficients; or as limit number k, strict or not
pub data Spot : Type 0 where
  coefficient : Pieces → List ℤ → Spot
  limit : Pieces → ℕ → Bool → Spot

-- what the next token decides
pub data Stage : Type 0 where
  -- so many columns and rows are declared: another declaration, or the first other command
  declaring : ℕ → ℕ → Stage
  -- what is declared
  naming : ℕ → ℕ → Stage
  -- the sign of a number, and the number where it is not below 0
  number : Spot → Stage
  -- the size of a number below 0
  size : Spot → Stage
  -- the rows are read: another limit, or the end
  limiting : Pieces → Stage
  -- the relation of a limit
  relating : Pieces → Stage
  -- the variable of a limit; side 0 is the lower one, 1 the upper; strict or not
  bounding : Pieces → ℕ → Bool → Stage
  -- nothing may follow
  ended : Pieces → Stage

pub record ReaderState : Type 0 where
  pub todo : List Bytes
  pub stage : Stage

abbrev pub on : List Bytes → Stage → ReaderState
on ts st = record { todo = ts; stage = st }

-- ---- what must follow

-- more than one term stand in a sum
unfoldable pub opens : ℕ → List Bytes
opens n = cond (eqb n 1) [] (token_bytes open_sum)

unfoldable pub closes : ℕ → List Bytes
closes n = cond (eqb n 1) [] (token_bytes close)

-- a row, up to its first coefficient
unfoldable pub row_head : Pieces → List Bytes
row_head P = token_bytes assert_row ++ row_name (length P.rows) ∷ opens P.n ++ token_bytes open_term

-- the next row, or the limits
unfoldable pub going : Pieces → ReaderState
going P = cond (ltb (length P.rows) P.m) (on (row_head P) (number (coefficient P []))) (on [] (limiting P))

unfoldable pub with_row : Pieces → List ℤ → Pieces
with_row P row = pieces P.n P.m (P.rows ++ (row ∷ [])) P.limits

-- limits that were passed over are missing
unfoldable pub with_limit : Pieces → ℕ → Limit → Pieces
with_limit P k l =
    pieces P.n P.m P.rows (P.limits ++ (replicate (k - length P.limits) none ++ (some l ∷ [])))

unfoldable pub ahead : List Bytes → ReaderState → ReaderState
ahead ts S = on (ts ++ S.todo) S.stage

-- ---- numbers

unfoldable pub all_zero : List ℤ → Bool
all_zero [] = true
all_zero (z ∷ l) = eq_z z (pos 0) && all_zero l

-- which numbers may stand there; the last coefficient of a row is not 0 where all others are
unfoldable pub fits : Spot → ℤ → Bool
fits (coefficient P row) z =
    within largest_coefficient z && not (eqb (suc (length row)) P.n && (all_zero row && eq_z z (pos 0)))
fits (limit P k strict) z = within largest_limit z

-- what comes behind it
unfoldable pub behind_term : Pieces → List ℤ → ReaderState
behind_term P row = cond (ltb (length row) P.n)
    (on (token_bytes open_term) (number (coefficient P row)))
    (ahead (closes P.n ++ token_bytes end_assert) (going (with_row P row)))

unfoldable pub taken : Spot → ℤ → ReaderState
taken (coefficient P row) z =
    ahead (column_name (length row) ∷ token_bytes close) (behind_term P (row ++ (z ∷ [])))
taken (limit P k strict) z =
    on (token_bytes end_assert) (limiting (with_limit P k (record { plain = z; strict = strict })))

-- the number that is written so, where there is one: with a minus sign 0 is none
unfoldable pub with_sign : Bool → Option ℕ → Option ℤ
with_sign false none = none
with_sign true none = none
with_sign false (some k) = some (pos k)
with_sign true (some zero) = none
with_sign true (some (suc k)) = some (negsuc k)

-- a number that fits, and what comes then; before that the parenthesis of a number below 0
unfoldable pub admitted : Spot → List Bytes → Option ℤ → Option ReaderState
admitted c before none = none
admitted c before (some z) = cond (fits c z) (some (ahead before (taken c z))) none

-- ---- decisions

-- these tokens, the first of which is due
unfoldable pub matched : List Bytes → Stage → Bytes → Option ReaderState
matched [] st w = none
matched (t ∷ ts) st w = cond (same_bytes t w) (some (on ts st)) none

-- a limit, where one is left, or the end
unfoldable pub limit_command : Pieces → Bytes → Option ReaderState
limit_command P w = cond (is (token_bytes assert_limit) w && ltb (length P.limits) (2 * (P.n + P.m)))
    (matched (token_bytes assert_limit) (relating P) w)
    (matched (token_bytes check_sat) (ended P) w)

-- the first command behind the declarations
unfoldable pub command : Pieces → Bytes → Option ReaderState
command P w = cond (ltb (length P.rows) P.m)
    (matched (row_head P) (number (coefficient P [])) w)
    (limit_command P w)

-- a relation, where its side has a limit left
unfoldable pub relation_taken : Pieces → ℕ → Bool → Option ReaderState
relation_taken P side strict =
    cond (ltb (length P.limits) (2 * (P.n + P.m) + side - 1)) (some (on [] (bounding P side strict))) none

unfoldable pub relation_read : Pieces → Bytes → Option ReaderState
relation_read P w = cond (same_bytes no_less w) (relation_taken P 0 false)
    (cond (same_bytes more w) (relation_taken P 0 true)
    (cond (same_bytes no_more w) (relation_taken P 1 false)
    (cond (same_bytes less w) (relation_taken P 1 true) none)))

-- the variable with this name, where its limit is not passed yet
unfoldable pub name_read : Pieces → ℕ → Bytes → Option ℕ
name_read P side w = lowest (P.n + P.m) (λ v.
    cond (leb (length P.limits) (2 * v + side) && same_bytes (name_of P.n v) w) (some v) none)

unfoldable pub bounded : Pieces → ℕ → Bool → Option ℕ → Option ReaderState
bounded P side strict none = none
bounded P side strict (some v) = some (on [] (number (limit P (2 * v + side) strict)))

-- what a token decides; `none` where it cannot stand there
unfoldable pub decided : Stage → Bytes → Option ReaderState
decided (declaring n m) w = cond (is (token_bytes declare_const) w && ltb m most_rows)
    (matched (token_bytes declare_const) (naming n m) w)
    (command (pieces n m [] []) w)
decided (naming n m) w = cond (eqb m 0 && ltb n most_columns && same_bytes (column_name n) w)
    (matched (column_name n ∷ token_bytes of_real) (declaring (suc n) 0) w)
    (matched (row_name m ∷ token_bytes of_real) (declaring n (suc m)) w)
decided (number c) w = cond (is (token_bytes open_minus) w)
    (matched (token_bytes open_minus) (size c) w)
    (admitted c [] (with_sign false (numeral w)))
decided (size c) w = admitted c (token_bytes close) (with_sign true (numeral w))
decided (limiting P) w = limit_command P w
decided (relating P) w = relation_read P w
decided (bounding P side strict) w = bounded P side strict (name_read P side w)
decided (ended P) w = none

unfoldable pub token_step : List Bytes → Stage → Bytes → Option ReaderState
token_step [] st w = decided st w
token_step (t ∷ ts) st w = matched (t ∷ ts) st w

-- ---- the whole text

-- what was read, or the number of the token that cannot stand there
pub data Got : Type 0 where
  got : Pieces → Got
  stuck : ℕ → Got

-- at the end of the text
unfoldable pub finish : ℕ → List Bytes → Stage → Got
finish i (t ∷ ts) st = stuck i
finish i [] (declaring n m) = stuck i
finish i [] (naming n m) = stuck i
finish i [] (number c) = stuck i
finish i [] (size c) = stuck i
finish i [] (limiting P) = stuck i
finish i [] (relating P) = stuck i
finish i [] (bounding P side strict) = stuck i
finish i [] (ended P) = got P

-- the tokens from number i on
unfoldable pub reads : ℕ → ReaderState → List Bytes → Got
reads i S [] = finish i S.todo S.stage
reads i S (w ∷ ws) = elim (token_step S.todo S.stage w) [ none ↦ stuck i | some T ↦ reads (suc i) T ws ]

-- a problem has one column at least
unfoldable pub outset : ReaderState
outset = on (token_bytes set_logic ++ token_bytes declare_const ++ column_name 0 ∷ token_bytes of_real) (declaring 1 0)

-- ---- the words

-- 1 where the limit is there, 4 more where it is strict; for an upper limit twice that
unfoldable pub marks : Option Limit → ℕ
marks none = 0
marks (some l) = 1 + cond l.strict 4 0

unfoldable pub plain_number : Option Limit → ℤ
plain_number none = pos 0
plain_number (some l) = l.plain

-- kind, lower and upper of a variable
unfoldable pub limit_word : Option Limit → Option Limit → ℕ → ℤ
limit_word lower upper zero = pos (marks lower + 2 * marks upper)
limit_word lower upper (suc zero) = plain_number lower
limit_word lower upper (suc (suc c)) = plain_number upper

unfoldable pub slot_at : Pieces → ℕ → Option Limit
slot_at P k = get_or P.limits k none

unfoldable pub limit_words : Pieces → List ℤ
limit_words P =
    table (3 * (P.n + P.m)) (λ k. limit_word (slot_at P (2 * (k / 3))) (slot_at P (2 * (k / 3) + 1)) (k % 3))

unfoldable pub pieces_words : Pieces → List ℤ
pieces_words P = pos P.n ∷ pos P.m ∷ flatten P.rows ++ limit_words P

-- the words, or the place of the first token that cannot stand there
pub data TextOutcome : Type 0 where
  words : List ℤ → TextOutcome
  refused_at : ℕ → TextOutcome

unfoldable pub text_outcome : List ℕ → Got → TextOutcome
text_outcome t (got P) = words (pieces_words P)
text_outcome t (stuck i) = refused_at (token_place t i)

unfoldable pub read_text : List ℕ → TextOutcome
read_text t = text_outcome t (reads 0 outset (token_bytes t))
