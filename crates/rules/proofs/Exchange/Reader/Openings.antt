-- What the fixed texts begin with, and which tokens differ.
--   openings                     the tokens of the fixed texts by which the reader decides
--   digits-only, name-only       numbers and names with the same bytes are the same
--   digits-open                  a number does not begin like one below 0
--   numeral-digits, numeral-some the digits of a number are that number's, and of no other
use mathlib.Core.Bool.{Bool, true, false}
use mathlib.Core.List.{List, [], ◌∷◌, ◌++◌, head-eq_of_cons-eq, tail-eq_of_cons-eq}
use mathlib.Core.Option.{Option, some, none-ne-some}
use mathlib.Core.Path.{◌≡◌, refl, sym, ◌∙◌, ap}
use Prim.Native.Nat.{ℕ, ◌-◌, ◌≤◌, ◌<◌}
use native.Mathlib.Omega.{arith}
use native.Mathlib.Decide.{dec_lt}
use borrow.Author.Tests.{lt-ltb, le-ltb}
use lib.ListN.{get_or}
use Rattle.rules.specs.Program.Text
use Rattle.rules.specs.Program.Text.{ascii, digit, digits, reading}
use Rattle.rules.specs.Exchange.Tokens
use Rattle.rules.specs.Exchange.Tokens.{token_bytes}
use Rattle.rules.specs.Exchange.Script
use Rattle.rules.specs.Exchange.Script.{assert_limit, assert_row, check_sat, column_name, declare_const, name_of}
use Rattle.rules.specs.Exchange.Script.{open_minus, row_name}
use Rattle.rules.specs.Exchange.Reader
use Rattle.rules.specs.Exchange.Reader.{Bytes, numeral, same_bytes}
use Rattle.rules.proofs.Program.Numbers.{by_digits, reading-digits}
use Rattle.rules.proofs.Exchange.Reader.Turns.{same_refl, same_true}

abbrev pub assert_word : Bytes
assert_word = ascii "assert"

abbrev pub check_word : Bytes
check_word = ascii "check-sat"

abbrev pub declare_word : Bytes
declare_word = ascii "declare-const"

abbrev pub open_word : Bytes
open_word = ascii "("

pub record Openings : Type 0 where
  pub limit_is : token_bytes assert_limit ≡ assert_word ∷ open_word ∷ []
  pub row_is : token_bytes assert_row ≡ assert_word ∷ open_word ∷ ascii "=" ∷ []
  pub check-is : token_bytes check_sat ≡ check_word ∷ ascii ")" ∷ []
  pub declare-is : token_bytes declare_const ≡ declare_word ∷ []
  pub minus_is : token_bytes open_minus ≡ open_word ∷ ascii "-" ∷ []
  pub check-apart : same_bytes assert_word check_word ≡ false
  pub assert-apart : same_bytes declare_word assert_word ≡ false
  pub check-declared : same_bytes declare_word check_word ≡ false

pub openings : Openings
unfolding Tokens.is_blank Tokens.is_parenthesis Tokens.ends_line Tokens.is_comment Tokens.is_plain
    Tokens.begins Tokens.single Tokens.mode_after Tokens.tokens_at Tokens.last Tokens.scan Tokens.tokens
    Tokens.token_bytes
    Text.ascii Script.declare_const Script.assert_row Script.open_minus Script.assert_limit Script.check_sat
    Reader.same_bytes
openings = record {
  limit_is = refl;
  row_is = refl;
  check-is = refl;
  declare-is = refl;
  minus_is = refl;
  check-apart = refl;
  assert-apart = refl;
  check-declared = refl;
}

-- ---- numbers

pub digits-only : (j k : ℕ) → digits j ≡ digits k → j ≡ k
digits-only j k e = sym (reading-digits j) ∙ ap (reading 0) e ∙ reading-digits k

first_more : (t : List ℕ) (b : ℕ) → 48 ≤ get_or t 0 0 → 48 ≤ get_or (t ++ (b ∷ [])) 0 0
first_more [] b h = absurd (omega arith)
first_more (a ∷ t) b h = h

digits-first : (k : ℕ) → 48 ≤ get_or (digits k) 0 0
digits-first = by_digits (λ n t. 48 ≤ get_or t 0 0) (λ n h. omega arith) (λ n t h. first_more t (digit _) h)

-- 40 is below the digits
pub digits-open : (k : ℕ) → open_word ≡ digits k → ⊥
unfolding ascii
digits-open k e =
    let z : 40 ≡ get_or (digits k) 0 0 = ap (λ t. get_or t 0 0) e in
    omega (arith, digits-first k)

pub numeral-digits : (k : ℕ) → numeral (digits k) ≡ some k
unfolding numeral
numeral-digits k = rw (reading-digits k, same_refl (digits k)) refl

pub numeral-some : (w : Bytes) (k : ℕ) → numeral w ≡ some k → w ≡ digits k
unfolding numeral
numeral-some w k e = go (same_bytes (digits (reading 0 w)) w) refl
  where
    go : (c : Bool) → same_bytes (digits (reading 0 w)) w ≡ c → w ≡ digits k
    go true q =
        let z : reading 0 w ≡ k = inside (rw q at e) in
        sym (same_true (digits (reading 0 w)) w q) ∙ ap digits z
      where
        inside : ◌≡◌ {A = Option ℕ} (some (reading 0 w)) (some k) → reading 0 w ≡ k
        inside f = cc
    go false q = absurd (none-ne-some k (rw q at e))

-- ---- names

name-column : (n v : ℕ) → v < n → name_of n v ≡ column_name v
unfolding name_of
name-column n v h = rw (lt-ltb v n h) refl

name-row : (n v : ℕ) → n ≤ v → name_of n v ≡ row_name (v - n)
unfolding name_of
name-row n v h = rw (le-ltb v n h) refl

column-only : (j k : ℕ) → column_name j ≡ column_name k → j ≡ k
unfolding column_name ascii
column-only j k e = digits-only j k (tail-eq_of_cons-eq e)

row-only : (j k : ℕ) → row_name j ≡ row_name k → j ≡ k
unfolding row_name ascii
row-only j k e = digits-only j k (tail-eq_of_cons-eq e)

pub columns-rows : (j i : ℕ) → column_name j ≡ row_name i → ⊥
unfolding column_name row_name ascii
columns-rows j i e = let z : ◌≡◌ {A = ℕ} 120 114 = head-eq_of_cons-eq e in omega arith

pub name-only : (n u v : ℕ) → name_of n u ≡ name_of n v → u ≡ v
name-only n u v e = go (dec_lt u n) (dec_lt v n)
  where
    go : Dec (u < n) → Dec (v < n) → u ≡ v
    go (yes h) (yes l) = column-only u v (sym (name-column n u h) ∙ e ∙ name-column n v l)
    go (yes h) (no l) =
        absurd (columns-rows u (v - n) (sym (name-column n u h) ∙ e ∙ name-row n v (omega arith)))
    go (no h) (yes l) =
        absurd (columns-rows v (u - n) (sym (name-column n v l) ∙ sym e ∙ name-row n u (omega arith)))
    go (no h) (no l) =
        let z = row-only (u - n) (v - n) (sym (name-row n u (omega arith)) ∙ e ∙ name-row n v (omega arith)) in
        omega arith
