-- How long the SMT-LIB text of a problem is, for any most rows that two digits count.
--   number-below, number-above    a number's text, by its sign
--   script-short                  the whole text of accepted words has at most `most_script` bytes
use mathlib.Core.Bool.{Bool, true, false, cond}
use mathlib.Core.List.{List, ◌++◌}
use mathlib.Core.Path.{◌≡◌, refl}
use Prim.Native.Nat.{ℕ, suc, ◌+◌, ◌*◌, ◌^◌, ◌≤◌, ◌<◌}
use native.Mathlib.Decide.{dec_lt}
use native.Mathlib.Omega.{arith}
use borrow.Author.Tests.{lt-ltb, le-ltb}
use lib.Dec.{eqb, ltb→lt}
use lib.IntN.{ℤ, pos, negsuc, nat_abs}
use lib.ListN.{length, length-append}
use lib.Signed.{◌<ℤ◌, ◌≤ℤ◌}
use Rattle.rules.specs.Limit.{has_lower, has_upper, strict_lower, strict_upper}
use Rattle.rules.specs.Problem.{coefficient_word, kind, lower_word, m_of, n_of, problem, upper_word, vars_of}
use Rattle.rules.specs.Program.Text.{ascii, digits}
use Rattle.rules.specs.Refusal.{Accepted, FineLimit}
use Rattle.rules.specs.Sizes.{most_columns, most_column_name, most_declaration, most_limits_text}
use Rattle.rules.specs.Sizes.{most_name, most_row_text, most_script, most_term}
use Rattle.rules.specs.Exchange.Script.{assert_limit, assert_row, check_sat, close, column_name, declaration}
use Rattle.rules.specs.Exchange.Script.{declare_const, end_assert, exchange_text, less, limit_text, limits_text}
use Rattle.rules.specs.Exchange.Script.{lower_relation, more, name_of, no_less, no_more, number_text, of_real}
use Rattle.rules.specs.Exchange.Script.{open_minus, open_sum, open_term, row_name, row_text, set_logic, space}
use Rattle.rules.specs.Exchange.Script.{sum_text, term, terms_text, upper_relation}
use Rattle.rules.proofs.Program.Lengths.{lines-bounded}
use Rattle.rules.proofs.Program.Numbers.{digits-short}
use Rattle.rules.proofs.Refusal.Accepted.{coefficient-within, m-few, n-few}

-- ---- numbers and names

-- a number's text, by its sign
pub number-below : (z : ℤ) → z <ℤ pos 0 → number_text z ≡ open_minus ++ digits (nat_abs z) ++ close
unfolding number_text
number-below (pos n) h = absurd (omega (arith, ltb→lt n 0 h.lt))
number-below (negsuc k) h = refl

pub number-above : (z : ℤ) → pos 0 ≤ℤ z → number_text z ≡ digits (nat_abs z)
unfolding number_text
number-above (pos n) h = refl
number-above (negsuc k) h = absurd h.le

-- digits, and the four bytes of a minus in parentheses
number_short : (k : ℕ) (z : ℤ) → nat_abs z < 10 ^ suc k → length (number_text z) ≤ k + 5
unfolding number_text open_minus close ascii
number_short k (pos n) h = omega (arith, digits-short k n h)
number_short k (negsuc n) h = simp length-append (omega (arith, digits-short k (suc n) h))

column-short : (j : ℕ) → j < most_columns → length (column_name j) ≤ most_column_name
unfolding column_name ascii
column-short j h = omega (arith, digits-short 0 j (omega arith))

row-name-short : (i : ℕ) → i < 100 → length (row_name i) ≤ most_name
unfolding row_name ascii
row-name-short i h = omega (arith, digits-short 1 i (omega arith))

name-short : (n v : ℕ) → n ≤ most_columns → v < n + 100 → length (name_of n v) ≤ most_name
unfolding name_of
name-short n v few h = elim (dec_lt v n) [
  | yes s ↦ rw (lt-ltb v n s) (omega (arith, column-short v (omega arith)))
  | no s ↦ rw (le-ltb v n (omega arith)) (row-name-short _ (omega arith))
]

-- ---- commands

declaration-short : (n v : ℕ) → n ≤ most_columns → v < n + 100 → length (declaration n v) ≤ most_declaration
unfolding declaration declare_const of_real ascii
declaration-short n v few h = simp length-append (omega (arith, name-short n v few h))

term-short : (z : ℤ) (j : ℕ) → nat_abs z < 10 ^ 4 → j < most_columns → length (term z j) ≤ most_term
unfolding term open_term space close ascii
term-short z j h few = simp length-append (omega (arith, number_short 3 z h, column-short j few))

relation-lower : (b : Bool) → length (lower_relation b) ≤ 2
unfolding lower_relation more no_less ascii
relation-lower true = omega arith
relation-lower false = omega arith

relation-upper : (b : Bool) → length (upper_relation b) ≤ 2
unfolding upper_relation less no_more ascii
relation-upper true = omega arith
relation-upper false = omega arith

limit-short : (b : Bool) (relation name : List ℕ) (z : ℤ) → length relation ≤ 2 → length name ≤ most_name →
    FineLimit b z → length (limit_text b relation name z) ≤ 28
unfolding limit_text assert_limit space end_assert ascii
limit-short false relation name z r n f = omega arith
limit-short true relation name z r n f = simp length-append
    (omega (arith, r, n, number_short 4 z (let h = f.within in omega arith)))

sum-short : (n : ℕ) (terms : List ℕ) → length (sum_text n terms) ≤ 4 + length terms
unfolding sum_text open_sum close ascii
sum-short n terms = go (eqb n 1)
  where
    go : (b : Bool) → length (cond b terms (open_sum ++ terms ++ close)) ≤ 4 + length terms
    go true = omega arith
    go false = simp length-append (omega arith)

-- ---- the whole text

module _ {rows : ℕ} {ws : List ℤ} (few : rows ≤ 100) (A : Accepted rows ws) where
  coefficient-short : (i j : ℕ) → i < m_of ws → j < n_of ws → nat_abs (coefficient_word ws i j) < 10 ^ 4
  unfolding problem
  coefficient-short i j h l = let k = (coefficient-within A i j h l).within in omega arith

  terms-short : (i : ℕ) → i < m_of ws → length (terms_text ws i) ≤ most_term * n_of ws
  unfolding terms_text
  terms-short i h = lines-bounded (n_of ws) most_term (λ j. term (coefficient_word ws i j) j)
      (λ j l. term-short (coefficient_word ws i j) j (coefficient-short i j h l) (omega (arith, n-few A)))

  row-short : (i : ℕ) → i < m_of ws → length (row_text ws i) ≤ most_row_text
  unfolding row_text assert_row end_assert ascii
  row-short i h = simp length-append (omega (
    arith,
    row-name-short i (omega (arith, m-few A)),
    sum-short (n_of ws) (terms_text ws i),
    terms-short i h,
    n-few A,
  ))

  limits-short : (v : ℕ) → v < vars_of ws → length (limits_text ws v) ≤ most_limits_text
  unfolding limits_text
  limits-short v h =
      let name = name-short (n_of ws) v (n-few A) (omega (arith, m-few A)) in
      let lower = limit-short (has_lower (kind ws v)) (lower_relation (strict_lower (kind ws v))) (name_of (n_of ws) v)
      (lower_word ws v) (relation-lower (strict_lower (kind ws v))) name (A.lowers v h) in
      let upper = limit-short (has_upper (kind ws v)) (upper_relation (strict_upper (kind ws v))) (name_of (n_of ws) v)
      (upper_word ws v) (relation-upper (strict_upper (kind ws v))) name (A.uppers v h) in
      rw length-append (omega (arith, lower, upper))

  pub script-short : length (exchange_text ws) ≤ most_script rows
  unfolding exchange_text set_logic check_sat ascii
  script-short =
      let declared = lines-bounded (vars_of ws) most_declaration (declaration (n_of ws))
      (λ v h. declaration-short (n_of ws) v (n-few A) (omega (arith, m-few A))) in
      let summed = lines-bounded (m_of ws) most_row_text (row_text ws) row-short in
      let limited = lines-bounded (vars_of ws) most_limits_text (limits_text ws) limits-short in
      simp length-append (omega (arith, declared, summed, limited, n-few A, m-few A))
