-- docs/RULES.md, "The limit problem as words": n and m, the coefficients row by row, then kind, lower and upper of each
-- variable.
use Rattle.std.specs.Prelude.{List, ℕ, ◌+◌, ◌*◌, ℤ, pos, nat_abs, get_or}
use Rattle.std.proofs.Math.Option.{Option, none, some}
use Rattle.rules.specs.Limit.{Limit, has_lower, has_upper, lower_pair, present, strict_lower, strict_upper, upper_pair}

-- word i; a word that is not there is 0
abbrev pub word : List ℤ → ℕ → ℤ
word ws i = get_or ws i (pos 0)

abbrev pub n_of : List ℤ → ℕ
n_of ws = nat_abs (word ws 0)

abbrev pub m_of : List ℤ → ℕ
m_of ws = nat_abs (word ws 1)

-- all variables: 0 to n - 1 are the problem's, and n + i equals row i's sum
abbrev pub vars_of : List ℤ → ℕ
vars_of ws = n_of ws + m_of ws

abbrev pub coefficient_word : List ℤ → ℕ → ℕ → ℤ
coefficient_word ws i j = word ws (2 + (i * n_of ws + j))

abbrev pub kind_place : List ℤ → ℕ → ℕ
kind_place ws v = 2 + m_of ws * n_of ws + 3 * v

abbrev pub kind : List ℤ → ℕ → ℤ
kind ws v = word ws (kind_place ws v)

abbrev pub lower_word : List ℤ → ℕ → ℤ
lower_word ws v = word ws (kind_place ws v + 1)

abbrev pub upper_word : List ℤ → ℕ → ℤ
upper_word ws v = word ws (kind_place ws v + 2)

-- how many words an answer has: verdict, count, denominator, and two for each variable
abbrev pub answer_length : List ℤ → ℕ
answer_length ws = 3 + 2 * vars_of ws

-- what the words mean; limits are values of X
pub record Problem (X : Type 0) : Type 0 where
  pub n : ℕ
  pub m : ℕ
  pub coefficient : ℕ → ℕ → ℤ
  pub lower : ℕ → Option X
  pub upper : ℕ → Option X

abbrev pub vars : {X : Type 0} → Problem X → ℕ
vars P = P.n + P.m

unfoldable pub problem : List ℤ → Problem Limit
problem ws = record {
  n = n_of ws;
  m = m_of ws;
  coefficient = coefficient_word ws;
  lower = λ v. present (has_lower (kind ws v)) (record { plain = lower_word ws v; strict = strict_lower (kind ws v) });
  upper = λ v. present (has_upper (kind ws v)) (record { plain = upper_word ws v; strict = strict_upper (kind ws v) });
}

-- something that may be missing, as something else
unfoldable pub mapped : {X Y : Type 0} → (X → Y) → Option X → Option Y
mapped f none = none
mapped f (some x) = some (f x)

-- as the run reads it: each limit is the pair that it stands for
abbrev pub inner : Problem Limit → Problem (ℤ × ℤ)
inner P = record {
  n = P.n;
  m = P.m;
  coefficient = P.coefficient;
  lower = λ v. mapped lower_pair (P.lower v);
  upper = λ v. mapped upper_pair (P.upper v);
}
