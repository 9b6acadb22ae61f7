-- What accepted words hold, as facts about their sizes and their problem.
--   n-few, m-few                            n is at most 8, m at most the rows
--   coefficient-within                      every coefficient is within its range
--   lower-within, upper-within              every present limit is within its range
--   problem-n, problem-m, problem-vars      the problem's sizes are the words'
--   rows-asked, rows-capped                   the rows that are asked for, while they are no more than the most
--   inset-within, outset-within             a limit stands one small amount inside its number at most
use mathlib.Core.Bool.{Bool, false, true}
use mathlib.Core.List.{List}
use mathlib.Core.Option.{none-ne-some, some}
use mathlib.Core.Path.{ap, refl, ◌≡◌}
use Prim.Native.Nat.{ℕ, ◌*◌, ◌+◌, ◌<◌, ◌≤◌}
use native.Mathlib.Omega.{arith}
use native.Mathlib.Nat.{min-eq_left, min-eq_right}
use lib.Arith.{digits_lt}
use lib.IntN.{ℤ, neg_ℤ}
use Rattle.whole.proofs.Numbers.Tests.{under-size}
use Rattle.whole.specs.Numbers.{Within}
use Rattle.rules.specs.Limit.{Limit, inset, strict_lower, strict_upper, has_lower, has_upper, present}
use Rattle.rules.specs.Problem.{kind, lower_word, m_of, n_of, problem, upper_word, vars, vars_of, word}
use Rattle.rules.specs.Refusal.{Accepted, FineLimit, rows_within}
use Rattle.rules.specs.Sizes.{largest_coefficient, largest_limit, most_columns, most_rows}

module _ (ws : List ℤ) where
  pub problem-n : (problem ws).n ≡ n_of ws
  unfolding problem
  problem-n = refl

  pub problem-m : (problem ws).m ≡ m_of ws
  unfolding problem
  problem-m = refl

  pub problem-vars : vars (problem ws) ≡ vars_of ws
  unfolding problem
  problem-vars = refl

present-within : (b s : Bool) (z : ℤ) (l : Limit) → FineLimit b z →
    present b (record { plain = z; strict = s }) ≡ some l → Within l.plain largest_limit
unfolding present
present-within true s z l h e = let q : ◌≡◌ {A = Limit} (record { plain = z; strict = s }) l = cc in
    rw (ap (λ k. k.plain) q) at h
present-within false s z l h e = absurd (none-ne-some l e)

module _ {rows : ℕ} {ws : List ℤ} (A : Accepted rows ws) where
  pub n-few : n_of ws ≤ most_columns
  n-few = under-size most_columns 1 (word ws 0) A.n-least A.n-most

  pub m-few : m_of ws ≤ rows
  m-few = under-size rows 0 (word ws 1) A.m-least A.m-most

  pub coefficient-within : (i j : ℕ) → i < m_of ws → j < n_of ws → Within ((problem ws).coefficient i j)
      largest_coefficient
  unfolding problem
  coefficient-within i j h k = A.coefficients (i * n_of ws + j) (digits_lt h k)

  pub lower-within : (v : ℕ) (l : Limit) → v < vars_of ws → (problem ws).lower v ≡ some l → Within l.plain largest_limit
  unfolding problem
  lower-within v l h e =
      present-within (has_lower (kind ws v)) (strict_lower (kind ws v)) (lower_word ws v) l (A.lowers v h) e

  pub upper-within : (v : ℕ) (u : Limit) → v < vars_of ws → (problem ws).upper v ≡ some u → Within u.plain largest_limit
  unfolding problem
  upper-within v u h e =
      present-within (has_upper (kind ws v)) (strict_upper (kind ws v)) (upper_word ws v) u (A.uppers v h) e

pub inset-within : (b : Bool) → Within (inset b) 1
inset-within true = record { within = omega arith }
inset-within false = record { within = omega arith }

pub outset-within : (b : Bool) → Within (neg_ℤ (inset b)) 1
outset-within true = record { within = omega arith }
outset-within false = record { within = omega arith }

pub rows-asked : (rows : ℕ) → rows ≤ most_rows → rows_within rows ≡ rows
rows-asked rows h = min-eq_left h

pub rows-capped : (rows : ℕ) → most_rows ≤ rows → rows_within rows ≡ most_rows
rows-capped rows h = min-eq_right h
