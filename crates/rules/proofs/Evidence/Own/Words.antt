-- Evidence in the words of an answer, with any words after it.
--   Judged              long enough, and shown
--   can-words, cannot-words
use mathlib.Core.List.{List, append_assoc, ◌++◌, ◌∷◌}
use mathlib.Core.Logic.{inl, inr}
use mathlib.Core.Path.{ap, refl, sym, ◌∙◌, ◌≡◌}
use Prim.Native.Nat.{ℕ, ◌*◌, ◌+◌, ◌<◌, ◌≤◌}
use native.Mathlib.Omega.{arith}
use lib.IntN.{pos, ℤ}
use lib.ListN.{get_or-append, length, length-append}
use Rattle.whole.proofs.Lists.Tables.{table_at, table-length}
use Rattle.whole.specs.Tables.{table}
use Rattle.rules.proofs.Answer.Cases.{laid-length, lower-part, upper-part}
use Rattle.rules.proofs.Evidence.Same.{multipliers-same, numerators-same}
use Rattle.rules.specs.Facts.Answer.{laid}
use Rattle.rules.specs.Evidence.{lower_part, upper_part}
use Rattle.rules.specs.Limit.{Limit}
use Rattle.rules.specs.Problem.{Problem, vars, word}
use Rattle.rules.specs.Facts.Evidence.{Multipliers, Numerators, Shown}

-- long enough to be judged, and its verdict shown
pub record Judged (P : Problem Limit) (a : List ℤ) : Type 0 where
  pub enough : 3 + 2 * vars P ≤ length a
  pub judged : Shown P a

-- an answer's words, with others after it
module _ (N : ℕ) (a b c : ℤ) (ls us rest : List ℤ) (l-many : length ls ≡ N) (u-many : length us ≡ N) where
  with_rest : laid a b c ls us ++ rest ≡ laid a b c ls (us ++ rest)
  unfolding laid
  with_rest = ap (λ l. a ∷ b ∷ c ∷ l) (append_assoc ls us rest)

  long : 3 + 2 * N ≤ length (laid a b c ls us ++ rest)
  long = simp length-append (omega (arith, laid-length a b c ls us N l-many u-many))

  lower_word_lem : (v : ℕ) → v < N → lower_part (laid a b c ls us ++ rest) v ≡ word ls v
  lower_word_lem v h = rw with_rest (lower-part a b c ls (us ++ rest) v (omega arith))

  upper-word : (v : ℕ) → v < N → upper_part N (laid a b c ls us ++ rest) v ≡ word us v
  upper-word v h = rw with_rest (upper-part a b c ls (us ++ rest) N v l-many
      ∙ get_or-append us rest (pos 0) v (omega arith))

module _ (P : Problem Limit) (k : ℤ) (rest : List ℤ) where
  pub can-words : (d : ℤ) (x y : ℕ → ℤ) → Numerators P d x y →
      Judged P (laid (pos 1) k d (table (vars P) x) (table (vars P) y) ++ rest)
  unfolding laid
  can-words d x y S = record {
    enough = long N (pos 1) k d ls us rest l-many u-many;
    judged = inl (
      refl,
      numerators-same P refl
          (λ v h. sym (lower_word_lem N (pos 1) k d ls us rest l-many u-many v h ∙ table_at N x (pos 0) v h))
          (λ v h. sym (upper-word N (pos 1) k d ls us rest l-many u-many v h ∙ table_at N y (pos 0) v h)) S,
    );
  }
    where
      N : ℕ
      N = vars P

      ls : List ℤ
      ls = table N x

      us : List ℤ
      us = table N y

      l-many : length ls ≡ N
      l-many = table-length N x

      u-many : length us ≡ N
      u-many = table-length N y

  pub cannot-words : (lo hi : ℕ → ℤ) → Multipliers P (pos 0) lo hi →
      Judged P (laid (pos 2) k (pos 0) (table (vars P) lo) (table (vars P) hi) ++ rest)
  unfolding laid
  cannot-words lo hi S = record {
    enough = long N (pos 2) k (pos 0) ls us rest l-many u-many;
    judged = inr (
      refl,
      multipliers-same P refl
          (λ v h. sym (lower_word_lem N (pos 2) k (pos 0) ls us rest l-many u-many v h ∙ table_at N lo (pos 0) v h))
          (λ v h. sym (upper-word N (pos 2) k (pos 0) ls us rest l-many u-many v h ∙ table_at N hi (pos 0) v h)) S,
    );
  }
    where
      N : ℕ
      N = vars P

      ls : List ℤ
      ls = table N lo

      us : List ℤ
      us = table N hi

      l-many : length ls ≡ N
      l-many = table-length N lo

      u-many : length us ≡ N
      u-many = table-length N hi
