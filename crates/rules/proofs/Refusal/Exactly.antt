-- docs/RULES.md, "Refusal numbers and their order", line by line: each test of specs/Refusal is true exactly where its
-- line of specs/Facts/Refusal applies, and the refusal is the first that applies.
--   refusal-exactly              the refusal is k exactly where no earlier line's meaning holds and line k's does, and
--                                0 where none does
--   within-exactly               .. within any most rows
--   problem-refusal-exactly      the same of refusals 1 to 6 and 10
--   few-tells, .., room-tells    each test, and its line
--   problem-tested               all of them
--   numbered                     the numbers of refusals 1 to 6 and 10
--   accepted-exactly             refusals 1 to 6 and 10 give 0 exactly for accepted words, with any most rows
--   answered-exactly             the refusal is 0 exactly for accepted words with room enough
--   accepted-more, fine_more     what is accepted within fewer rows is accepted within more, and so not refused
use mathlib.Core.Bool.{Bool, false, not, true, ◌&&◌}
use mathlib.Core.List.{List, [], ◌++◌, ◌∷◌}
use mathlib.Core.Logic.{◌↔◌}
use mathlib.Core.Path.{refl, ◌≡◌}
use Prim.Native.Nat.{ℕ, ◌*◌, ◌+◌, ◌≤◌}
use native.Mathlib.Omega.{arith}
use lib.IntN.{pos, ℤ}
use lib.ListN.{length}
use lib.Dec.{le→leb}
use lib.Signed.{le_z_yes}
use Rattle.whole.proofs.Numbers.Order.{≤ℤ-trans}
use Rattle.whole.specs.Tells.{Tells}
use Rattle.whole.proofs.Tells.{tells_all, tells-eq, tells-eq_z, tells-lt, tells-not, tells-or, tells-outside}
use Rattle.whole.proofs.Tells.{tells-some}
use Rattle.whole.proofs.Tells.{tells-within}
use Rattle.whole.proofs.Bools.{true-false}
use Rattle.rules.proofs.Refusal.First.{Tested, Upto, first-exactly, first_fine, no_test, tested, tested-then}
use Rattle.rules.specs.Limit.{bad_limit_word, has_lower, has_upper, bad_kind_word, strict_lower, strict_upper}
use Rattle.rules.specs.Facts.Refusal.{AllFine, BadKind, BadLimit, FineKind, First, Tests, blank_line}
use Rattle.rules.specs.Facts.Refusal.{coefficient_line}
use Rattle.rules.specs.Facts.Refusal.{few_line, kind_line, length_line, limit_line, problem_table, room_line, size_line}
use Rattle.rules.specs.Facts.Refusal.{solver_table, solver_table_within}
use Rattle.rules.specs.Problem.{answer_length, coefficient_word, kind, lower_word, m_of, n_of, upper_word, vars_of}
use Rattle.rules.specs.Problem.{word}
use Rattle.rules.specs.Refusal.{Accepted, FineLimit, bad_coefficient, bad_kind, bad_length, bad_limit, bad_size}
use Rattle.rules.specs.Refusal.{blank_row, first, problem_refusal, problem_refusal_within, problem_tests, refusal}
use Rattle.rules.specs.Refusal.{refusal_within, some_blank, too_few, too_short}
use Rattle.rules.specs.Sizes.{largest_coefficient, largest_limit, most_columns, most_rows}

-- the numbers of the problem's tests
pub numbered : (rows : ℕ) (ws : List ℤ) → Upto 10 (problem_tests rows ws)
unfolding problem_tests
numbered rows ws = omega arith

-- a strict mark on a missing limit
stray-tells : (s p : Bool) → Tells (s && not p) ((s ≡ true) × (p ≡ false)) (s ≡ true → p ≡ true)
stray-tells true true = record {
  if-true = λ e. true-false e refl;
  if-false = λ e k. refl;
  not-both = λ y n. true-false refl y.1;
}
stray-tells true false = record {
  if-true = λ e. (refl, refl);
  if-false = λ e k. true-false refl e;
  not-both = λ y n. true-false (n refl) refl;
}
stray-tells false p = record {
  if-true = λ e. true-false e refl;
  if-false = λ e k. true-false k refl;
  not-both = λ y n. true-false y.0 refl;
}

kind-word-tells : (k : ℤ) → Tells (bad_kind_word k) (BadKind k) (FineKind k)
unfolding bad_kind_word
kind-word-tells k = tells-or (tells-outside 0 15 k)
    (tells-or (stray-tells (strict_lower k) (has_lower k)) (stray-tells (strict_upper k) (has_upper k)))

pub limit-tells : (b : Bool) (z : ℤ) → Tells (bad_limit_word b z) (BadLimit b z) (FineLimit b z)
unfolding bad_limit_word
limit-tells true z = tells-not (tells-within largest_limit z)
limit-tells false z = tells-not (tells-eq_z z (pos 0))

-- ---- each test, where it applies and where it does not

module _ (ws : List ℤ) where
  pub few-tells : Tests (too_few ws) (few_line ws)
  unfolding too_few
  few-tells = tells-lt (length ws) 2

  pub size-tells : (rows : ℕ) → Tests (bad_size rows ws) (size_line rows ws)
  unfolding bad_size
  size-tells rows = tells-or (tells-outside 1 most_columns (word ws 0)) (tells-outside 0 rows (word ws 1))

  pub length-tells : Tests (bad_length ws) (length_line ws)
  unfolding bad_length
  length-tells = tells-not (tells-eq (length ws) (2 + m_of ws * n_of ws + 3 * vars_of ws))

  pub coefficient-tells : Tests (bad_coefficient ws) (coefficient_line ws)
  unfolding bad_coefficient
  coefficient-tells = tells-some (m_of ws * n_of ws) _
      (λ i h. tells-not (tells-within largest_coefficient (word ws (2 + i))))

  pub kind-tells : Tests (bad_kind ws) (kind_line ws)
  unfolding bad_kind
  kind-tells = tells-some (vars_of ws) _ (λ v h. kind-word-tells (kind ws v))

  pub limits-tell : Tests (bad_limit ws) (limit_line ws)
  unfolding bad_limit
  limits-tell = tells-some (vars_of ws) _ (λ v h.
      tells-or (limit-tells (has_lower (kind ws v)) (lower_word ws v))
      (limit-tells (has_upper (kind ws v)) (upper_word ws v)))

  pub blank-tells : Tests (some_blank ws) (blank_line ws)
  unfolding some_blank blank_row
  blank-tells = tells-some (m_of ws) _ (λ i h. tells_all (n_of ws) _
      (λ j k. tells-eq_z (coefficient_word ws i j) (pos 0)))

  pub room-tells : (room : ℕ) → Tests (too_short ws room) (room_line ws room)
  unfolding too_short
  room-tells room = tells-lt room (answer_length ws)

-- ---- the table

pub problem-tested : (rows : ℕ) (ws : List ℤ) → Tested (problem_tests rows ws) (problem_table rows ws)
unfolding problem_tests
problem-tested rows ws =
    tested (few-tells ws) (tested (size-tells ws rows) (tested (length-tells ws) (tested (coefficient-tells ws)
    (tested (kind-tells ws) (tested (limits-tell ws) (tested (blank-tells ws) no_test))))))

solver-tested : (rows : ℕ) (ws : List ℤ) (room : ℕ) →
    Tested (problem_tests rows ws ++ ((too_short ws room, 7) ∷ [])) (solver_table_within rows ws room)
solver-tested rows ws room = tested-then (problem-tested rows ws) (tested (room-tells ws room) no_test)

-- ---- exactly

pub within-exactly : (rows : ℕ) (ws : List ℤ) (room k : ℕ) →
    (refusal_within rows ws room ≡ k) ↔ First (solver_table_within rows ws room) k
within-exactly rows ws room k = first-exactly (solver-tested rows ws room) k

pub refusal-exactly : (ws : List ℤ) (room k : ℕ) → (refusal ws room ≡ k) ↔ First (solver_table ws room) k
unfolding refusal
refusal-exactly ws room k = within-exactly most_rows ws room k

pub problem-refusal-exactly : (ws : List ℤ) (k : ℕ) → (problem_refusal ws ≡ k) ↔ First (problem_table most_rows ws) k
unfolding problem_refusal
problem-refusal-exactly ws k = first-exactly (problem-tested most_rows ws) k

-- ---- what refusals 1 to 6 and 10 leave

fine-accepted : (rows : ℕ) (ws : List ℤ) → AllFine (problem_table rows ws) → Accepted rows ws
fine-accepted rows ws (few, (size, (exact, (coefficients, (kinds, (limits, (blank, end))))))) = record {
  enough = few;
  n-least = size.0.0;
  n-most = size.0.1;
  m-least = size.1.0;
  m-most = size.1.1;
  exact = exact;
  coefficients = coefficients;
  kind-least = λ v h. (kinds v h).0.0;
  kind-most = λ v h. (kinds v h).0.1;
  lower-marked = λ v h. (kinds v h).1.0;
  upper-marked = λ v h. (kinds v h).1.1;
  lowers = λ v h. (limits v h).0;
  uppers = λ v h. (limits v h).1;
  no-blank = blank;
}

accepted-fine : (rows : ℕ) (ws : List ℤ) → Accepted rows ws → AllFine (problem_table rows ws)
accepted-fine rows ws A = (
  A.enough,
  (
    ((A.n-least, A.n-most), (A.m-least, A.m-most)),
    (
      A.exact,
      (
        A.coefficients,
        (
          (λ v h. ((A.kind-least v h, A.kind-most v h), (A.lower-marked v h, A.upper-marked v h))),
          ((λ v h. (A.lowers v h, A.uppers v h)), (A.no-blank, tt)),
        ),
      ),
    ),
  ),
)

pub accepted-exactly : (rows : ℕ) (ws : List ℤ) → (first (problem_tests rows ws) ≡ 0) ↔ Accepted rows ws
unfolding problem_tests
accepted-exactly rows ws = let r = first_fine (problem-tested rows ws) (omega arith) in
    (λ e. fine-accepted rows ws (r.0 e), λ A. r.1 (accepted-fine rows ws A))

pub answered-exactly : (ws : List ℤ) (room : ℕ) →
    (refusal ws room ≡ 0) ↔ (Accepted most_rows ws × (answer_length ws ≤ room))
unfolding refusal problem_tests
answered-exactly ws room = let r = first_fine (solver-tested most_rows ws room) (omega arith) in
    (λ e. split (r.0 e), λ A. r.1 (join (accepted-fine most_rows ws A.0) A.1))
  where
    split : AllFine (solver_table ws room) → Accepted most_rows ws × (answer_length ws ≤ room)
    split (few, (size, (exact, (coefficients, (kinds, (limits, (blank, (fits, end)))))))) =
        (fine-accepted most_rows ws (few, (size, (exact, (coefficients, (kinds, (limits, (blank, tt))))))), fits)

    join : AllFine (problem_table most_rows ws) → answer_length ws ≤ room → AllFine (solver_table ws room)
    join (few, (size, (exact, (coefficients, (kinds, (limits, (blank, end))))))) fits =
        (few, (size, (exact, (coefficients, (kinds, (limits, (blank, (fits, tt))))))))

-- ---- within fewer rows

pub accepted-more : {fewer more : ℕ} {ws : List ℤ} → fewer ≤ more → Accepted fewer ws → Accepted more ws
accepted-more h A = record {
  enough = A.enough;
  n-least = A.n-least;
  n-most = A.n-most;
  m-least = A.m-least;
  m-most = ≤ℤ-trans A.m-most (le_z_yes (le→leb _ _ h));
  exact = A.exact;
  coefficients = A.coefficients;
  kind-least = A.kind-least;
  kind-most = A.kind-most;
  lower-marked = A.lower-marked;
  upper-marked = A.upper-marked;
  lowers = A.lowers;
  uppers = A.uppers;
  no-blank = A.no-blank;
}

pub fine_more : {fewer more : ℕ} (ws : List ℤ) → fewer ≤ more → problem_refusal_within fewer ws ≡ 0 →
    problem_refusal_within more ws ≡ 0
fine_more {fewer} {more} ws h e = (accepted-exactly more ws).1 (accepted-more h ((accepted-exactly fewer ws).0 e))
