-- The checker's number, exactly: 1 to 6 and 10 by the problem, 7 for an answer too short, 8 accepted, 9 not; nothing
-- else.
--   checked-exactly                line by line: k where no earlier line of `checker_table` applies, and k's does
--   checks, checks-only            `checked` is the number with the facts that it stands for, `Checks`; no other is.
--                                  The table is in specs/Facts/Evidence
--   checked-by-problem, checked-by-answer       the number from the problem's refusal, and else from the two tests of
--                                               the answer
--   checked-accepted               8 exactly when its facts hold
--   checked-same                   word 1 and the words past 3 + 2N never matter
--   check-only                     what is allowed to come out is one number
use mathlib.Core.Bool.{Bool, cond, false, true}
use mathlib.Core.List.{List, [], ◌++◌, ◌∷◌}
use mathlib.Core.Logic.{inl, inr, ◌↔◌, ◌≢◌, ◌⊎◌}
use mathlib.Core.Path.{refl, sym, ◌∙◌, ◌≡◌}
use Prim.Native.Nat.{suc, zero, ℕ, ◌*◌, ◌+◌, ◌<◌, ◌≤◌}
use native.Mathlib.Omega.{arith}
use lib.IntN.{ℤ}
use lib.ListN.{length}
use Rattle.whole.proofs.Bools.{true-false}
use Rattle.whole.specs.Tells.{Tells}
use Rattle.rules.proofs.Evidence.Same.{multipliers-same, numerators-same}
use Rattle.rules.proofs.Evidence.Shows.{shown-tells}
use Rattle.rules.proofs.Refusal.First.{Tested, first-exactly, first-kept, first-passed, no_test, tested}
use Rattle.rules.proofs.Refusal.First.{tested-then}
use Rattle.rules.proofs.Refusal.Exactly.{numbered, problem-tested, room-tells}
use Rattle.rules.specs.Evidence.{accepted, checked, denominator_of, lower_part, upper_part, verdict_of}
use Rattle.rules.specs.Limit.{Limit}
use Rattle.rules.specs.Facts.Refusal.{First}
use Rattle.rules.specs.Problem.{Problem, answer_length, problem, vars, word}
use Rattle.rules.specs.Refusal.{first, problem_refusal, problem_tests, too_short}
use Rattle.rules.specs.Facts.Evidence.{Shown, checker_table}
use Rattle.rules.specs.Sizes.{most_rows}

-- ---- the first test that applies

-- suc k is a number of the problem's: 1 to 6, or 10
abbrev Own : ℕ → Type 0
Own k = (k < 6) ⊎ (k ≡ 9)

abbrev AllOwn : List (Bool × ℕ) → Type 0
AllOwn [] = Unit {0}
AllOwn (t ∷ ts) = ((k : ℕ) → t.1 ≡ suc k → Own k) × AllOwn ts

pub own-clash : {k : ℕ} → Own k → 6 ≤ k → k ≤ 8 → ⊥
own-clash (inl b) l m = omega arith
own-clash (inr b) l m = omega arith

first-own : (ts : List (Bool × ℕ)) → AllOwn ts → (k : ℕ) → first ts ≡ suc k → Own k
unfolding first
first-own [] h k e = let z : ⊥ = omega arith in absurd z
first-own ((true, j) ∷ ts) (o, h) k e = o k e
first-own ((false, j) ∷ ts) (o, h) k e = first-own ts h k e

pub first_three : (b c : Bool) → first ((b, 7) ∷ (c, 8) ∷ (true, 9) ∷ []) ≡ cond b 7 (cond c 8 9)
unfolding first
first_three true c = refl
first_three false true = refl
first_three false false = refl

-- ---- the table: refusals 1 to 6 and 10, an answer too short, evidence, and nothing else

checker-tested : (ws a : List ℤ) →
    Tested (problem_tests most_rows ws ++ ((too_short ws (length a), 7) ∷ (accepted (problem ws) a, 8) ∷ (true, 9) ∷
    []))
    (checker_table ws a)
checker-tested ws a = tested-then (problem-tested most_rows ws)
    (tested (room-tells ws (length a)) (tested (shown-tells (problem ws) a) (tested always no_test)))
  where
    always : Tells true (Unit {0}) ⊥
    always = record { if-true = λ e. tt; if-false = λ e. true-false refl e; not-both = λ y n. n }

pub checked-exactly : (ws a : List ℤ) (k : ℕ) → (checked ws a ≡ k) ↔ First (checker_table ws a) k
unfolding checked
checked-exactly ws a k = first-exactly (checker-tested ws a) k

-- ---- each number, with its facts

data Checks (ws a : List ℤ) : ℕ → Type 0 where
  refused : (k : ℕ) → Own k → problem_refusal ws ≡ suc k → Checks ws a (suc k)
  short : problem_refusal ws ≡ 0 → length a < answer_length ws → Checks ws a 7
  right : problem_refusal ws ≡ 0 → answer_length ws ≤ length a → Shown (problem ws) a → Checks ws a 8
  wrong : problem_refusal ws ≡ 0 → answer_length ws ≤ length a → ¬ Shown (problem ws) a → Checks ws a 9

module _ (ws a : List ℤ) where
  pub checked-by-problem : (k : ℕ) → problem_refusal ws ≡ suc k → checked ws a ≡ suc k
  unfolding checked problem_refusal
  checked-by-problem k e =
      first-kept (problem_tests most_rows ws)
      ((too_short ws (length a), 7) ∷ (accepted (problem ws) a, 8) ∷ (true, 9) ∷ []) k e

  pub checked-by-answer : problem_refusal ws ≡ 0 →
      checked ws a ≡ cond (too_short ws (length a)) 7 (cond (accepted (problem ws) a) 8 9)
  unfolding checked problem_refusal
  checked-by-answer e =
      first-passed 10 (problem_tests most_rows ws)
      ((too_short ws (length a), 7) ∷ (accepted (problem ws) a, 8) ∷ (true, 9) ∷ []) (numbered most_rows ws) e
      ∙ first_three (too_short ws (length a)) (accepted (problem ws) a)

  pub own : (k : ℕ) → problem_refusal ws ≡ suc k → Own k
  unfolding problem_refusal problem_tests
  own = first-own (problem_tests most_rows ws) (
    λ k e. inl (omega arith),
    (
      λ k e. inl (omega arith),
      (
        λ k e. inl (omega arith),
        (
          λ k e. inl (omega arith),
          (
            λ k e. inl (omega arith),
            (
              λ k e. inl (omega arith),
              (λ k e. inr (omega arith), tt),
            ),
          ),
        ),
      ),
    ),
  )

  checks : Checks ws a (checked ws a)
  checks = go (problem_refusal ws) refl
    where
      judged : problem_refusal ws ≡ 0 → (b c : Bool) → too_short ws (length a) ≡ b → accepted (problem ws) a ≡ c →
          Checks ws a (cond b 7 (cond c 8 9))
      judged e true c p q = short e ((room-tells ws (length a)).if-true p)
      judged e false true p q = right e ((room-tells ws (length a)).if-false p) ((shown-tells (problem ws) a).if-true q)
      judged e false false p q = wrong e ((room-tells ws (length a)).if-false p)
          ((shown-tells (problem ws) a).if-false q)

      go : (r : ℕ) → problem_refusal ws ≡ r → Checks ws a (checked ws a)
      go zero e = rw (checked-by-answer e) (judged e (too_short ws (length a)) (accepted (problem ws) a) refl refl)
      go (suc k) e = rw (checked-by-problem k e) (refused k (own k e) e)

  -- two numbers with their facts are the same number
  one_number : {r t : ℕ} → Checks ws a r → Checks ws a t → r ≡ t
  one_number (refused k h e) (refused j l f) = omega arith
  one_number (refused k h e) (short f m) = omega arith
  one_number (refused k h e) (right f m s) = omega arith
  one_number (refused k h e) (wrong f m s) = omega arith
  one_number (short e l) (refused j h f) = omega arith
  one_number (short e l) (short f m) = refl
  one_number (short e l) (right f m s) = omega arith
  one_number (short e l) (wrong f m s) = omega arith
  one_number (right e l s) (refused j h f) = omega arith
  one_number (right e l s) (short f m) = omega arith
  one_number (right e l s) (right f m t) = refl
  one_number (right e l s) (wrong f m t) = absurd (t s)
  one_number (wrong e l s) (refused j h f) = omega arith
  one_number (wrong e l s) (short f m) = omega arith
  one_number (wrong e l s) (right f m t) = absurd (s t)
  one_number (wrong e l s) (wrong f m t) = refl

  checks-only : (r : ℕ) → Checks ws a r → checked ws a ≡ r
  checks-only r c = one_number checks c

  -- ---- each number exactly

  pub checked-accepted : (checked ws a ≡ 8)
      ↔ ((problem_refusal ws ≡ 0) × (answer_length ws ≤ length a) × Shown (problem ws) a)
  checked-accepted = (λ e. out checks e, λ h. checks-only 8 (right h.0 h.1 h.2))
    where
      out : {r : ℕ} → Checks ws a r → r ≡ 8 → (problem_refusal ws ≡ 0) × (answer_length ws ≤ length a)
          × Shown (problem ws) a
      out (refused j l f) e = absurd (own-clash l (omega arith) (omega arith))
      out (short f l) e = let z : ⊥ = omega arith in absurd z
      out (right f l s) e = (f, l, s)
      out (wrong f l s) e = let z : ⊥ = omega arith in absurd z

  -- what may come out is one number
  pub check-only : (r t : ℕ) → r ≡ checked ws a → t ≡ checked ws a → r ≡ t
  check-only r t e f = e ∙ sym f

-- ---- words that never matter

shown-same : (P : Problem Limit) (a b : List ℤ) → ((i : ℕ) → i < 3 + 2 * vars P → i ≢ 1 → word a i ≡ word b i) →
    Shown P a → Shown P b
shown-same P a b same = go
  where
    at : (i : ℕ) → i < 3 + 2 * vars P → 2 ≤ i → word a i ≡ word b i
    at i h k = same i h (λ e. let z : ⊥ = omega arith in z)

    verdict : verdict_of b ≡ verdict_of a
    verdict = sym (same 0 (omega arith) (λ e. let z : ⊥ = omega arith in z))

    denominator : denominator_of a ≡ denominator_of b
    denominator = at 2 (omega arith) (omega arith)

    lowers : (v : ℕ) → v < vars P → lower_part a v ≡ lower_part b v
    lowers v h = at (3 + v) (omega arith) (omega arith)

    uppers : (v : ℕ) → v < vars P → upper_part (vars P) a v ≡ upper_part (vars P) b v
    uppers v h = at (3 + vars P + v) (omega arith) (omega arith)

    go : Shown P a → Shown P b
    go (inl (e, S)) = inl (verdict ∙ e, numerators-same P denominator lowers uppers S)
    go (inr (e, S)) = inr (verdict ∙ e, multipliers-same P denominator lowers uppers S)

-- word 1 and the words past 3 + 2N
pub checked-same : (ws a b : List ℤ) → ((i : ℕ) → i < answer_length ws → i ≢ 1 → word a i ≡ word b i) →
    answer_length ws ≤ length a → answer_length ws ≤ length b → checked ws a ≡ checked ws b
unfolding problem
checked-same ws a b same h k = sym (checks-only ws b (checked ws a) (moved (checks ws a)))
  where
    moved : {r : ℕ} → Checks ws a r → Checks ws b r
    moved (refused j l e) = refused j l e
    moved (short e l) = let z : ⊥ = omega arith in absurd z
    moved (right e l s) = right e k (shown-same (problem ws) a b same s)
    moved (wrong e l s) = wrong e k (λ t. s (shown-same (problem ws) b a (λ i h n. sym (same i h n)) t))
