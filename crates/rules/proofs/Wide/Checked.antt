-- The number of the checker of wide evidence, exactly: 1 to 6 and 10 by the problem, 7 for an answer too short, 8
-- accepted, 9 not; nothing else.
--   wide-exactly                   line by line: k where no earlier line of `wide_table` applies, and k's does
--   wide-by-problem, wide-by-answer     the number from the problem's refusal, and else from the answer's two tests
--   wide-accepted                  8 exactly when its facts hold
--   wide-same                      word 1 and the words past 6 + 8N never matter
--   wide-only                      what is allowed to come out is one number
use mathlib.Core.Bool.{Bool, cond, false, true}
use mathlib.Core.List.{List, [], ◌++◌, ◌∷◌}
use mathlib.Core.Logic.{inl, inr, ◌↔◌, ◌≢◌}
use mathlib.Core.Path.{ap, refl, sym, ◌∙◌, ◌≡◌}
use Prim.Native.Nat.{suc, zero, ℕ, ◌*◌, ◌+◌, ◌<◌, ◌≤◌}
use native.Mathlib.Omega.{arith}
use lib.IntN.{pos, ℤ}
use lib.ListN.{length}
use Rattle.whole.proofs.Bools.{and-of, and-true, same_tests, true-false}
use Rattle.whole.proofs.Lists.Below.{all-each, all_of}
use Rattle.whole.proofs.Tells.{tells-eq_z, tells-lt}
use Rattle.whole.specs.Numbers.{eq_z}
use Rattle.whole.specs.Tells.{Tells}
use Rattle.rules.proofs.Evidence.Checked.{first_three, own, own-clash}
use Rattle.rules.proofs.Evidence.Same.{refutation-same, solution-same}
use Rattle.rules.proofs.Evidence.Shows.{right-can, right-cannot}
use Rattle.rules.proofs.Refusal.First.{Tested, first-exactly, first-kept, first-passed, no_test, tested}
use Rattle.rules.proofs.Refusal.First.{tested-then}
use Rattle.rules.proofs.Refusal.Exactly.{numbered, problem-tested}
use Rattle.rules.proofs.Wide.Numbers.{fits-exactly}
use Rattle.rules.specs.Evidence.{right_can, right_cannot, verdict_of}
use Rattle.rules.specs.Limit.{Limit}
use Rattle.rules.specs.Facts.Refusal.{First}
use Rattle.rules.specs.Facts.Wide.{Formed, RightWide, ShownWide, wide_table}
use Rattle.rules.specs.Problem.{Problem, problem, vars, word}
use Rattle.rules.specs.Refusal.{problem_refusal, problem_tests}
use Rattle.rules.specs.Sizes.{most_rows}
use Rattle.rules.specs.Wide.{accepted_wide, checked_wide, limb_at, number_fits, numbers_of, short_wide, shows_wide}
use Rattle.rules.specs.Wide.{well_formed, wide_at, wide_denominator, wide_length, wide_lower, wide_upper}

-- ---- the test of the answer says what the plain facts do

module _ (P : Problem Limit) (a : List ℤ) where
  abbrev d : ℤ
  d = wide_denominator a

  abbrev x : ℕ → ℤ
  x = wide_lower a

  abbrev y : ℕ → ℤ
  y = wide_upper (vars P) a

  wide-facts : accepted_wide P a ≡ true → ShownWide P a
  unfolding accepted_wide well_formed shows_wide
  wide-facts e = let (f, s) = and-true (well_formed (vars P) a) (shows_wide P a) e in record {
    formed = λ slot h. (fits-exactly a slot).0 (all-each (numbers_of (vars P)) (number_fits a) f slot h);
    shown = go (eq_z (verdict_of a) (pos 1)) refl (eq_z (verdict_of a) (pos 2)) refl s;
  }
    where
      go : (b : Bool) → eq_z (verdict_of a) (pos 1) ≡ b → (c : Bool) → eq_z (verdict_of a) (pos 2) ≡ c →
          cond b (right_can P d x y) (cond c (right_cannot P d x y) false) ≡ true → RightWide P a
      go true p c q e = inl ((tells-eq_z (verdict_of a) (pos 1)).if-true p, (right-can P d x y).0 e)
      go false p true q e = inr ((tells-eq_z (verdict_of a) (pos 2)).if-true q, (right-cannot P d x y).0 e)
      go false p false q e = true-false e refl

  wide_test : ShownWide P a → accepted_wide P a ≡ true
  unfolding accepted_wide well_formed shows_wide
  wide_test S = and-of
      (all_of (numbers_of (vars P)) (number_fits a) (λ slot h. (fits-exactly a slot).1 (S.formed slot h)))
      (go S.shown)
    where
      go : RightWide P a → shows_wide P a ≡ true
      go (inl (e, R)) = rw e ((right-can P d x y).1 R)
      go (inr (e, R)) = rw e ((right-cannot P d x y).1 R)

  wide-tells : Tells (accepted_wide P a) (ShownWide P a) (¬ ShownWide P a)
  wide-tells = record { if-true = wide-facts; if-false = λ e S. true-false (wide_test S) e; not-both = λ S n. n S }

-- ---- the table

wide-tested : (ws a : List ℤ) →
    Tested (problem_tests most_rows ws
    ++ ((short_wide ws (length a), 7) ∷ (accepted_wide (problem ws) a, 8) ∷ (true, 9) ∷ [])) (wide_table ws a)
unfolding short_wide
wide-tested ws a = tested-then (problem-tested most_rows ws)
    (tested (tells-lt (length a) (wide_length ws)) (tested (wide-tells (problem ws) a) (tested always no_test)))
  where
    always : Tells true (Unit {0}) ⊥
    always = record { if-true = λ e. tt; if-false = λ e. true-false refl e; not-both = λ y n. n }

pub wide-exactly : (ws a : List ℤ) (k : ℕ) → (checked_wide ws a ≡ k) ↔ First (wide_table ws a) k
unfolding checked_wide
wide-exactly ws a k = first-exactly (wide-tested ws a) k

-- ---- from the problem's refusal, and from the answer

module _ (ws a : List ℤ) where
  pub wide-by-problem : (k : ℕ) → problem_refusal ws ≡ suc k → checked_wide ws a ≡ suc k
  unfolding checked_wide problem_refusal
  wide-by-problem k e =
      first-kept (problem_tests most_rows ws)
      ((short_wide ws (length a), 7) ∷ (accepted_wide (problem ws) a, 8) ∷ (true, 9) ∷ []) k e

  pub wide-by-answer : problem_refusal ws ≡ 0 →
      checked_wide ws a ≡ cond (short_wide ws (length a)) 7 (cond (accepted_wide (problem ws) a) 8 9)
  unfolding checked_wide problem_refusal
  wide-by-answer e =
      first-passed 10 (problem_tests most_rows ws)
      ((short_wide ws (length a), 7) ∷ (accepted_wide (problem ws) a, 8) ∷ (true, 9) ∷ []) (numbered most_rows ws) e
      ∙ first_three (short_wide ws (length a)) (accepted_wide (problem ws) a)

  -- the number of an answer that is long enough
  pub wide-judged : problem_refusal ws ≡ 0 → wide_length ws ≤ length a →
      checked_wide ws a ≡ cond (accepted_wide (problem ws) a) 8 9
  unfolding short_wide
  wide-judged e l = wide-by-answer e ∙ ap (λ b. cond b 7 (cond (accepted_wide (problem ws) a) 8 9))
      (not_short (short_wide ws (length a)) refl)
    where
      not_short : (b : Bool) → short_wide ws (length a) ≡ b → short_wide ws (length a) ≡ false
      not_short true q = let h = (tells-lt (length a) (wide_length ws)).if-true q in
          let z : ⊥ = omega arith in absurd z
      not_short false q = q

  pub wide-accepted : (checked_wide ws a ≡ 8)
      ↔ ((problem_refusal ws ≡ 0) × (wide_length ws ≤ length a) × ShownWide (problem ws) a)
  unfolding short_wide
  wide-accepted = (
    λ e. out (problem_refusal ws) refl e,
    λ h. wide-judged h.0 h.1 ∙ ap (λ b. cond b 8 9) (wide_test (problem ws) a h.2),
  )
    where
      told : problem_refusal ws ≡ 0 → (b c : Bool) → short_wide ws (length a) ≡ b → accepted_wide (problem ws) a ≡ c →
          ◌≡◌ {A = ℕ} (cond b 7 (cond c 8 9)) 8 →
          (problem_refusal ws ≡ 0) × (wide_length ws ≤ length a) × ShownWide (problem ws) a
      told r true c p q e = let z : ⊥ = omega arith in absurd z
      told r false true p q e = (r, (tells-lt (length a) (wide_length ws)).if-false p, wide-facts (problem ws) a q)
      told r false false p q e = let z : ⊥ = omega arith in absurd z

      out : (r : ℕ) → problem_refusal ws ≡ r → checked_wide ws a ≡ 8 →
          (problem_refusal ws ≡ 0) × (wide_length ws ≤ length a) × ShownWide (problem ws) a
      out zero r e = told r (short_wide ws (length a)) (accepted_wide (problem ws) a) refl refl
          (sym (wide-by-answer r) ∙ e)
      out (suc k) r e = absurd (own-clash (own ws a k r)
          (let f = wide-by-problem k r in omega arith) (let f = wide-by-problem k r in omega arith))

  -- what may come out is one number
  pub wide-only : (r t : ℕ) → r ≡ checked_wide ws a → t ≡ checked_wide ws a → r ≡ t
  wide-only r t e f = e ∙ sym f

-- ---- words that never matter

module _ (P : Problem Limit) (a b : List ℤ) (same : (i : ℕ) → i < 6 + 8 * vars P → i ≢ 1 → word a i ≡ word b i) where
  limb-same : (slot i : ℕ) → slot < numbers_of (vars P) → i < 4 → limb_at a slot i ≡ limb_at b slot i
  limb-same slot i h k = same (2 + 4 * slot + i) (omega arith) (λ e. let z : ⊥ = omega arith in z)

  number_same : (slot : ℕ) → slot < numbers_of (vars P) → wide_at a slot ≡ wide_at b slot
  number_same slot h = rw (
    limb-same slot 0 h (omega arith),
    limb-same slot 1 h (omega arith),
    limb-same slot 2 h (omega arith),
    limb-same slot 3 h (omega arith),
  ) refl

  formed-same : (slot : ℕ) → slot < numbers_of (vars P) → Formed a slot → Formed b slot
  formed-same slot h F = record {
    limb-0 = rw (← limb-same slot 0 h (omega arith)) F.limb-0;
    limb-1 = rw (← limb-same slot 1 h (omega arith)) F.limb-1;
    limb-2 = rw (← limb-same slot 2 h (omega arith)) F.limb-2;
    head = rw (← limb-same slot 3 h (omega arith)) F.head;
  }

  shown-wide-same : ShownWide P a → ShownWide P b
  shown-wide-same S = record { formed = λ slot h. formed-same slot h (S.formed slot h); shown = go S.shown }
    where
      verdict : verdict_of b ≡ verdict_of a
      verdict = sym (same 0 (omega arith) (λ e. let z : ⊥ = omega arith in z))

      go : RightWide P a → RightWide P b
      go (inl (e, R)) = inl (
        verdict ∙ e,
        solution-same P (number_same 0 (omega arith)) (λ v h. number_same (1 + v) (omega arith))
            (λ v h. number_same (1 + vars P + v) (omega arith)) R,
      )
      go (inr (e, R)) = inr (
        verdict ∙ e,
        refutation-same P (number_same 0 (omega arith)) (λ v h. number_same (1 + v) (omega arith))
            (λ v h. number_same (1 + vars P + v) (omega arith)) R,
      )

-- word 1 and the words past 6 + 8N
pub wide-same : (ws a b : List ℤ) → ((i : ℕ) → i < wide_length ws → i ≢ 1 → word a i ≡ word b i) →
    wide_length ws ≤ length a → wide_length ws ≤ length b → checked_wide ws a ≡ checked_wide ws b
unfolding problem
wide-same ws a b same h k = go (problem_refusal ws) refl
  where
    go : (r : ℕ) → problem_refusal ws ≡ r → checked_wide ws a ≡ checked_wide ws b
    go (suc r) e = wide-by-problem ws a r e ∙ sym (wide-by-problem ws b r e)
    go zero e = wide-judged ws a e h
        ∙ ap (λ c. cond c 8 9) (same_tests (accepted_wide (problem ws) a) (accepted_wide (problem ws) b)
        (λ q. wide_test (problem ws) b (shown-wide-same (problem ws) a b same (wide-facts (problem ws) a q)))
        (λ q. wide_test (problem ws) a (shown-wide-same (problem ws) b a (λ i l n. sym (same i l n))
        (wide-facts (problem ws) b q))))
        ∙ sym (wide-judged ws b e k)
