-- The number of the checker of evidence about time rows, exactly: 11 to 17 by the rows and the answer's length, 8
-- accepted, 9 not; nothing else.
--   check-times-exactly     line by line: k where no earlier line of `times_check_table` applies, and k's does
--   times-by-refusal        the refusal, where there is one
--   times-judged            else 8 or 9, by the test
--   times-accepted          8 exactly when its facts hold
--   times-same              words past 2 + 2n never matter
--   check-times-only        what is allowed to come out is one number
use mathlib.Core.Bool.{Bool, cond, false, not, true}
use mathlib.Core.List.{List, [], ◌∷◌}
use mathlib.Core.Logic.{inl, inr, ◌↔◌, ◌⊎◌}
use mathlib.Core.Path.{ap, ap₂, refl, subst, subst₂, sym, ◌∙◌, ◌≡◌}
use Prim.Native.Nat.{suc, zero, ℕ, ◌*◌, ◌+◌, ◌<◌, ◌≤◌}
use native.Mathlib.Omega.{arith}
use lib.IntN.{nat_abs, pos, ℤ, ◌-ℤ◌}
use lib.ListN.{length}
use lib.Signed.{◌<ℤ◌, ◌≤ℤ◌}
use Rattle.whole.proofs.Bools.{not-true, same_tests, true-false}
use Rattle.whole.proofs.Lists.Tables.{table_same}
use Rattle.whole.proofs.Numbers.Tests.{under-size}
use Rattle.whole.proofs.Tells.{tells_all, tells-and, tells-eq_z, tells-lt, tells-lt_z, tells-not, tells-or}
use Rattle.whole.proofs.Tells.{tells-outside}
use Rattle.whole.proofs.Tells.{tells-false, tells-true}
use Rattle.whole.specs.Numbers.{eq_z}
use Rattle.whole.specs.Tables.{table}
use Rattle.whole.specs.Tells.{Tells}
use Rattle.whole.specs.Values.{Le, pairs}
use Rattle.rules.proofs.Refusal.First.{Upto, first-exactly, first-kept, first-passed, no_test, tested}
use Rattle.rules.proofs.Refusal.First.{tested-then}
use Rattle.rules.proofs.Times.Refused.{accepted-ends, times-accepted-exactly, times-tested, vertices-some}
use Rattle.rules.proofs.Times.Tested.{bad-cycle-exactly}
use Rattle.rules.specs.Evidence.{verdict_of}
use Rattle.rules.specs.Facts.Refusal.{First}
use Rattle.rules.specs.Problem.{m_of, n_of, word}
use Rattle.rules.specs.Refusal.{first, too_few}
use Rattle.rules.specs.Times.Answer.{time_in}
use Rattle.rules.specs.Times.Cycle.{BadCycle, is_bad_cycle}
use Rattle.rules.specs.Times.Words.{AcceptedTimes, bad_time_size, bad_word_count, no_room, row_tests, time_edges}
use Rattle.rules.specs.Times.Words.{time_refusal, time_tests, times_length}
use Rattle.rules.specs.Times.Check.{CycleShown, ShownTimes, TimesShown, accepted_answer, apart_by, checked_times}
use Rattle.rules.specs.Times.Check.{cycle_length, cycle_shown, row_met, row_named, rows_named, times_check_table}
use Rattle.rules.specs.Times.Check.{times_shown}

-- ---- the tests before it

-- every number is at least 11
abbrev From : List (Bool × ℕ) → Type 0
From [] = Unit {0}
From (t ∷ ts) = (11 ≤ t.1) × From ts

first-from : (ts : List (Bool × ℕ)) → From ts → (k : ℕ) → first ts ≡ suc k → 10 ≤ k
unfolding first
first-from [] h k e = let z : ⊥ = omega arith in absurd z
first-from ((true, j) ∷ ts) (l, h) k e = omega arith
first-from ((false, j) ∷ ts) (l, h) k e = first-from ts h k e

-- ---- the tests say what the plain facts do

module _ (ws a : List ℤ) where
  met-tells : (i : ℕ) → Tells (row_met ws a i) (Le pairs (apart_by ws a i) ((time_edges ws).size i))
      (pairs.less ((time_edges ws).size i) (apart_by ws a i) ≡ true)
  unfolding row_met
  met-tells i = record {
    if-true = λ e. not-true _ e;
    if-false = λ e. not-not _ e;
    not-both = λ f e. true-false e f;
  }
    where
      not-not : (b : Bool) → not b ≡ false → b ≡ true
      not-not true e = refl
      not-not false e = true-false refl e

  times-exactly : (times_shown ws a ≡ true) ↔ TimesShown ws a
  unfolding times_shown
  times-exactly =
      let t = tells-and (tells-eq_z (word a 1) (pos (n_of ws)))
      (tells_all (m_of ws) (row_met ws a) (λ i h. met-tells i)) in (
        λ e. let f = t.if-true e in record { count = f.0; met = f.1 },
        λ S. tells-true t (S.count, S.met),
      )

  bad-tells : Tells (is_bad_cycle pairs (time_edges ws) (rows_named a)) (BadCycle pairs (time_edges ws) (rows_named a))
      (¬ BadCycle pairs (time_edges ws) (rows_named a))
  bad-tells = let b = bad-cycle-exactly pairs (time_edges ws) (rows_named a) in record {
    if-true = b.0;
    if-false = λ e B. true-false (b.1 B) e;
    not-both = λ B n. n B;
  }

  cycle-exactly : (cycle_shown ws a ≡ true) ↔ CycleShown ws a
  unfolding cycle_shown
  cycle-exactly =
      let t = tells-and (tells-and (tells-and (tells-not (tells-outside 1 (n_of ws) (word a 1)))
      (tells_all (cycle_length a) _ (λ k h. tells-and (tells-not (tells-lt_z (word a (2 + k)) (pos 0)))
      (tells-lt_z (word a (2 + k)) (pos (m_of ws)))))) bad-tells)
      (tells_all (2 * n_of ws) _
      (λ k h. tells-or (tells-lt k (cycle_length a)) (tells-eq_z (word a (2 + k)) (pos 0)))) in (
        λ e. let f = t.if-true e in record {
          some = f.0.0.0.0;
          few = f.0.0.0.1;
          rows = f.0.0.1;
          bad = f.0.1;
          zeros = f.1;
        },
        λ S. tells-true t ((((S.some, S.few), S.rows), S.bad), S.zeros),
      )

  shown-facts : accepted_answer ws a ≡ true → ShownTimes ws a
  unfolding accepted_answer
  shown-facts e = go (eq_z (verdict_of a) (pos 1)) refl (eq_z (verdict_of a) (pos 2)) refl e
    where
      go : (b : Bool) → eq_z (verdict_of a) (pos 1) ≡ b → (c : Bool) → eq_z (verdict_of a) (pos 2) ≡ c →
          cond b (times_shown ws a) (cond c (cycle_shown ws a) false) ≡ true → ShownTimes ws a
      go true p c q e = inl ((tells-eq_z (verdict_of a) (pos 1)).if-true p, times-exactly.0 e)
      go false p true q e = inr ((tells-eq_z (verdict_of a) (pos 2)).if-true q, cycle-exactly.0 e)
      go false p false q e = true-false e refl

  shown-test : ShownTimes ws a → accepted_answer ws a ≡ true
  unfolding accepted_answer
  shown-test (inl (e, S)) = rw e (times-exactly.1 S)
  shown-test (inr (e, S)) = rw e (cycle-exactly.1 S)

  shown-tells : Tells (accepted_answer ws a) (ShownTimes ws a) (¬ ShownTimes ws a)
  shown-tells = record {
    if-true = shown-facts;
    if-false = λ e S. true-false (shown-test S) e;
    not-both = λ S n. n S;
  }

  -- ---- the number

  numbered : Upto 17 (time_tests ws (length a))
  unfolding time_tests
  numbered = omega arith

  pub check-times-exactly : (k : ℕ) → (checked_times ws a ≡ k) ↔ First (times_check_table ws a) k
  unfolding checked_times
  check-times-exactly k =
      first-exactly (tested-then (times-tested ws (length a)) (tested shown-tells (tested always no_test))) k
    where
      always : Tells true (Unit {0}) ⊥
      always = record { if-true = λ e. tt; if-false = λ e. true-false refl e; not-both = λ y n. n }

  last-two : (b : Bool) → first ((b, 8) ∷ (true, 9) ∷ []) ≡ cond b 8 9
  unfolding first
  last-two true = refl
  last-two false = refl

  pub times-by-refusal : (k : ℕ) → time_refusal ws (length a) ≡ suc k → checked_times ws a ≡ suc k
  unfolding checked_times time_refusal
  times-by-refusal k e = first-kept (time_tests ws (length a)) ((accepted_answer ws a, 8) ∷ (true, 9) ∷ []) k e

  pub times-judged : time_refusal ws (length a) ≡ 0 → checked_times ws a ≡ cond (accepted_answer ws a) 8 9
  unfolding checked_times time_refusal
  times-judged e =
      first-passed 17 (time_tests ws (length a)) ((accepted_answer ws a, 8) ∷ (true, 9) ∷ []) numbered e
      ∙ last-two (accepted_answer ws a)

  pub times-accepted : (checked_times ws a ≡ 8) ↔ (AcceptedTimes ws (length a) × ShownTimes ws a)
  unfolding time_refusal time_tests
  times-accepted = (
    λ e. out (time_refusal ws (length a)) refl e,
    λ h. times-judged ((times-accepted-exactly ws (length a)).1 h.0) ∙ ap (λ b. cond b 8 9) (shown-test h.1),
  )
    where
      told : (b : Bool) → accepted_answer ws a ≡ b → ◌≡◌ {A = ℕ} (cond b 8 9) 8 → ShownTimes ws a
      told true q e = shown-facts q
      told false q e = let z : ⊥ = omega arith in absurd z

      out : (r : ℕ) → time_refusal ws (length a) ≡ r → checked_times ws a ≡ 8 →
          AcceptedTimes ws (length a) × ShownTimes ws a
      out zero r e =
          ((times-accepted-exactly ws (length a)).0 r, told (accepted_answer ws a) refl (sym (times-judged r) ∙ e))
      out (suc k) r e = let l : 10 ≤ k = first-from (time_tests ws (length a)) (omega arith) k r in
          let f : checked_times ws a ≡ suc k = times-by-refusal k r in let z : ⊥ = omega arith in absurd z

  -- what may come out is one number
  pub check-times-only : (r t : ℕ) → r ≡ checked_times ws a → t ≡ checked_times ws a → r ≡ t
  check-times-only r t e f = e ∙ sym f

-- ---- words that never matter

module _ (ws : List ℤ) {room : ℕ} (A : AcceptedTimes ws room) (a b : List ℤ)
    (same : (i : ℕ) → i < times_length ws → word a i ≡ word b i) where
  time-same : (v : ℕ) → v < n_of ws → time_in ws a v ≡ time_in ws b v
  time-same v h = ap₂ (λ x y. (x, y)) (same (2 + v) (omega arith)) (same (2 + n_of ws + v) (omega arith))

  apart-same : (i : ℕ) → i < m_of ws → apart_by ws a i ≡ apart_by ws b i
  apart-same i h = ap₂ (λ x y. (x.0 -ℤ y.0, x.1 -ℤ y.1))
      (time-same ((time_edges ws).tail i) ((accepted-ends A).tail-in i h))
      (time-same ((time_edges ws).head i) ((accepted-ends A).head_in i h))

  verdict-same : verdict_of b ≡ verdict_of a
  verdict-same = sym (same 0 (omega arith))

  count_same : word a 1 ≡ word b 1
  count_same = same 1 (omega (arith, vertices-some A))

  module _ (C : CycleShown ws a) where
    few : cycle_length a ≤ n_of ws
    few = under-size (n_of ws) 1 (word a 1) C.some C.few

    row_same : (k : ℕ) → k < cycle_length a → word a (2 + k) ≡ word b (2 + k)
    row_same k h = same (2 + k) (omega (arith, few))

    rows_same : rows_named a ≡ rows_named b
    rows_same = table_same (cycle_length a) (row_named a) (row_named b) (λ k h. ap nat_abs (row_same k h))
        ∙ ap (λ k. table k (row_named b)) (ap nat_abs count_same)

    cycle-same : CycleShown ws b
    cycle-same = record {
      some = subst (λ z. pos 1 ≤ℤ z) count_same C.some;
      few = subst (λ z. z ≤ℤ pos (n_of ws)) count_same C.few;
      rows = λ k h. let l : k < cycle_length a = subst (λ z. k < nat_abs z) (sym count_same) h in
          subst (λ z. (pos 0 ≤ℤ z) × (z <ℤ pos (m_of ws))) (row_same k l) (C.rows k l);
      bad = subst (BadCycle pairs (time_edges ws)) rows_same C.bad;
      zeros = λ k h. subst₂ (λ n z. (k < nat_abs n) ⊎ (z ≡ pos 0)) count_same (same (2 + k) (omega arith))
          (C.zeros k h);
    }

  shown-same : ShownTimes ws a → ShownTimes ws b
  shown-same (inl (e, S)) = inl (
    verdict-same ∙ e,
    record {
      count = sym count_same ∙ S.count;
      met = λ i h. subst (λ z. Le pairs z ((time_edges ws).size i)) (apart-same i h) (S.met i h);
    },
  )
  shown-same (inr (e, C)) = inr (verdict-same ∙ e, cycle-same C)

-- the words past 2 + 2n
pub times-same : (ws a b : List ℤ) → ((i : ℕ) → i < times_length ws → word a i ≡ word b i) →
    times_length ws ≤ length a → times_length ws ≤ length b → checked_times ws a ≡ checked_times ws b
unfolding no_room time_refusal time_tests
times-same ws a b same h k = go (time_refusal ws (length a)) refl
  where
    not_short : (c : List ℤ) → times_length ws ≤ length c → no_room ws (length c) ≡ false
    not_short c l = tells-false (tells-lt (length c) (times_length ws)) l

    refusal-same : time_refusal ws (length a) ≡ time_refusal ws (length b)
    refusal-same = ap (λ c. first ((too_few ws, 11) ∷ (bad_time_size ws, 12) ∷ (bad_word_count ws, 13)
        ∷ row_tests ws (m_of ws) ((c, 17) ∷ []))) (not_short a h ∙ sym (not_short b k))

    go : (r : ℕ) → time_refusal ws (length a) ≡ r → checked_times ws a ≡ checked_times ws b
    go (suc r) e = times-by-refusal ws a r e ∙ sym (times-by-refusal ws b r (sym refusal-same ∙ e))
    go zero e = let A = (times-accepted-exactly ws (length a)).0 e in times-judged ws a e
        ∙ ap (λ c. cond c 8 9) (same_tests (accepted_answer ws a) (accepted_answer ws b)
        (λ q. shown-test ws b (shown-same ws A a b same (shown-facts ws a q)))
        (λ q. shown-test ws a (shown-same ws A b a (λ i l. sym (same i l)) (shown-facts ws b q))))
        ∙ sym (times-judged ws b (sym refusal-same ∙ e))
