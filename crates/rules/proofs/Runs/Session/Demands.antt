-- The demands of each check of a session handed back, of actual fractions and over words.
--   values-modest            every value of a nonbasic variable: a limit's pair, or 0
--   eight-checked            and gets 8 for the words with the others taken out
--   can-live                 verdict 1: whatever small enough fraction is put for the small amount, its fractions meet
--                            the limits that are on, a strict one strictly
--   cannot-live, cannot-fractions-live    verdict 2: no fractions meet them, nor over denominators of their own
--   never-both-live          the two do not stand together
--   nothing-idle-live, named-clash-live    each limit that a cannot names is needed, and they are enough
-- The laws whose names end in -on say the same of any fair session whose problem is given with its marks.
use mathlib.Core.List.{List, [], append-nil, ◌++◌}
use mathlib.Core.Logic.{inl, inr, ◌≢◌}
use mathlib.Core.Option.{some}
use mathlib.Core.Path.{ap, subst, sym, ◌∙◌, ◌≡◌}
use Prim.Native.Nat.{ℕ, ◌<◌, ◌≤◌}
use native.Mathlib.Omega.{arith}
use lib.IntN.{pos, ℤ}
use Rattle.whole.proofs.Values.Beside.{pairs-laws}
use Rattle.whole.specs.Numbers.{Within}
use Rattle.whole.specs.Values.{pairs}
use Rattle.rules.proofs.Evidence.Means.{one-two}
use Rattle.rules.proofs.Evidence.Own.Accepted.{LimitSized, answer-judged, high-modest, low-modest}
use Rattle.rules.proofs.Evidence.Own.Words.{Judged}
use Rattle.rules.proofs.Evidence.Satisfied.{pairs-satisfied, satisfied, unmet-none}
use Rattle.rules.proofs.Evidence.Separate.{unsatisfied-fractions}
use Rattle.rules.proofs.Idle.Enough.{named-clash-shown}
use Rattle.rules.proofs.Idle.Kept.{keeping-inner, kept-some}
use Rattle.rules.proofs.Idle.Needed.{no-blanks, nothing-idle-from}
use Rattle.rules.proofs.Refusal.Accepted.{coefficient-within, lower-within, n-few, upper-within}
use Rattle.rules.proofs.Runs.Session.Checked.{can-checked, cannot-checked}
use Rattle.rules.proofs.Runs.Session.Fair.{fair-ready, handed-fair}
use Rattle.rules.proofs.Runs.Session.Handed.{LimitsAre, handed-given, values-handed}
use Rattle.rules.proofs.Runs.Session.Live.{live-checked}
use Rattle.rules.specs.Answer.{answer_from}
use Rattle.rules.specs.Evidence.{Satisfiable, Unmet, Unsatisfied, checked, denominator_of, lower_part}
use Rattle.rules.specs.Evidence.{Meets, pair_part, upper_part, verdict_of}
use Rattle.rules.specs.Facts.Answer.{Decided}
use Rattle.rules.specs.Facts.Evidence.{MetSmall, Shown}
use Rattle.rules.specs.Facts.Fractions.{Fraction, FractionsMeet}
use Rattle.rules.specs.Facts.Runs.Session.{Fair, live_problem}
use Rattle.rules.specs.Facts.State.{Kept, Ready}
use Rattle.rules.specs.Keeping.Idle.{NoBlank, multiplier, named, without}
use Rattle.rules.specs.Keeping.Limits.{keeping, limit_of}
use Rattle.rules.specs.Keeping.Words.{live_words}
use Rattle.rules.specs.Limit.{Limit}
use Rattle.rules.specs.Problem.{Problem, inner, problem, vars}
use Rattle.rules.specs.Refusal.{Accepted}
use Rattle.rules.specs.Runs.Session.{Handed, Session, check_answer, is_on, live_of}
use Rattle.rules.specs.Sizes.{largest_coefficient, largest_limit, most_columns, most_rows}
use Rattle.rules.specs.Step.{Side, above, below, seat}

-- ---- of a session whose problem is given with its marks

module _ (P : Problem Limit) (A : Session (ℤ × ℤ)) (F : Fair pairs A) (given : A.given ≡ inner P) where
  -- the limits that are on, with their marks
  abbrev Q : Problem Limit
  Q = keeping (is_on A) P

  live-is : live_of A ≡ inner Q
  live-is = ap (keeping (is_on A)) given ∙ sym (keeping-inner (is_on A) P)

  answer-is : check_answer A ≡ answer_from (inner Q) A.state
  unfolding check_answer
  answer-is = ap (λ R. answer_from R A.state) live-is

  ready : Ready pairs (inner Q) A.state
  ready = subst (λ R. Ready pairs R A.state) live-is (fair-ready pairs A F)

  cannot-satisfied-on : verdict_of (check_answer A) ≡ pos 2 → Unsatisfied Q
  cannot-satisfied-on e = unmet-none Q (subst (Unmet pairs) live-is (cannot-checked A F e))

  satisfiable-on : verdict_of (check_answer A) ≡ pos 1 → Satisfiable Q
  satisfiable-on e = pairs-satisfied Q (denominator_of (check_answer A)) (pair_part (vars A.given) (check_answer A))
      (subst (λ R. Meets pairs R (denominator_of (check_answer A)) (pair_part (vars A.given) (check_answer A))) live-is
      (can-checked A F e))

  nothing-idle-on : NoBlank P → verdict_of (check_answer A) ≡ pos 2 → (σ : Side) (w : ℕ) → w < vars P →
      multiplier (vars P) (check_answer A) σ w ≢ pos 0 → Satisfiable (without σ w (named (check_answer A) Q))
  nothing-idle-on B = subst (λ a. verdict_of a ≡ pos 2 → (σ : Side) (w : ℕ) → w < vars P →
      multiplier (vars P) a σ w ≢ pos 0 → Satisfiable (without σ w (named a Q))) (sym answer-is)
      (nothing-idle-from Q A.state ready B)

  -- .. where every limit handed in, and so every value, is in range
  module _ (few : P.n ≤ most_columns)
      (within : (σ : Side) (v : ℕ) (l : Limit) → v < vars P → limit_of P σ v ≡ some l → Within l.plain largest_limit)
      (values : (v : ℕ) (x : ℤ × ℤ) → seat A.state v ≡ some x → LimitSized x) where
    judged-on : (rest : List ℤ) → Decided (check_answer A) → Judged Q (check_answer A ++ rest)
    judged-on rest = subst (λ a. Decided a → Judged Q (a ++ rest)) (sym answer-is)
        (answer-judged Q A.state rest few
        (λ v l h e. within below v l h (kept-some (is_on A below v) (P.lower v) l e).1)
        (λ v u h e. within above v u h (kept-some (is_on A above v) (P.upper v) u e).1)
        values ready (subst (λ R. Kept pairs R A.state) live-is F.kept))

    shown-on : Decided (check_answer A) → Shown Q (check_answer A)
    shown-on d = subst (Shown Q) (append-nil (check_answer A)) (judged-on [] d).judged

    can-satisfied-on : verdict_of (check_answer A) ≡ pos 1 → MetSmall Q (check_answer A)
    can-satisfied-on e = go (shown-on (inl e))
      where
        go : Shown Q (check_answer A) → MetSmall Q (check_answer A)
        go (inl (v, S)) = satisfied Q (denominator_of (check_answer A)) (lower_part (check_answer A))
            (upper_part (vars P) (check_answer A)) S
        go (inr (v, S)) = one-two e v

    named-clash-on : verdict_of (check_answer A) ≡ pos 2 → Unsatisfied (named (check_answer A) Q)
    named-clash-on e = go (shown-on (inr e))
      where
        go : Shown Q (check_answer A) → Unsatisfied (named (check_answer A) Q)
        go (inl (v, S)) = one-two v e
        go (inr (v, S)) = named-clash-shown Q (check_answer A) S

-- ---- of every session handed back, over the words that opened it

module _ (ws : List ℤ) (W : Accepted most_rows ws) (A : Session (ℤ × ℤ)) (H : Handed pairs (inner (problem ws)) A) where
  coefficients : (i j : ℕ) → i < (problem ws).m → j < (problem ws).n →
      Within ((problem ws).coefficient i j) largest_coefficient
  unfolding problem
  coefficients = coefficient-within W

  given-words : A.given ≡ inner (problem ws)
  given-words = handed-given pairs (inner (problem ws)) A H

  pub fair-words : Fair pairs A
  fair-words = handed-fair pairs pairs-laws (inner (problem ws)) coefficients A H

  limits-modest : LimitsAre pairs LimitSized (inner (problem ws))
  unfolding problem
  limits-modest below v l h e = low-modest (problem ws) (lower-within W) v l h e
  limits-modest above v u h e = high-modest (problem ws) (upper-within W) v u h e

  values-modest : (v : ℕ) (x : ℤ × ℤ) → seat A.state v ≡ some x → LimitSized x
  values-modest = values-handed pairs LimitSized pairs-laws (inner (problem ws)) coefficients
      (record { within = omega arith }, record { within = omega arith }) limits-modest A H

  within-words : (σ : Side) (v : ℕ) (l : Limit) → v < vars (problem ws) → limit_of (problem ws) σ v ≡ some l →
      Within l.plain largest_limit
  unfolding problem
  within-words below = lower-within W
  within-words above = upper-within W

  few_words : (problem ws).n ≤ most_columns
  unfolding problem
  few_words = n-few W

  pub eight-checked : (rest : List ℤ) → Decided (check_answer A) →
      checked (live_words (is_on A) ws) (check_answer A ++ rest) ≡ 8
  eight-checked rest d = live-checked (is_on A) ws W (check_answer A ++ rest)
      (judged-on (problem ws) A fair-words given-words few_words within-words values-modest rest d)

  pub can-live : verdict_of (check_answer A) ≡ pos 1 → MetSmall (live_problem ws A) (check_answer A)
  can-live = can-satisfied-on (problem ws) A fair-words given-words few_words within-words values-modest

  pub cannot-live : verdict_of (check_answer A) ≡ pos 2 → Unsatisfied (live_problem ws A)
  cannot-live = cannot-satisfied-on (problem ws) A fair-words given-words

  pub cannot-fractions-live : verdict_of (check_answer A) ≡ pos 2 → (x : ℕ → Fraction) →
      ¬ FractionsMeet (live_problem ws A) x
  cannot-fractions-live e = unsatisfied-fractions (live_problem ws A) (cannot-live e)

  pub never-both-live : verdict_of (check_answer A) ≡ pos 1 → Unsatisfied (live_problem ws A) → ⊥
  never-both-live e U = let (d, x, S) = satisfiable-on (problem ws) A fair-words given-words e in U d x S

  pub nothing-idle-live : verdict_of (check_answer A) ≡ pos 2 → (σ : Side) (w : ℕ) → w < vars (problem ws) →
      multiplier (vars (problem ws)) (check_answer A) σ w ≢ pos 0 →
      Satisfiable (without σ w (named (check_answer A) (live_problem ws A)))
  nothing-idle-live = nothing-idle-on (problem ws) A fair-words given-words (no-blanks ws W)

  pub named-clash-live : verdict_of (check_answer A) ≡ pos 2 → Unsatisfied (named (check_answer A) (live_problem ws A))
  named-clash-live = named-clash-on (problem ws) A fair-words given-words few_words within-words values-modest
