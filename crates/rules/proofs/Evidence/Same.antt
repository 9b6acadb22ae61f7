-- Evidence depends on no other number than the denominator and those of the variables.
--   solution-same, refutation-same           what is right
--   numerators-same, multipliers-same        .. and within the ranges
use mathlib.Core.Logic.{inl, inr}
use mathlib.Core.Path.{ap, ap₂, sym, ◌∙◌, ◌≡◌}
use Prim.Native.Nat.{ℕ, ◌+◌, ◌<◌}
use native.Mathlib.Omega.{arith}
use lib.IntN.{ℤ, ◌*ℤ◌, ◌+ℤ◌, ◌-ℤ◌}
use Rattle.whole.proofs.Numbers.Sums.{sum_same}
use Rattle.rules.specs.Facts.Evidence.{Contradiction, Multipliers, Numerators, Refutation, Solution}
use Rattle.rules.specs.Evidence.{column, plain_of, surplus}
use Rattle.rules.specs.Problem.{Problem, vars}
use Rattle.rules.specs.Limit.{Limit}

module _ (P : Problem Limit) {d e : ℤ} {x y z w : ℕ → ℤ} (same-d : d ≡ e)
    (same-x : (v : ℕ) → v < vars P → x v ≡ y v) (same-z : (v : ℕ) → v < vars P → z v ≡ w v) where
  pub solution-same : Solution P d x z → Solution P e y w
  solution-same S = record {
    least = rw (← same-d) S.least;
    rows = λ i h. sym (same-x (P.n + i) (omega arith)) ∙ S.rows i h
        ∙ sum_same P.n (λ j. P.coefficient i j *ℤ x j) (λ j. P.coefficient i j *ℤ y j)
        (λ j k. ap (λ a. P.coefficient i j *ℤ a) (same-x j (omega arith)));
    lowers = λ v h l k. rw (← same-d, ← same-x v h, ← same-z v h) (S.lowers v h l k);
    uppers = λ v h u k. rw (← same-d, ← same-x v h, ← same-z v h) (S.uppers v h u k);
    small-rows = λ i h. sym (same-z (P.n + i) (omega arith)) ∙ S.small-rows i h
        ∙ sum_same P.n (λ j. P.coefficient i j *ℤ z j) (λ j. P.coefficient i j *ℤ w j)
        (λ j k. ap (λ a. P.coefficient i j *ℤ a) (same-z j (omega arith)));
  }

  pub numerators-same : Numerators P d x z → Numerators P e y w
  numerators-same S = record {
    right = solution-same S.right;
    most = rw (← same-d) S.most;
    numerators = λ v h. rw (← same-x v h) (S.numerators v h);
    smalls = λ v h. rw (← same-z v h) (S.smalls v h);
  }

  column-same : (j : ℕ) → j < P.n → column P (λ v. x v -ℤ z v) j ≡ column P (λ v. y v -ℤ w v) j
  unfolding column
  column-same j h = ap₂ ◌+ℤ◌ (at j (omega arith))
      (sum_same P.m (λ i. P.coefficient i j *ℤ (x (P.n + i) -ℤ z (P.n + i)))
      (λ i. P.coefficient i j *ℤ (y (P.n + i) -ℤ w (P.n + i)))
      (λ i k. ap (λ a. P.coefficient i j *ℤ a) (at (P.n + i) (omega arith))))
    where
      at : (v : ℕ) → v < vars P → x v -ℤ z v ≡ y v -ℤ w v
      at v h = ap₂ ◌-ℤ◌ (same-x v h) (same-z v h)

  surplus-same : surplus P x z ≡ surplus P y w
  unfolding surplus
  surplus-same = sum_same (vars P) _ _
      (λ v h. ap₂ (λ a b. plain_of (P.lower v) *ℤ a -ℤ plain_of (P.upper v) *ℤ b) (same-x v h) (same-z v h))

  pub refutation-same : Refutation P d x z → Refutation P e y w
  refutation-same S = record {
    no-denominator = sym same-d ∙ S.no-denominator;
    lowers = λ v h. rw (← same-x v h) (S.lowers v h);
    uppers = λ v h. rw (← same-z v h) (S.uppers v h);
    cancels = λ j h. sym (column-same j h) ∙ S.cancels j h;
    contradiction = go S.contradiction;
  }
    where
      go : Contradiction P x z → Contradiction P y w
      go (inl h) = inl (rw (← surplus-same) h)
      go (inr (q, (v, h, inl (l, a, b, n)))) =
          inr (sym surplus-same ∙ q, (v, h, inl (l, a, b, λ k. n (same-x v h ∙ k))))
      go (inr (q, (v, h, inr (l, a, b, n)))) =
          inr (sym surplus-same ∙ q, (v, h, inr (l, a, b, λ k. n (same-z v h ∙ k))))

  pub multipliers-same : Multipliers P d x z → Multipliers P e y w
  multipliers-same S = record {
    right = refutation-same S.right;
    lowers-most = λ v h. rw (← same-x v h) (S.lowers-most v h);
    uppers-most = λ v h. rw (← same-z v h) (S.uppers-most v h);
  }
