-- How large the totals of k bodies are.
--   pivots-few                   a body has fewer pivots than `most_count`, which bounds every run
--   pivot-sum-few, largest-few   so k bodies have at most k times as many, and the largest is below it
--   class-few, lower-few, upper-few    a count is at most the bodies
use mathlib.Core.Bool.{Bool, cond, false, true}
use mathlib.Core.List.{List}
use mathlib.Core.Logic.{inl, inr, ◌⊎◌}
use mathlib.Core.Path.{refl, ◌≡◌}
use Prim.Native.Nat.{suc, zero, ℕ, ◌*◌, ◌<◌, ◌≤◌}
use native.Mathlib.Nat.{suc-mul}
use native.Mathlib.Omega.{arith}
use lib.IntN.{nat_abs, ℤ}
use Rattle.whole.proofs.Values.Beside.{pairs-laws}
use Rattle.whole.specs.Values.{pairs}
use Rattle.rules.proofs.Answer.Cases.{answered}
use Rattle.rules.proofs.Refusal.Accepted.{m-few, n-few}
use Rattle.rules.proofs.Refusal.Exactly.{accepted-exactly}
use Rattle.rules.proofs.Sheet.Largest.{largest-reached}
use Rattle.rules.proofs.Termination.Bound.{bound-small}
use Rattle.rules.proofs.Termination.Ends.{ready-start}
use Rattle.rules.specs.Answer.{answer, answer_from}
use Rattle.rules.specs.Facts.Answer.{Answered, can-at, cannot-at, crossing, laid, range_at}
use Rattle.rules.specs.Problem.{Problem, inner, problem, word}
use Rattle.rules.specs.Refusal.{Accepted, first, problem_tests}
use Rattle.rules.specs.Run.{bound, most_count}
use Rattle.rules.specs.Sheet.Totals.{Class, class_by, class_of, count_below, largest_below, largest_pivots}
use Rattle.rules.specs.Sheet.Totals.{lower_named, names_lower, names_upper, of_class, pivots_by, pivots_of, pivot_sum}
use Rattle.rules.specs.Sheet.Totals.{same_class, sum_below, upper_named}
use Rattle.rules.specs.Sizes.{most_rows}
use Rattle.rules.specs.Step.{State, start}

-- ---- word 1 of an answer

count_word : (a b c : ℤ) (xs ys : List ℤ) → word (laid a b c xs ys) 1 ≡ b
unfolding laid
count_word a b c xs ys = refl

module _ (P : Problem (ℤ × ℤ)) (s : State (ℤ × ℤ)) (b : ℕ) (some : 0 < b) (h : bound P ≤ b) where
  count-below : Answered P s → nat_abs (word (answer_from P s) 1) < b
  count-below (crossing v c e) = rw (e, count_word) some
  count-below (can-at R q e) = let r = R.below in rw (e, count_word) (omega (arith, r, h))
  count-below (cannot-at R ls us q e) = let r = R.below in rw (e, count_word) (omega (arith, r, h))
  count-below (range_at R q e) = let r = R.below in rw (e, count_word) (omega (arith, r, h))

answer-few : {rows : ℕ} (b : List ℤ) → rows ≤ most_rows → Accepted rows b → nat_abs (word (answer b) 1) < most_count
unfolding answer problem
answer-few b h A =
    let m = m-few A in
    count-below (inner (problem b)) (start pairs (inner (problem b))) most_count (omega arith)
    (bound-small (inner (problem b)) (omega (arith, m, h)) (n-few A))
    (answered (inner (problem b)) (start pairs (inner (problem b))) (ready-start pairs pairs-laws (inner (problem b))))

pub pivots-few : (rows : ℕ) (b : List ℤ) → rows ≤ most_rows → pivots_of rows b < most_count
unfolding pivots_of class_of class_by pivots_by
pivots-few rows b h = go (first (problem_tests rows b)) refl
  where
    go : (r : ℕ) → first (problem_tests rows b) ≡ r → pivots_by (class_by r b) b < most_count
    go zero e = answer-few b h ((accepted-exactly rows b).0 e)
    go (suc k) e = omega arith

-- ---- sums and counts

sum-most : (k : ℕ) (f : ℕ → ℕ) (c : ℕ) → ((i : ℕ) → f i ≤ c) → sum_below k f ≤ k * c
unfolding sum_below
sum-most zero f c h = omega arith
sum-most (suc k) f c h = let r = sum-most k f c h in let s = h k in let m = suc-mul k c in omega (arith, r, s, m)

one-most : (b : Bool) → cond b 1 0 ≤ 1
one-most true = omega arith
one-most false = omega arith

count_most : (k : ℕ) (p : ℕ → Bool) → count_below k p ≤ k
count_most k p = let r = sum-most k (λ i. cond (p i) 1 0) 1 (λ i. one-most (p i)) in omega (arith, r)

module _ (rows k : ℕ) (body : ℕ → List ℤ) where
  pub class-few : (c : Class) → of_class rows k body c ≤ k
  unfolding of_class
  class-few c = count_most k (λ i. same_class (class_of rows (body i)) c)

  pub lower-few : (v : ℕ) → lower_named rows k body v ≤ k
  unfolding lower_named
  lower-few v = count_most k (λ i. names_lower rows v (body i))

  pub upper-few : (v : ℕ) → upper_named rows k body v ≤ k
  unfolding upper_named
  upper-few v = count_most k (λ i. names_upper rows v (body i))

  pub pivot-sum-few : rows ≤ most_rows → pivot_sum rows k body ≤ k * most_count
  unfolding pivot_sum
  pivot-sum-few h = sum-most k (λ i. pivots_of rows (body i)) most_count
      (λ i. let r = pivots-few rows (body i) h in omega (arith, r))

  pub largest-few : rows ≤ most_rows → largest_pivots rows k body < most_count
  unfolding largest_pivots
  largest-few h = go (largest-reached k (λ i. pivots_of rows (body i)))
    where
      go : (largest_below k (λ i. pivots_of rows (body i)) ≡ 0)
          ⊎ ((i : ℕ) × (i < k) × (pivots_of rows (body i) ≡ largest_below k (λ i. pivots_of rows (body i)))) →
          largest_below k (λ i. pivots_of rows (body i)) < most_count
      go (inl e) = rw e (omega arith)
      go (inr (i, l, e)) = rw (← e) (pivots-few rows (body i) h)
