-- docs/RULES.md, "The auditor's sheet": exact totals over bodies, each a list of words. `rows` is the most rows that a
-- body may have.
-- Every total is a plain count or sum over the bodies 0 to k - 1.
--   Class, class_of            the one class of a body: its refusal, or its verdict
--   classes, over_classes      all that there are, and a sum over them
--   of_class                   how many bodies are of a class
--   pivots_of                  the pivots of a body: word 1 of its answer, 0 of a refused one
--   pivot_sum, largest_pivots   of all bodies together, and the most of one; 0 where none has a verdict
--   largest_body               the lowest body with a verdict that reached the most
--   lower_named, upper_named    in how many "cannot" answers a limit is named, whatever its multiplier
use Rattle.std.specs.Prelude.{Bool, true, false, cond, not, ◌&&◌, List, [], ◌∷◌, ℕ, zero, suc, ◌+◌, max, ltb, eqb, ℤ}
use Rattle.std.specs.Prelude.{pos, nat_abs, get_or}
use Rattle.std.proofs.Math.Option.{Option, none, some}
use Rattle.whole.specs.Below.{lowest}
use Rattle.whole.specs.Numbers.{eq_z}
use Rattle.rules.specs.Answer.{answer}
use Rattle.rules.specs.Evidence.{lower_part, upper_part, verdict_of}
use Rattle.rules.specs.Problem.{vars_of, word}
use Rattle.rules.specs.Refusal.{first, problem_tests}

-- ---- counts and sums over the numbers below k

unfoldable pub sum_below : ℕ → (ℕ → ℕ) → ℕ
sum_below zero f = 0
sum_below (suc k) f = sum_below k f + f k

-- how many pass a test
abbrev pub count_below : ℕ → (ℕ → Bool) → ℕ
count_below k p = sum_below k (λ i. cond (p i) 1 0)

-- the most of them; 0 of none
unfoldable pub largest_below : ℕ → (ℕ → ℕ) → ℕ
largest_below zero f = 0
largest_below (suc k) f = max (largest_below k f) (f k)

-- ---- one body

-- body i of a list
abbrev pub body_at : List (List ℤ) → ℕ → List ℤ
body_at bodies i = get_or bodies i []

-- refused with a number, or answered with a verdict
pub data Class : Type 0 where
  refused : ℕ → Class
  verdict : ℕ → Class

unfoldable pub class_by : ℕ → List ℤ → Class
class_by zero b = verdict (nat_abs (verdict_of (answer b)))
class_by (suc k) b = refused (suc k)

unfoldable pub class_of : ℕ → List ℤ → Class
class_of rows b = class_by (first (problem_tests rows b)) b

-- can, cannot, range, and each refusal, in the order of the tests
abbrev pub classes : List Class
classes =
    verdict 1 ∷ verdict 2 ∷ verdict 3
    ∷ refused 1 ∷ refused 2 ∷ refused 3 ∷ refused 4 ∷ refused 5 ∷ refused 6 ∷ refused 10 ∷ []

unfoldable pub same_class : Class → Class → Bool
same_class (refused j) (refused k) = eqb j k
same_class (refused j) (verdict w) = false
same_class (verdict v) (refused k) = false
same_class (verdict v) (verdict w) = eqb v w

unfoldable pub answered_class : Class → Bool
answered_class (refused k) = false
answered_class (verdict v) = true

unfoldable pub pivots_by : Class → List ℤ → ℕ
pivots_by (refused k) b = 0
pivots_by (verdict v) b = nat_abs (word (answer b) 1)

unfoldable pub pivots_of : ℕ → List ℤ → ℕ
pivots_of rows b = pivots_by (class_of rows b) b

-- a multiplier of a variable that there is, and not 0
unfoldable pub names : ℕ → ℕ → ℤ → Bool
names N v multiplier = ltb v N && not (eq_z multiplier (pos 0))

-- the lower limit of v is named by a "cannot"
unfoldable pub names_lower : ℕ → ℕ → List ℤ → Bool
names_lower rows v b = same_class (class_of rows b) (verdict 2) && names (vars_of b) v (lower_part (answer b) v)

unfoldable pub names_upper : ℕ → ℕ → List ℤ → Bool
names_upper rows v b = same_class (class_of rows b) (verdict 2) && names (vars_of b) v
    (upper_part (vars_of b) (answer b) v)

-- a number for each class, all of them together
unfoldable pub over_classes : List Class → (Class → ℕ) → ℕ
over_classes [] f = 0
over_classes (c ∷ cs) f = f c + over_classes cs f

-- ---- totals over the bodies 0 to k - 1

module _ (rows k : ℕ) (body : ℕ → List ℤ) where
  unfoldable pub of_class : Class → ℕ
  of_class c = count_below k (λ i. same_class (class_of rows (body i)) c)

  unfoldable pub pivot_sum : ℕ
  pivot_sum = sum_below k (λ i. pivots_of rows (body i))

  unfoldable pub largest_pivots : ℕ
  largest_pivots = largest_below k (λ i. pivots_of rows (body i))

  -- it has a verdict, and as many pivots
  unfoldable pub reaches : ℕ → ℕ → Bool
  reaches most i = answered_class (class_of rows (body i)) && eqb (pivots_of rows (body i)) most

  unfoldable pub largest_body : Option ℕ
  largest_body = lowest k (λ i. cond (reaches largest_pivots i) (some i) none)

  unfoldable pub lower_named : ℕ → ℕ
  lower_named v = count_below k (λ i. names_lower rows v (body i))

  unfoldable pub upper_named : ℕ → ℕ
  upper_named v = count_below k (λ i. names_upper rows v (body i))
