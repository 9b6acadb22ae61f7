-- Each body is in exactly one class, so the classes sum to the bodies.
--   class-known    the class of a body is one of `classes`
--   one_class      .. and exactly one of them is its own
--   classes-sum    the counts of all classes together are the bodies
use mathlib.Core.Bool.{Bool, cond, false, true}
use mathlib.Core.List.{List, [], ◌∷◌}
use mathlib.Core.Logic.{inl, inr, ◌⊎◌}
use mathlib.Core.Path.{ap, refl, sym, ◌∙◌, ◌≡◌}
use Prim.Native.Nat.{suc, zero, ℕ, ◌+◌}
use native.Mathlib.Omega.{arith}
use lib.IntN.{nat_abs, ℤ}
use Rattle.rules.proofs.Answer.Shape.{answer-shaped}
use Rattle.rules.specs.Answer.{answer}
use Rattle.rules.specs.Evidence.{verdict_of}
use Rattle.rules.specs.Facts.Answer.{Shape, shape-can, shape-cannot, shape-range}
use Rattle.rules.specs.Problem.{vars_of}
use Rattle.rules.specs.Refusal.{first, problem_tests}
use Rattle.rules.specs.Sheet.Totals.{Class, class_by, classes, class_of, of_class, over_classes, refused, same_class}
use Rattle.rules.specs.Sheet.Totals.{sum_below, verdict}

-- ---- one of the classes

abbrev Among : Class → List Class → Type 0
Among c [] = ⊥
Among c (d ∷ ds) = (c ≡ d) ⊎ Among c ds

-- a number that a list of tests has
abbrev Listed : ℕ → List (Bool × ℕ) → Type 0
Listed k [] = ⊥
Listed k (t ∷ ts) = (k ≡ t.1) ⊎ Listed k ts

first-listed : (ts : List (Bool × ℕ)) (k : ℕ) → first ts ≡ suc k → Listed (suc k) ts
unfolding first
first-listed [] k e = let z : ⊥ = omega arith in z
first-listed ((true, j) ∷ ts) k e = inl (sym e)
first-listed ((false, j) ∷ ts) k e = inr (first-listed ts k e)

refused-known : (rows : ℕ) (b : List ℤ) (k : ℕ) → Listed k (problem_tests rows b) → Among (refused k) classes
unfolding problem_tests
refused-known rows b k (inl e) = inr (inr (inr (inl (ap refused e))))
refused-known rows b k (inr (inl e)) = inr (inr (inr (inr (inl (ap refused e)))))
refused-known rows b k (inr (inr (inl e))) = inr (inr (inr (inr (inr (inl (ap refused e))))))
refused-known rows b k (inr (inr (inr (inl e)))) = inr (inr (inr (inr (inr (inr (inl (ap refused e)))))))
refused-known rows b k (inr (inr (inr (inr (inl e))))) = inr (inr (inr (inr (inr (inr (inr (inl (ap refused e))))))))
refused-known rows b k (inr (inr (inr (inr (inr (inl e)))))) =
    inr (inr (inr (inr (inr (inr (inr (inr (inl (ap refused e)))))))))
refused-known rows b k (inr (inr (inr (inr (inr (inr (inl e))))))) =
    inr (inr (inr (inr (inr (inr (inr (inr (inr (inl (ap refused e))))))))))
refused-known rows b k (inr (inr (inr (inr (inr (inr (inr z))))))) = absurd z

verdict-known : (N : ℕ) (a : List ℤ) → Shape N a → Among (verdict (nat_abs (verdict_of a))) classes
verdict-known N a (shape-can v d) = inl (ap (λ z. verdict (nat_abs z)) v)
verdict-known N a (shape-cannot v d) = inr (inl (ap (λ z. verdict (nat_abs z)) v))
verdict-known N a (shape-range v d z) = inr (inr (inl (ap (λ z. verdict (nat_abs z)) v)))

class-known : (rows : ℕ) (b : List ℤ) → Among (class_of rows b) classes
unfolding class_of class_by
class-known rows b = go (first (problem_tests rows b)) refl
  where
    go : (r : ℕ) → first (problem_tests rows b) ≡ r → Among (class_by r b) classes
    go zero e = verdict-known (vars_of b) (answer b) (answer-shaped b).shape
    go (suc k) e = refused-known rows b (suc k) (first-listed (problem_tests rows b) k e)

-- ---- and one alone

among_one : (c : Class) → Among c classes → over_classes classes (λ d. cond (same_class c d) 1 0) ≡ 1
unfolding over_classes same_class
among_one c (inl e) = rw e refl
among_one c (inr (inl e)) = rw e refl
among_one c (inr (inr (inl e))) = rw e refl
among_one c (inr (inr (inr (inl e)))) = rw e refl
among_one c (inr (inr (inr (inr (inl e))))) = rw e refl
among_one c (inr (inr (inr (inr (inr (inl e)))))) = rw e refl
among_one c (inr (inr (inr (inr (inr (inr (inl e))))))) = rw e refl
among_one c (inr (inr (inr (inr (inr (inr (inr (inl e)))))))) = rw e refl
among_one c (inr (inr (inr (inr (inr (inr (inr (inr (inl e))))))))) = rw e refl
among_one c (inr (inr (inr (inr (inr (inr (inr (inr (inr (inl e)))))))))) = rw e refl
among_one c (inr (inr (inr (inr (inr (inr (inr (inr (inr (inr z)))))))))) = absurd z

pub one_class : (rows : ℕ) (b : List ℤ) → over_classes classes (λ d. cond (same_class (class_of rows b) d) 1 0) ≡ 1
one_class rows b = among_one (class_of rows b) (class-known rows b)

-- ---- the sum

over_none : (cs : List Class) → over_classes cs (λ c. 0) ≡ 0
unfolding over_classes
over_none [] = refl
over_none (c ∷ cs) = let r = over_none cs in omega (arith, r)

over-plus : (cs : List Class) (f g : Class → ℕ) → over_classes cs (λ c. f c + g c) ≡ over_classes cs f + over_classes
    cs g
unfolding over_classes
over-plus [] f g = refl
over-plus (c ∷ cs) f g = let r = over-plus cs f g in omega (arith, r)

pub classes-sum : (rows k : ℕ) (body : ℕ → List ℤ) → over_classes classes (of_class rows k body) ≡ k
unfolding of_class sum_below
classes-sum rows zero body = over_none classes
classes-sum rows (suc k) body =
    let r = classes-sum rows k body in
    let one = one_class rows (body k) in
    over-plus classes (of_class rows k body) (λ d. cond (same_class (class_of rows (body k)) d) 1 0)
    ∙ (let z : over_classes classes (of_class rows k body)
    + over_classes classes (λ d. cond (same_class (class_of rows (body k)) d) 1 0) ≡ suc k = omega (arith, r, one) in z)
