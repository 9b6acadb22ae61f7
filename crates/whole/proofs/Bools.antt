-- Tests: a Bool that is both, and what `T`, `&&`, `||` and `not` say as equations.
--   zero_one, true-false             contradictions
--   T→true, true→T                   between T and an equation
--   and-true, and-of, or-false, ..   parts of a test
--   same_tests                       two tests that pass together
use mathlib.Core.Path.{◌≡◌, refl, sym, ◌∙◌, ap}
use mathlib.Core.Logic.{◌⊎◌, inl, inr}
use mathlib.Core.Bool.{Bool, true, false, cond, not, ◌&&◌, ◌||◌}
use Prim.Native.Nat.{ℕ}
use native.Mathlib.Omega.{arith}
use lib.Dec.{T}

pub zero_one : {A : Type 0} → ◌≡◌ {A = ℕ} 0 1 → A
zero_one z = let y : ⊥ = omega arith in absurd y

pub true-false : {A : Type 0} {b : Bool} → b ≡ true → b ≡ false → A
true-false e f = let z : ◌≡◌ {A = ℕ} 0 1 = ap (λ c. cond c 0 1) (sym e ∙ f) in zero_one z

pub T→true : (b : Bool) → T b → b ≡ true
T→true true t = refl
T→true false t = absurd t

pub true→T : {b : Bool} → b ≡ true → T b
true→T e = rw e tt

pub T→false : (b : Bool) → T (not b) → b ≡ false
T→false true t = absurd t
T→false false t = refl

-- either answer of a test, with its equation
pub either : (b : Bool) → (b ≡ true) ⊎ (b ≡ false)
either true = inl refl
either false = inr refl

pub and-true : (a b : Bool) → (a && b) ≡ true → (a ≡ true) × (b ≡ true)
and-true true b e = (refl, e)
and-true false b e = true-false e refl

pub and-of : {a b : Bool} → a ≡ true → b ≡ true → (a && b) ≡ true
and-of p q = rw (p, q) refl

pub and-false : (a b : Bool) → (a && b) ≡ false → (a ≡ false) ⊎ (b ≡ false)
and-false true b e = inr e
and-false false b e = inl refl

pub or-false : (a b : Bool) → (a || b) ≡ false → (a ≡ false) × (b ≡ false)
or-false true b e = true-false refl e
or-false false b e = (refl, e)

pub or-of : {a b : Bool} → a ≡ false → b ≡ false → (a || b) ≡ false
or-of p q = rw (p, q) refl

pub or-true : (a b : Bool) → (a || b) ≡ true → (a ≡ true) ⊎ (b ≡ true)
or-true true b e = inl refl
or-true false b e = inr e

pub not-true : (a : Bool) → not a ≡ true → a ≡ false
not-true true e = true-false e refl
not-true false e = refl

pub not-false : (a : Bool) → not a ≡ false → a ≡ true
not-false true e = refl
not-false false e = true-false refl e

-- two tests that pass together
pub same_tests : (a b : Bool) → (a ≡ true → b ≡ true) → (b ≡ true → a ≡ true) → a ≡ b
same_tests true b f g = sym (f refl)
same_tests false true f g = g refl
same_tests false false f g = refl
