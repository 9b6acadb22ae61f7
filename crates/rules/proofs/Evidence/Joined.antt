-- Tests without a branch, as a checker asks them: each is asked for, and the answers are joined.
--   tests-more, finds-more      a loop's answer with one test more: all pass, or some test does
--   or-none                     a test that is joined with one that fails
--   clears-joined               one pair against another, strictly or not
use mathlib.Core.Bool.{Bool, false, not, true, ◌&&◌, ◌||◌}
use mathlib.Core.Path.{ap₂, refl, sym, ◌∙◌, ◌≡◌}
use Prim.Native.Nat.{suc, ℕ, ◌+◌}
use native.Mathlib.Numerals.{add-one}
use lib.IntN.{ℤ}
use lib.Signed.{lt_z}
use Rattle.whole.proofs.Bools.{true-false}
use Rattle.whole.proofs.Lists.Below.{some_more}
use Rattle.whole.proofs.Numbers.Order.{<ℤ→≤ℤ, le→false, true→lt}
use Rattle.whole.specs.Below.{all_below, some_below}
use Rattle.whole.specs.Values.{lexicographic}
use Rattle.rules.specs.Evidence.{clears}

all-next : (k : ℕ) (f : ℕ → Bool) → (all_below k f && f k) ≡ all_below (suc k) f
unfolding all_below
all-next k f = go (all_below k f)
  where
    go : (b : Bool) → (b && f k) ≡ elim b [ true ↦ f k | false ↦ false ]
    go true = refl
    go false = refl

pub tests-more : (k : ℕ) (f : ℕ → Bool) {a b : Bool} → a ≡ all_below k f → b ≡ f k → (a && b) ≡ all_below (k + 1) f
tests-more k f e q = rw add-one (ap₂ (λ (a b : Bool). a && b) e q ∙ all-next k f)

pub finds-more : (k : ℕ) (f : ℕ → Bool) {a b : Bool} → a ≡ some_below k f → b ≡ f k → (a || b) ≡ some_below (k + 1) f
finds-more k f e q = rw add-one (ap₂ (λ (a b : Bool). a || b) e q ∙ sym (some_more k f))

pub or-none : (b : Bool) → (b || false) ≡ b
or-none true = refl
or-none false = refl

-- by both tests of the first numbers and both of the second: no branch asks whether a limit is strict
pub clears-joined : (strict : Bool) (a b c d : ℤ) →
    (lt_z a c || (not (lt_z c a) && ((strict && lt_z b d) || (not strict && not (lt_z d b))))) ≡ clears strict (a, b)
    (c, d)
clears-joined true a b c d = go (lt_z a c) (lt_z c a) (lt_z b d)
  where
    go : (p q r : Bool) → (p || (not q && (r || false))) ≡ lexicographic p q r
    go true q r = refl
    go false true r = refl
    go false false r = or-none r
clears-joined false a b c d = go (lt_z a c) (lt_z c a) (lt_z d b) (λ e. le→false {a = a} {b = c} (<ℤ→≤ℤ (true→lt e)))
  where
    go : (p q r : Bool) → (p ≡ true → q ≡ false) → (p || (not q && not r)) ≡ not (lexicographic q p r)
    go true true r h = true-false refl (h refl)
    go true false r h = refl
    go false true r h = refl
    go false false r h = refl
