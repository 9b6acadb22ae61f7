-- What a search or a test over the numbers below k says of each of them.
--   lowest-none, lowest-some (Found), lowest-is    nothing found; what is found is first; and back
--   lowest-passes, none_passes                     the lowest number that passes a test
--   all-each, all_of, all-not, all-fails           the test passes at each number, or fails at one
--   all_more                                       .. and at one number more
--   some-none, some_at, some_of                    the test fails at each, or passes at one
--   all_start, all_more, some-start, some_more     for a loop: nothing passed yet, one number more
use mathlib.Core.Path.{◌≡◌, refl, ◌∙◌}
use mathlib.Core.Bool.{Bool, true, false, cond, ◌||◌}
use mathlib.Core.Logic.{◌↔◌}
use mathlib.Core.Option.{Option, none, some, none-ne-some, some-ne-none}
use Prim.Native.Nat.{ℕ, zero, suc, ◌+◌, ◌<◌}
use native.Mathlib.Numerals.{add-one}
use native.Mathlib.Omega.{arith}
use native.Mathlib.Decide.{ℕ_discrete}
use Rattle.whole.proofs.Bools.{true-false}
use Rattle.whole.specs.Below.{lowest, some_below, all_below}

-- what holds below k and at k holds below k + 1
last-or-before : (P : ℕ → Type 0) (k u : ℕ) → u < suc k → P k → (u < k → P u) → P u
last-or-before P k u h now before = go (ℕ_discrete u k)
  where
    go : Dec (u ≡ k) → P u
    go (yes e) = rw e now
    go (no n) = before (omega arith)

-- ---- the lowest number with an answer

pub record Found {A : Type 0} (k : ℕ) (f : ℕ → Option A) (a : A) : Type 0 where
  pub at : ℕ
  pub in-range : at < k
  pub is : f at ≡ some a
  pub first : (u : ℕ) → u < at → f u ≡ none

pub lowest-none : {A : Type 0} (k : ℕ) (f : ℕ → Option A) → lowest k f ≡ none → (v : ℕ) → v < k → f v ≡ none
unfolding lowest
lowest-none zero f e v h = let z : ⊥ = omega arith in absurd z
lowest-none (suc k) f e v h = go (lowest k f) refl (λ q. lowest-none k f q)
  where
    go : (o : Option _) → lowest k f ≡ o → (lowest k f ≡ none → (v : ℕ) → v < k → f v ≡ none) → f v ≡ none
    go none q rest = last-or-before (λ v. f v ≡ none) k v h (rw q at e) (rest q v)
    go (some a) q rest = absurd (some-ne-none a (rw q at e))

pub lowest-some : {A : Type 0} (k : ℕ) (f : ℕ → Option A) (a : A) → lowest k f ≡ some a → Found k f a
unfolding lowest
lowest-some zero f a e = absurd (none-ne-some a e)
lowest-some {A} (suc k) f a e = go (lowest k f) refl (λ b q. lowest-some k f b q)
  where
    go : (o : Option A) → lowest k f ≡ o → ((b : A) → lowest k f ≡ some b → Found k f b) → Found (suc k) f a
    go none q rest = record { at = k; in-range = omega arith; is = rw q at e; first = lowest-none k f q }
    go (some b) q rest = let g = rest a (q ∙ (rw q at e)) in
        record { at = g.at; in-range = omega arith; is = g.is; first = g.first }

pub lowest-empty : {A : Type 0} (k : ℕ) (f : ℕ → Option A) → ((v : ℕ) → v < k → f v ≡ none) → lowest k f ≡ none
unfolding lowest
lowest-empty zero f h = refl
lowest-empty (suc k) f h = let e = lowest-empty k f (λ v p. h v (omega arith)) in rw (e, lowest) (h k (omega arith))

pub lowest-is : {A : Type 0} (k v : ℕ) (f : ℕ → Option A) (a : A) → v < k → f v ≡ some a →
    ((u : ℕ) → u < v → f u ≡ none) → lowest k f ≡ some a
unfolding lowest
lowest-is zero v f a h e first = let z : ⊥ = omega arith in absurd z
lowest-is {A} (suc k) v f a h e first = go (ℕ_discrete v k) (λ q. lowest-is k v f a q e first)
  where
    go : Dec (v ≡ k) → (v < k → lowest k f ≡ some a) → lowest (suc k) f ≡ some a
    go (yes z) rest = let q = lowest-empty k f (λ u p. first u (omega arith)) in rw (q, lowest) (rw (← z) e)
    go (no n) rest = let q = rest (omega arith) in rw (q, lowest) refl

-- the lowest number that passes a test

chosen : (b : Bool) (v w : ℕ) → cond b (some v) none ≡ some w → (b ≡ true) × (v ≡ w)
chosen true v w e = (refl, cc)
chosen false v w e = absurd (none-ne-some w e)

passed_over : (b : Bool) (v : ℕ) → ◌≡◌ {A = Option ℕ} (cond b (some v) none) none → b ≡ false
passed_over true v e = absurd (some-ne-none v e)
passed_over false v e = refl

pub lowest-passes : (k : ℕ) (f : ℕ → Bool) (w : ℕ) →
    (lowest k (λ v. cond (f v) (some v) none) ≡ some w) ↔ ((w < k) × (f w ≡ true) × ((u : ℕ) → u < w → f u ≡ false))
lowest-passes k f w = (there, λ (h, e, first). lowest-is k w _ w h (rw e refl) (λ u l. rw (first u l) refl))
  where
    there : lowest k (λ v. cond (f v) (some v) none) ≡ some w → (w < k) × (f w ≡ true) × ((u : ℕ) → u < w → f u ≡ false)
    there e =
        let g = lowest-some k (λ v. cond (f v) (some v) none) w e in
        let z : g.at ≡ w = (chosen (f g.at) g.at w g.is).1 in (
          omega arith,
          rw (← z) (chosen (f g.at) g.at w g.is).0,
          λ u l. passed_over (f u) u (g.first u (omega arith)),
        )

pub none_passes : (k : ℕ) (f : ℕ → Bool) →
    (lowest k (λ v. cond (f v) (some v) none) ≡ none) ↔ ((v : ℕ) → v < k → f v ≡ false)
none_passes k f = (λ e v h. passed_over (f v) v (lowest-none k _ e v h), λ h. lowest-empty k _ (λ v l. rw (h v l) refl))

-- ---- a test at each number

pub all-each : (k : ℕ) (f : ℕ → Bool) → all_below k f ≡ true → (v : ℕ) → v < k → f v ≡ true
unfolding all_below
all-each zero f e v h = let z : ⊥ = omega arith in absurd z
all-each (suc k) f e v h = go (all_below k f) refl (all-each k f)
  where
    go : (b : Bool) → all_below k f ≡ b → (all_below k f ≡ true → (v : ℕ) → v < k → f v ≡ true) → f v ≡ true
    go true q rest = last-or-before (λ v. f v ≡ true) k v h (rw (q, all_below) at e) (rest q v)
    go false q rest = true-false (rw (q, all_below) at e) refl

pub all_of : (k : ℕ) (f : ℕ → Bool) → ((v : ℕ) → v < k → f v ≡ true) → all_below k f ≡ true
unfolding all_below
all_of zero f h = refl
all_of (suc k) f h = let e = all_of k f (λ v p. h v (omega arith)) in rw (e, all_below) (h k (omega arith))

pub all-not : (k v : ℕ) (f : ℕ → Bool) → v < k → f v ≡ false → all_below k f ≡ false
all-not k v f h e = go (all_below k f) refl
  where
    go : (b : Bool) → all_below k f ≡ b → b ≡ false
    go true q = true-false (all-each k f q v h) e
    go false q = refl

pub all_same : (k : ℕ) (f g : ℕ → Bool) → ((v : ℕ) → v < k → f v ≡ g v) → all_below k f ≡ all_below k g
unfolding all_below
all_same zero f g h = refl
all_same (suc k) f g h = go (all_below k f) refl (all_same k f g (λ v p. h v (omega arith)))
  where
    go : (b : Bool) → all_below k f ≡ b → all_below k f ≡ all_below k g → all_below (suc k) f ≡ all_below (suc k) g
    go true q e = rw (q, ← e, q, all_below) (h k (omega arith))
    go false q e = rw (q, ← e, q, all_below) refl

pub all_start : (f : ℕ → Bool) → all_below 0 f ≡ true
unfolding all_below
all_start f = refl

pub all_more : (k : ℕ) (f : ℕ → Bool) → all_below k f ≡ true → f k ≡ true → all_below (k + 1) f ≡ true
unfolding all_below
all_more k f e h = rw (add-one, e, all_below) h

pub all-fails : (k : ℕ) (f : ℕ → Bool) → all_below k f ≡ false → (v : ℕ) × (v < k) × (f v ≡ false)
unfolding all_below
all-fails zero f e = true-false refl e
all-fails (suc k) f e = go (all_below k f) refl (all-fails k f)
  where
    go : (b : Bool) → all_below k f ≡ b → (all_below k f ≡ false → (v : ℕ) × (v < k) × (f v ≡ false)) →
        (v : ℕ) × (v < suc k) × (f v ≡ false)
    go true q rest = (k, omega arith, rw (q, all_below) at e)
    go false q rest = let w = rest q in (w.0, omega arith, w.2)

-- ---- a test at some number

pub some-none : (k : ℕ) (f : ℕ → Bool) → some_below k f ≡ false → (v : ℕ) → v < k → f v ≡ false
unfolding some_below
some-none zero f e v h = let z : ⊥ = omega arith in absurd z
some-none (suc k) f e v h = go (some_below k f) refl (some-none k f)
  where
    go : (b : Bool) → some_below k f ≡ b → (some_below k f ≡ false → (v : ℕ) → v < k → f v ≡ false) → f v ≡ false
    go false q rest = last-or-before (λ v. f v ≡ false) k v h (rw (q, some_below) at e) (rest q v)
    go true q rest = true-false refl (rw (q, some_below) at e)

pub some_at : (k : ℕ) (f : ℕ → Bool) → some_below k f ≡ true → (v : ℕ) × (v < k) × (f v ≡ true)
unfolding some_below
some_at zero f e = true-false e refl
some_at (suc k) f e = go (some_below k f) refl (some_at k f)
  where
    go : (b : Bool) → some_below k f ≡ b → (some_below k f ≡ true → (v : ℕ) × (v < k) × (f v ≡ true)) →
        (v : ℕ) × (v < suc k) × (f v ≡ true)
    go true q rest = let w = rest q in (w.0, omega arith, w.2)
    go false q rest = (k, omega arith, rw (q, some_below) at e)

pub some_of : (k v : ℕ) (f : ℕ → Bool) → v < k → f v ≡ true → some_below k f ≡ true
some_of k v f h e = go (some_below k f) refl
  where
    go : (b : Bool) → some_below k f ≡ b → b ≡ true
    go true q = refl
    go false q = true-false e (some-none k f q v h)

pub some-empty : (k : ℕ) (f : ℕ → Bool) → ((v : ℕ) → v < k → f v ≡ false) → some_below k f ≡ false
unfolding some_below
some-empty zero f h = refl
some-empty (suc k) f h = let e = some-empty k f (λ v p. h v (omega arith)) in rw (e, some_below) (h k (omega arith))

pub some-start : (f : ℕ → Bool) → some_below 0 f ≡ false
unfolding some_below
some-start f = refl

pub some_more : (k : ℕ) (f : ℕ → Bool) → some_below (suc k) f ≡ (some_below k f || f k)
unfolding some_below
some_more k f = go (some_below k f) refl
  where
    go : (b : Bool) → some_below k f ≡ b → some_below (suc k) f ≡ (some_below k f || f k)
    go true e = rw (e, some_below) refl
    go false e = rw (e, some_below) refl
