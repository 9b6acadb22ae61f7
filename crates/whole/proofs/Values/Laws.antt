-- What follows from what is asked of the operations on values (`Laws` of specs/Values): chains of orders, multiples by
-- sign, and sums.
-- The order laws are equations on `less`, so that an order turned round computes.
--   weaken, le-le, lt-le-trans, le_lt_trans, plus-mono, up, down, -strict    orders
--   plus-le, plus-lt                                                         one value added to both
--   gain-le, gain-lt                                                         what is added, where the sum is not less,
--                                                                            or less
--   total-same, total-plus, scale-total, total-swap, total-zero, total-one   sums
--   total-le, total-lt                                                       sums in order
use mathlib.Core.Path.{◌≡◌, refl, sym, ◌∙◌, ap}
use mathlib.Core.Logic.{◌≢◌}
use mathlib.Core.Bool.{Bool, true, false}
use Prim.Native.Nat.{ℕ, zero, suc, ◌<◌}
use native.Mathlib.Omega.{arith}
use native.Mathlib.Decide.{ℕ_discrete}
use lib.IntN.{ℤ, pos, *ℤ-zero, *ℤ_comm}
use lib.Signed.{◌<ℤ◌}
use Rattle.whole.proofs.Bools.{true-false}
use Rattle.whole.specs.Sums.{sum, sum_by}
use Rattle.whole.specs.Values.{Laws, Values, total, Lt, Le}

module _ {X : Type 0} {𝓥 : Values X} (L : Laws 𝓥) where
  open 𝓥 use {nil, plus, scale, less}

  pub weaken : {x y : X} → Lt 𝓥 x y → Le 𝓥 x y
  weaken {x} {y} h = L.less-asym x y h

  pub lt_irrefl : {x : X} → Lt 𝓥 x x → ⊥
  lt_irrefl {x} h = true-false h (L.less-asym x x h)

  pub le_refl : (x : X) → Le 𝓥 x x
  le_refl x = go (less x x) refl
    where
      go : (b : Bool) → less x x ≡ b → less x x ≡ false
      go true e = absurd (lt_irrefl e)
      go false e = e

  pub same-le : {x y : X} → x ≡ y → Le 𝓥 x y
  same-le {x} e = rw (← e) (le_refl x)

  pub le-le : {x y z : X} → Le 𝓥 x y → Le 𝓥 y z → Le 𝓥 x z
  le-le {x} {y} {z} p q = L.le_trans x y z p q

  pub lt-le-trans : {x y z : X} → Lt 𝓥 x y → Le 𝓥 y z → Lt 𝓥 x z
  lt-le-trans {x} {y} {z} p q = go (less x z) refl
    where
      go : (b : Bool) → less x z ≡ b → less x z ≡ true
      go true e = e
      go false e = true-false p (L.le_trans y z x q e)

  pub le_lt_trans : {x y z : X} → Le 𝓥 x y → Lt 𝓥 y z → Lt 𝓥 x z
  le_lt_trans {x} {y} {z} p q = go (less x z) refl
    where
      go : (b : Bool) → less x z ≡ b → less x z ≡ true
      go true e = e
      go false e = true-false q (L.le_trans z x y e p)

  pub plus-le : {x y : X} (z : X) → Le 𝓥 x y → Le 𝓥 (plus x z) (plus y z)
  plus-le {x} {y} z p = L.less-plus y x z ∙ p

  pub plus-lt : {x y : X} (z : X) → Lt 𝓥 x y → Lt 𝓥 (plus x z) (plus y z)
  plus-lt {x} {y} z p = L.less-plus x y z ∙ p

  less-plus-left : (x y z : X) → less (plus z x) (plus z y) ≡ less x y
  less-plus-left x y z = rw (L.plus_comm z x, L.plus_comm z y) (L.less-plus x y z)

  plus-mono : {x y z w : X} → Le 𝓥 x y → Le 𝓥 z w → Le 𝓥 (plus x z) (plus y w)
  plus-mono {x} {y} {z} {w} p q = le-le {y = plus y z} (L.less-plus y x z ∙ p) (less-plus-left w z y ∙ q)

  plus-strict-left : {x y z w : X} → Lt 𝓥 x y → Le 𝓥 z w → Lt 𝓥 (plus x z) (plus y w)
  plus-strict-left {x} {y} {z} {w} p q = lt-le-trans {y = plus y z} (L.less-plus x y z ∙ p) (less-plus-left w z y ∙ q)

  plus-strict-right : {x y z w : X} → Le 𝓥 x y → Lt 𝓥 z w → Lt 𝓥 (plus x z) (plus y w)
  plus-strict-right {x} {y} {z} {w} p q = le_lt_trans {y = plus y z} (L.less-plus y x z ∙ p) (less-plus-left z w y ∙ q)

  pub up : {a : ℤ} {x y : X} → pos 0 <ℤ a → Le 𝓥 x y → Le 𝓥 (scale a x) (scale a y)
  up {a} {x} {y} h p = L.less-up a y x h ∙ p

  pub up_strict : {a : ℤ} {x y : X} → pos 0 <ℤ a → Lt 𝓥 x y → Lt 𝓥 (scale a x) (scale a y)
  up_strict {a} {x} {y} h p = L.less-up a x y h ∙ p

  pub down : {a : ℤ} {x y : X} → a <ℤ pos 0 → Le 𝓥 x y → Le 𝓥 (scale a y) (scale a x)
  down {a} {x} {y} h p = L.less-down a x y h ∙ p

  pub down-strict : {a : ℤ} {x y : X} → a <ℤ pos 0 → Lt 𝓥 x y → Lt 𝓥 (scale a y) (scale a x)
  down-strict {a} {x} {y} h p = L.less-down a y x h ∙ p

  pub scale-nil : (a : ℤ) → scale a nil ≡ nil
  scale-nil a = ap (scale a) (sym (L.zero-scale nil)) ∙ sym (L.scale-times a (pos 0) nil)
      ∙ (rw (*ℤ-zero a) (L.zero-scale nil))

  pub scale-comm : (a b : ℤ) (x : X) → scale a (scale b x) ≡ scale b (scale a x)
  scale-comm a b x = sym (L.scale-times a b x) ∙ (rw (*ℤ_comm a b) (L.scale-times b a x))

  pub nil-plus : (x : X) → plus nil x ≡ x
  nil-plus x = L.plus_comm nil x ∙ L.plus_nil x

  -- what is added, by what comes of it
  pub gain-le : (x y : X) → Le 𝓥 x (plus x y) → Le 𝓥 nil y
  gain-le x y p = sym (less-plus-left y nil x) ∙ ap (λ z. less (plus x y) z) (L.plus_nil x) ∙ p

  pub gain-lt : (x y : X) → Lt 𝓥 (plus x y) x → Lt 𝓥 y nil
  gain-lt x y p = sym (less-plus-left y nil x) ∙ ap (λ z. less (plus x y) z) (L.plus_nil x) ∙ p

  -- ---- sums

  pub total-same : (k : ℕ) (f g : ℕ → X) → ((w : ℕ) → w < k → f w ≡ g w) → total 𝓥 k f ≡ total 𝓥 k g
  unfolding sum_by
  total-same zero f g h = refl
  total-same (suc k) f g h =
      ap (λ x. plus x (f k)) (total-same k f g (λ w p. h w (omega arith)))
      ∙ ap (λ x. plus (total 𝓥 k g) x) (h k (omega arith))

  pub scale-total : (a : ℤ) (k : ℕ) (f : ℕ → X) → scale a (total 𝓥 k f) ≡ total 𝓥 k (λ w. scale a (f w))
  unfolding sum_by
  scale-total a zero f = scale-nil a
  scale-total a (suc k) f = L.scale-plus a (total 𝓥 k f) (f k) ∙ ap (λ x. plus x (scale a (f k))) (scale-total a k f)

  pub sum-scale : (k : ℕ) (f : ℕ → ℤ) (x : X) → scale (sum k f) x ≡ total 𝓥 k (λ i. scale (f i) x)
  unfolding sum_by
  sum-scale zero f x = L.zero-scale x
  sum-scale (suc k) f x = L.plus-scale (sum k f) (f k) x ∙ ap (λ y. plus y (scale (f k) x)) (sum-scale k f x)

  regroup : (a b c d : X) → plus (plus a b) (plus c d) ≡ plus (plus a c) (plus b d)
  regroup a b c d = L.plus_assoc a b (plus c d)
      ∙ ap (plus a) (sym (L.plus_assoc b c d) ∙ ap (λ y. plus y d) (L.plus_comm b c) ∙ L.plus_assoc c b d)
      ∙ sym (L.plus_assoc a c (plus b d))

  pub total-plus : (k : ℕ) (f g : ℕ → X) → total 𝓥 k (λ i. plus (f i) (g i)) ≡ plus (total 𝓥 k f) (total 𝓥 k g)
  unfolding sum_by
  total-plus zero f g = sym (L.plus_nil nil)
  total-plus (suc k) f g = ap (λ x. plus x (plus (f k) (g k))) (total-plus k f g)
      ∙ regroup (total 𝓥 k f) (total 𝓥 k g) (f k) (g k)

  pub total-zero : (k : ℕ) (f : ℕ → X) → ((i : ℕ) → i < k → f i ≡ nil) → total 𝓥 k f ≡ nil
  unfolding sum_by
  total-zero zero f h = refl
  total-zero (suc k) f h =
      rw (h k (omega arith)) (L.plus_nil (total 𝓥 k f) ∙ total-zero k f (λ i p. h i (omega arith)))

  pub total-swap : (k j : ℕ) (f : ℕ → ℕ → X) → total 𝓥 k (λ a. total 𝓥 j (λ b. f a b))
      ≡ total 𝓥 j (λ b. total 𝓥 k (λ a. f a b))
  unfolding sum_by
  total-swap zero j f = sym (total-zero j (λ b. nil) (λ i h. refl))
  total-swap (suc k) j f = ap (λ x. plus x (total 𝓥 j (f k))) (total-swap k j f)
      ∙ sym (total-plus j (λ b. total 𝓥 k (λ a. f a b)) (f k))

  -- one term is other than 0
  pub total-one : (k r : ℕ) (f : ℕ → X) → r < k → ((i : ℕ) → i < k → i ≢ r → f i ≡ nil) → total 𝓥 k f ≡ f r
  unfolding sum_by
  total-one zero r f p h = let z : ⊥ = omega arith in absurd z
  total-one (suc k) r f p h = go (ℕ_discrete r k) (λ q. total-one k r f q (λ i s. h i (omega arith)))
    where
      go : Dec (r ≡ k) → (r < k → total 𝓥 k f ≡ f r) → plus (total 𝓥 k f) (f k) ≡ f r
      go (yes e) rest =
          rw (total-zero k f (λ i s. h i (omega arith) (λ q. let z : ⊥ = omega arith in z)))
          (nil-plus (f k) ∙ ap f (sym e))
      go (no n) rest = rw (rest (omega arith)) (rw (h k (omega arith) (λ q. n (sym q))) (L.plus_nil (f r)))

  pub total-le : (k : ℕ) (f g : ℕ → X) → ((w : ℕ) → w < k → Le 𝓥 (f w) (g w)) → Le 𝓥 (total 𝓥 k f) (total 𝓥 k g)
  unfolding sum_by
  total-le zero f g h = le_refl nil
  total-le (suc k) f g h = plus-mono (total-le k f g (λ w p. h w (omega arith))) (h k (omega arith))

  pub total-lt : (k r : ℕ) (f g : ℕ → X) → r < k → Lt 𝓥 (f r) (g r) →
      ((w : ℕ) → w < k → Le 𝓥 (f w) (g w)) → Lt 𝓥 (total 𝓥 k f) (total 𝓥 k g)
  unfolding sum_by
  total-lt zero r f g p s h = let z : ⊥ = omega arith in absurd z
  total-lt (suc k) r f g p s h = go (ℕ_discrete r k) (λ q. total-lt k r f g q s (λ w q. h w (omega arith)))
    where
      go : Dec (r ≡ k) → (r < k → Lt 𝓥 (total 𝓥 k f) (total 𝓥 k g)) →
          Lt 𝓥 (plus (total 𝓥 k f) (f k)) (plus (total 𝓥 k g) (g k))
      go (yes e) rest = plus-strict-right (total-le k f g (λ w q. h w (omega arith))) (rw e at s)
      go (no n) rest = plus-strict-left (rest (omega arith)) (h k (omega arith))
