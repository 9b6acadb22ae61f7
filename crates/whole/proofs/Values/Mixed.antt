-- A fraction e / k put for the small amount: the pair (p, q) then comes to k p + e q, over k.
--   mixed-le, mixed-lt     the order is kept where e times the difference of the small parts is at most k, less than k
--   total-parts            a sum of pairs, part by part
--   mixed-total            .. and put together
--   mixed-sum              a sum of multiples
use mathlib.Core.Path.{◌≡◌, refl, ◌∙◌, ap}
use mathlib.Core.Bool.{Bool, true, false}
use mathlib.Core.List.{[], ◌∷◌}
use Prim.Native.Nat.{ℕ, zero, suc}
use lib.IntN.{ℤ, pos, ◌+ℤ◌, ◌-ℤ◌, ◌*ℤ◌}
use lib.Signed.{lt_z, ◌≤ℤ◌, ◌<ℤ◌}
use Rattle.whole.specs.Sums.{sum, sum_by}
use Rattle.whole.specs.Values.{whole, lexicographic, pairs, mixed, total, Lt, Le}
use Rattle.whole.proofs.Bools.{true-false}
use Rattle.whole.proofs.Ring.Reify.{reify}
use Rattle.whole.proofs.Ring.Nonneg.{of_le, of_lt, slk, ◌⊞◌, ◌⊠◌}
use Rattle.whole.proofs.Ring.Tools.{le-at, lt_at, ring-at}
use Rattle.whole.proofs.Numbers.Order.{true→lt, false→le}
use Rattle.whole.proofs.Values.Beside.{Parts, parts}

module _ (e k : ℤ) (e-pos : pos 0 <ℤ e) where
  pub mixed-le : (x y : ℤ × ℤ) → pos 0 ≤ℤ k → (e *ℤ (x.1 -ℤ y.1)) ≤ℤ k → Le pairs x y → mixed e k x ≤ℤ mixed e k y
  mixed-le x y k-pos near h = go (lt_z x.0 y.0) refl
    where
      P : Parts whole whole x y
      P = parts {𝓐 = whole} {𝓑 = whole} x y h

      apart : (p q r s : ℤ) → p <ℤ r → (e *ℤ (q -ℤ s)) ≤ℤ k → (k *ℤ p +ℤ e *ℤ q) ≤ℤ (k *ℤ r +ℤ e *ℤ s)
      apart p q r s l n =
          le-at (e ∷ k ∷ p ∷ q ∷ r ∷ s ∷ []) (of_le k-pos ⊠ of_lt l ⊞ of_le n)
          (search reify depth 30 fits 20000) slk

      level : (p q r s : ℤ) → p ≤ℤ r → q ≤ℤ s → (k *ℤ p +ℤ e *ℤ q) ≤ℤ (k *ℤ r +ℤ e *ℤ s)
      level p q r s l m =
          le-at (e ∷ k ∷ p ∷ q ∷ r ∷ s ∷ []) (of_le k-pos ⊠ of_le l ⊞ of_lt e-pos ⊠ of_le m ⊞ of_le m)
          (search reify depth 30 fits 20000) slk

      go : (b : Bool) → lt_z x.0 y.0 ≡ b → mixed e k x ≤ℤ mixed e k y
      go true c = apart x.0 x.1 y.0 y.1 (true→lt {a = x.0} {b = y.0} c) near
      go false c =
          level x.0 x.1 y.0 y.1
          (false→le {a = x.0} {b = y.0} P.first) (false→le {a = x.1} {b = y.1} (P.second c))

  pub mixed-lt : (x y : ℤ × ℤ) → pos 0 ≤ℤ k → (e *ℤ (x.1 -ℤ y.1)) <ℤ k → Lt pairs x y → mixed e k x <ℤ mixed e k y
  mixed-lt x y k-pos near h = go (lt_z x.0 y.0) refl (lt_z y.0 x.0) refl h
    where
      apart : (p q r s : ℤ) → p <ℤ r → (e *ℤ (q -ℤ s)) <ℤ k → (k *ℤ p +ℤ e *ℤ q) <ℤ (k *ℤ r +ℤ e *ℤ s)
      apart p q r s l n =
          lt_at (e ∷ k ∷ p ∷ q ∷ r ∷ s ∷ []) (of_le k-pos ⊠ of_lt l ⊞ of_lt n)
          (search reify depth 30 fits 20000) slk

      level : (p q r s : ℤ) → p ≤ℤ r → q <ℤ s → (k *ℤ p +ℤ e *ℤ q) <ℤ (k *ℤ r +ℤ e *ℤ s)
      level p q r s l m =
          lt_at (e ∷ k ∷ p ∷ q ∷ r ∷ s ∷ [])
          (of_le k-pos ⊠ of_le l ⊞ of_lt e-pos ⊠ of_lt m ⊞ of_lt e-pos ⊞ of_lt m)
          (search reify depth 30 fits 20000) slk

      go : (b : Bool) → lt_z x.0 y.0 ≡ b → (c : Bool) → lt_z y.0 x.0 ≡ c →
          lexicographic b c (lt_z x.1 y.1) ≡ true → mixed e k x <ℤ mixed e k y
      go true c d f z = apart x.0 x.1 y.0 y.1 (true→lt {a = x.0} {b = y.0} c) near
      go false c true f z = true-false z refl
      go false c false f z =
          level x.0 x.1 y.0 y.1
          (false→le {a = x.0} {b = y.0} f) (true→lt {a = x.1} {b = y.1} z)

-- ---- sums

pub total-parts : (n : ℕ) (f : ℕ → ℤ × ℤ) → total pairs n f ≡ (sum n (λ i. (f i).0), sum n (λ i. (f i).1))
unfolding sum_by
total-parts zero f = refl
total-parts (suc n) f = ap (λ z. pairs.plus z (f n)) (total-parts n f)

pub mixed-sum : (e k : ℤ) (n : ℕ) (c x y : ℕ → ℤ) →
    k *ℤ sum n (λ j. c j *ℤ x j) +ℤ e *ℤ sum n (λ j. c j *ℤ y j) ≡ sum n (λ j. c j *ℤ (k *ℤ x j +ℤ e *ℤ y j))
unfolding sum_by
mixed-sum e k zero c x y = ring-at (e ∷ k ∷ []) (search reify depth 30) refl
mixed-sum e k (suc n) c x y =
    one e k (sum n (λ j. c j *ℤ x j)) (sum n (λ j. c j *ℤ y j)) (c n) (x n) (y n)
    ∙ ap (λ z. z +ℤ c n *ℤ (k *ℤ x n +ℤ e *ℤ y n)) (mixed-sum e k n c x y)
  where
    one : (e k a b c x y : ℤ) →
        k *ℤ (a +ℤ c *ℤ x) +ℤ e *ℤ (b +ℤ c *ℤ y) ≡ (k *ℤ a +ℤ e *ℤ b) +ℤ c *ℤ (k *ℤ x +ℤ e *ℤ y)
    one e k a b c x y = ring-at (e ∷ k ∷ a ∷ b ∷ c ∷ x ∷ y ∷ []) (search reify depth 30) refl

pub mixed-total : (e k : ℤ) (n : ℕ) (f : ℕ → ℤ × ℤ) → sum n (λ i. mixed e k (f i)) ≡ mixed e k (total pairs n f)
unfolding sum_by
mixed-total e k zero f = ring-at (e ∷ k ∷ []) (search reify depth 30) refl
mixed-total e k (suc n) f =
    ap (λ z. z +ℤ mixed e k (f n)) (mixed-total e k n f)
    ∙ one e k (total pairs n f).0 (total pairs n f).1 (f n).0 (f n).1
  where
    one : (e k a b x y : ℤ) → (k *ℤ a +ℤ e *ℤ b) +ℤ (k *ℤ x +ℤ e *ℤ y) ≡ k *ℤ (a +ℤ x) +ℤ e *ℤ (b +ℤ y)
    one e k a b x y = ring-at (e ∷ k ∷ a ∷ b ∷ x ∷ y ∷ []) (search reify depth 30) refl
