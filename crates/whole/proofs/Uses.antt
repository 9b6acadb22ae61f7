-- A use of each tool that a newcomer can copy. Uses that need code stand in the crate `samples`.
use mathlib.Core.Path.{◌≡◌, refl}
use mathlib.Core.List.{List, [], ◌∷◌}
use Prim.Native.Nat.{ℕ, ◌<◌}
use native.Mathlib.Omega.{arith}
use lib.ListN.{get_or}
use lib.Signed.{◌≤ℤ◌, ◌<ℤ◌}
use lib.IntN.{ℤ, pos, ◌+ℤ◌, ◌*ℤ◌}
use Rattle.whole.specs.Sums.{sum}
use Rattle.whole.specs.Divisors.{gcd, gcd_turns}
use Rattle.whole.proofs.Ring.Reify.{reify}
use Rattle.whole.proofs.Ring.Nonneg.{of_le, of_lt, of_eq, ◌⊞◌, ◌⊠◌, slk, blw, contra}
use Rattle.whole.proofs.Ring.Tools.{ring-at, eq-by, of-≡, ◌⊞₀◌, ◌⊠₀◌, le-at}
use Rattle.whole.proofs.Ring.Omega.{out, le-ω}
use Rattle.whole.proofs.Numbers.Sums.{sum_mono}

-- an identity; the atoms may be reads and fields
reads : (l : List ℤ) (i : ℕ) (r : record { common : ℤ; value : ℤ }) →
    (get_or l i (pos 0) +ℤ r.common) *ℤ r.value ≡ r.value *ℤ r.common +ℤ r.value *ℤ get_or l i (pos 0)
reads l i r = ring-at (get_or l i (pos 0) ∷ r.common ∷ r.value ∷ []) (search reify depth 30) refl

-- one pivot substitution: from D x = p y + q z and E w = r x + s z, (E D) w = (r p) y + (r q + s D) z
substituted : (D x p y q z E w r s : ℤ) → D *ℤ x ≡ p *ℤ y +ℤ q *ℤ z → E *ℤ w ≡ r *ℤ x +ℤ s *ℤ z →
    (E *ℤ D) *ℤ w ≡ r *ℤ p *ℤ y +ℤ (r *ℤ q +ℤ s *ℤ D) *ℤ z
substituted D x p y q z E w r s h k = eq-by (D ∷ x ∷ p ∷ y ∷ q ∷ z ∷ E ∷ w ∷ r ∷ s ∷ [])
    (r ⊠₀ of-≡ h ⊞₀ D ⊠₀ of-≡ k) (search reify depth 30 fits 20000) refl

-- an order from orders, by a product of two of them
scaled : (a v y : ℤ) → pos 0 ≤ℤ a → y ≤ℤ v → (a *ℤ y) ≤ℤ (a *ℤ v)
scaled a v y h k = le-at (a ∷ v ∷ y ∷ []) (of_le h ⊠ of_le k) (search reify depth 30) slk

-- one blocked row: D y = Σ a_j y_j, each a_j y_j ≤ a_j v_j, and Σ a_j v_j < D lo bar lo ≤ y. The sums are atoms
blocked : (n : ℕ) (D y lo : ℤ) (a v x : ℕ → ℤ) → pos 0 <ℤ D → D *ℤ y ≡ sum n (λ j. a j *ℤ x j) →
    ((j : ℕ) → j < n → (a j *ℤ x j) ≤ℤ (a j *ℤ v j)) → sum n (λ j. a j *ℤ v j) <ℤ (D *ℤ lo) → lo ≤ℤ y → ⊥
blocked n D y lo a v x d e s l h = contra (D ∷ y ∷ lo ∷ sum n (λ j. a j *ℤ x j) ∷ sum n (λ j. a j *ℤ v j) ∷ [])
    (of_eq e ⊞ of_lt l ⊞ of_le (sum_mono n s) ⊞ of_lt d ⊠ of_le h ⊞ of_le h) (search reify depth 30 fits 20000) blw

-- where nobody sees the combination, omega finds it
found : (a b c : ℤ) → a ≤ℤ b → (b +ℤ b) ≤ℤ (c +ℤ a) → b ≤ℤ c
found a b c h k = le-ω (a ∷ b ∷ c ∷ []) (search reify depth 30) (omega (
  arith,
  out (a ∷ b ∷ c ∷ []) (of_le h) (search reify depth 30),
  out (a ∷ b ∷ c ∷ []) (of_le k) (search reify depth 30),
))

-- the divisor computes on numbers of any size
divisor : gcd 1071000000000000000000 462000000000000000000 ≡ 21000000000000000000
unfolding gcd gcd_turns
divisor = refl
