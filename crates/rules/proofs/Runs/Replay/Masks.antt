-- A set as a mask: its bits, and how large it is.
--   mask-small      below 2 to the number of bits
--   mask-same       equal sets have equal masks
--   bit_in_lem, bit_past    the bit of a number below k says whether it is in; the others are 0
--   mask-exactly    bit v of the basis mask is set exactly if v is a variable and basic
use mathlib.Core.Bool.{Bool, false, true}
use mathlib.Core.Logic.{◌↔◌}
use mathlib.Core.Option.{Option, none-ne-some, none, some}
use mathlib.Core.Path.{ap, ap₂, refl, sym, ◌∙◌, ◌≡◌}
use Prim.Native.Nat.{suc, zero, ℕ, ◌%◌, ◌*◌, ◌+◌, ◌-◌, ◌/◌, ◌<◌, ◌≤◌, ◌^◌}
use native.Mathlib.Decide.{dec_lt, ℕ_discrete}
use native.Mathlib.Nat.{add-mul-div_right, add-mul-mod_self_right, add-zero, div-eq_of_lt, one-le-pow, pow-le-pow_right}
use native.Mathlib.Nat.{mul_assoc, mul_comm, pow-suc, two-pow-succ}
use native.Mathlib.Omega.{arith}
use lib.Dec.{eqb}
use Rattle.whole.proofs.Bools.{true-false}
use Rattle.rules.specs.Runs.Replay.{basis_mask, bit_at, bit_in, is_basic, mask_below}
use Rattle.rules.specs.Step.{State, seat}

bit-most : (v : ℕ) (b : Bool) → bit_at v b ≤ 2 ^ v
bit-most v true = omega arith
bit-most v false = omega arith

pub mask-small : (k : ℕ) (f : ℕ → Bool) → mask_below k f < 2 ^ k
unfolding mask_below
mask-small zero f = omega arith
mask-small (suc k) f = let a = mask-small k f in let b = bit-most k (f k) in omega (arith, two-pow-succ k)

pub mask-same : (k : ℕ) (f g : ℕ → Bool) → ((v : ℕ) → v < k → f v ≡ g v) → mask_below k f ≡ mask_below k g
unfolding mask_below
mask-same zero f g h = refl
mask-same (suc k) f g h =
    ap₂ (λ m b. m + bit_at k b) (mask-same k f g (λ v l. h v (omega arith))) (h k (omega arith))

-- ---- the bits

two-some : (v : ℕ) → 0 < 2 ^ v
two-some v = let z = one-le-pow v 2 (omega arith) in omega (arith, z)

twice-last : (a b : ℕ) → a * b * 2 ≡ a * 2 * b
twice-last a b = mul_assoc a b 2 ∙ ap (λ x. a * x) (mul_comm b 2) ∙ sym (mul_assoc a 2 b)

-- d + 1 places further up
further : (v d : ℕ) → 2 ^ (v + suc d) ≡ 2 ^ d * 2 * 2 ^ v
further v zero = ap (λ e. 2 ^ e) (let z : v + 1 ≡ suc v = omega arith in z) ∙ pow-suc 2 v ∙ mul_comm (2 ^ v) 2
further v (suc d) = ap (λ e. 2 ^ e) (let z : v + suc (suc d) ≡ suc (v + suc d) = omega arith in z)
    ∙ pow-suc 2 (v + suc d) ∙ ap (λ x. x * 2) (further v d) ∙ twice-last (2 ^ d * 2) (2 ^ v)
    ∙ ap (λ x. x * 2 * 2 ^ v) (sym (pow-suc 2 d))

-- one bit on top changes none below it
bit-under : (m v d : ℕ) (b : Bool) → (m + bit_at (v + suc d) b) / 2 ^ v % 2 ≡ m / 2 ^ v % 2
bit-under m v d false = ap (λ x. x / 2 ^ v % 2) (add-zero m)
bit-under m v d true = ap (λ x. (m + x) / 2 ^ v % 2) (further v d)
    ∙ ap (λ x. x % 2) (add-mul-div_right m (2 ^ d * 2) (two-some v))
    ∙ add-mul-mod_self_right (m / 2 ^ v) (2 ^ d) 2

-- the bit itself, above a mask that is smaller
bit-here : (m v : ℕ) (b : Bool) → m < 2 ^ v → eqb ((m + bit_at v b) / 2 ^ v % 2) 1 ≡ b
bit-here m v false h = ap (λ x. eqb (x % 2) 1) (ap (λ x. x / 2 ^ v) (add-zero m) ∙ div-eq_of_lt h)
bit-here m v true h = ap (λ x. eqb (x % 2) 1)
    (ap (λ x. (m + x) / 2 ^ v) (let z : 2 ^ v ≡ 1 * 2 ^ v = omega arith in z)
    ∙ add-mul-div_right m 1 (two-some v) ∙ ap (λ x. x + 1) (div-eq_of_lt h))

bit_in_lem : (k : ℕ) (f : ℕ → Bool) (v : ℕ) → v < k → bit_in (mask_below k f) v ≡ f v
unfolding mask_below bit_in
bit_in_lem zero f v h = let z : ⊥ = omega arith in absurd z
bit_in_lem (suc k) f v h = go (ℕ_discrete v k) (λ l. bit_in_lem k f v l)
  where
    go : Dec (v ≡ k) → (v < k → eqb (mask_below k f / 2 ^ v % 2) 1 ≡ f v) →
        eqb ((mask_below k f + bit_at k (f k)) / 2 ^ v % 2) 1 ≡ f v
    go (yes e) rest = rw e (bit-here (mask_below k f) k (f k) (mask-small k f))
    go (no n) rest = let l : v < k = omega arith in
        let e : k ≡ v + suc (k - suc v) = omega arith in
        ap (λ j. eqb ((mask_below k f + bit_at j (f k)) / 2 ^ v % 2) 1) e
        ∙ ap (λ x. eqb x 1) (bit-under (mask_below k f) v (k - suc v) (f k)) ∙ rest l

bit_past : (k : ℕ) (f : ℕ → Bool) (v : ℕ) → k ≤ v → bit_in (mask_below k f) v ≡ false
unfolding bit_in
bit_past k f v h = ap (λ x. eqb (x % 2) 1) (div-eq_of_lt below)
  where
    below : mask_below k f < 2 ^ v
    below = let a = mask-small k f in let b = pow-le-pow_right {n = 2} (omega arith) h in omega (arith, a, b)

-- ---- the basis

module _ {X : Type 0} where
  basic-exactly : (o : Option X) → (is_basic o ≡ true) ↔ (o ≡ none)
  basic-exactly none = (λ e. refl, λ e. refl)
  basic-exactly (some x) = (λ e. true-false e refl, λ e. absurd (none-ne-some x (sym e)))

  pub mask-exactly : (N : ℕ) (s : State X) (v : ℕ) →
      (bit_in (basis_mask N s) v ≡ true) ↔ ((v < N) × (seat s v ≡ none))
  mask-exactly N s v = (λ e. go e (dec_lt v N), λ (h, e). bit_in_lem N _ v h ∙ (basic-exactly (seat s v)).1 e)
    where
      go : bit_in (basis_mask N s) v ≡ true → Dec (v < N) → (v < N) × (seat s v ≡ none)
      go e (yes h) = (h, (basic-exactly (seat s v)).0 (sym (bit_in_lem N _ v h) ∙ e))
      go e (no n) = true-false e (bit_past N _ v (omega arith))
