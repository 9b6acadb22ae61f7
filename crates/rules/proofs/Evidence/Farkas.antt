-- What multipliers mean: where they cancel in every column, none is below 0 and none at a missing limit, and the
-- surplus is above 0, or comes to 0 while a strict limit is named, no fractions meet rows and limits (Farkas).
--   rows-balance       a sum over all variables, of a solution of the rows, is a sum over the columns
--   farkas             any multipliers of that kind: `Unsatisfied`
use mathlib.Core.Bool.{Bool, false, true}
use mathlib.Core.List.{[], ◌∷◌}
use mathlib.Core.Logic.{◌≢◌, ◌⊎◌, inl, inr}
use mathlib.Core.Option.{Option, none, some}
use mathlib.Core.Path.{◌∙◌, ◌≡◌, ap, refl, sym}
use Prim.Native.Nat.{◌+◌, ◌<◌, ℕ}
use lib.IntN.{*ℤ_comm, *ℤ-zero, ◌*ℤ◌, ◌+ℤ◌, ◌-ℤ◌, pos, zero-*ℤ, ℤ}
use lib.Signed.{<ℤ_irrefl, <ℤ-≤ℤ_trans, ◌<ℤ◌, ◌≤ℤ◌}
use Rattle.whole.proofs.Values.Instances.{whole-laws}
use Rattle.whole.proofs.Ring.Nonneg.{◌⊞◌, ◌⊠◌, nn-nat, of_le, of_lt, slk}
use Rattle.whole.proofs.Numbers.Order.{*ℤ-pos-pos, Sign, le→false, lt→true, minus, null, plus, sign, true→lt}
use Rattle.whole.proofs.Numbers.Order.{≤ℤ-<ℤ-trans}
use Rattle.whole.proofs.Ring.Reify.{reify}
use Rattle.whole.proofs.Ring.Laws.{*ℤ-distribr}
use Rattle.whole.proofs.Numbers.Sums.{sum_mono, sum-parts, sum-plus, sum_same, sum-swap, sum-times, sum-zero}
use Rattle.whole.proofs.Ring.Tools.{le-at, lt_at, ring-at}
use Rattle.whole.proofs.Values.Laws.{total-lt}
use Rattle.whole.specs.Sums.{sum}
use Rattle.whole.specs.Values.{whole}
use Rattle.rules.specs.Evidence.{Above, Below, Clears, Rows, Unsatisfied, column, plain_of, surplus}
use Rattle.rules.specs.Limit.{Limit}
use Rattle.rules.specs.Problem.{Problem, vars}
use Rattle.rules.specs.Facts.Evidence.{Contradiction, Multiplier, Refutation, StrictNamed}

-- sum over v of y v times x v is the sum over the columns of column j times x j
pub rows-balance : {X : Type 0} (P : Problem X) (x y : ℕ → ℤ) → Rows whole P x →
    sum (vars P) (λ v. y v *ℤ x v) ≡ sum P.n (λ j. column P y j *ℤ x j)
unfolding column
rows-balance P x y R =
    sum-parts P.n P.m (λ v. y v *ℤ x v)
    ∙ ap (λ z. sum P.n (λ j. y j *ℤ x j) +ℤ z)
    (sum_same P.m (λ i. y (P.n + i) *ℤ x (P.n + i)) (λ i. sum P.n (λ j. term i j)) row
    ∙ sum-swap P.m P.n term
    ∙ sum_same P.n (λ j. sum P.m (λ i. term i j))
    (λ j. sum P.m (λ i. P.coefficient i j *ℤ y (P.n + i)) *ℤ x j) through)
    ∙ sym (sum-plus P.n (λ j. y j *ℤ x j) (λ j. sum P.m (λ i. P.coefficient i j *ℤ y (P.n + i)) *ℤ x j))
    ∙ sum_same P.n _ _ (λ j h. sym (*ℤ-distribr (y j) (sum P.m (λ i. P.coefficient i j *ℤ y (P.n + i))) (x j)))
  where
    term : ℕ → ℕ → ℤ
    term i j = (P.coefficient i j *ℤ y (P.n + i)) *ℤ x j

    around : (a b c : ℤ) → a *ℤ (b *ℤ c) ≡ (b *ℤ a) *ℤ c
    around a b c = ring-at (a ∷ b ∷ c ∷ []) (search reify depth 30) refl

    row : (i : ℕ) → i < P.m → y (P.n + i) *ℤ x (P.n + i) ≡ sum P.n (λ j. term i j)
    row i h = ap (λ z. y (P.n + i) *ℤ z) (R i h)
        ∙ sym (sum-times P.n (y (P.n + i)) (λ j. P.coefficient i j *ℤ x j))
        ∙ sum_same P.n _ _ (λ j k. around (y (P.n + i)) (P.coefficient i j) (x j))

    through : (j : ℕ) → j < P.n → sum P.m (λ i. term i j)
        ≡ sum P.m (λ i. P.coefficient i j *ℤ y (P.n + i)) *ℤ x j
    through j h = sum_same P.m _ _ (λ i k. *ℤ_comm (P.coefficient i j *ℤ y (P.n + i)) (x j))
        ∙ sum-times P.m (x j) (λ i. P.coefficient i j *ℤ y (P.n + i))
        ∙ *ℤ_comm (x j) (sum P.m (λ i. P.coefficient i j *ℤ y (P.n + i)))

-- ---- one limit, d times, with its multiplier k

weaker : (b : Bool) (x y : ℤ) → Clears b x y → x ≤ℤ y
weaker true x y h = le-at (x ∷ y ∷ []) (of_lt h) (search reify depth 30) slk
weaker false x y h = h

lower-bound : (o : Option Limit) (d x k : ℤ) → Above o d x → Multiplier o k → (d *ℤ (plain_of o *ℤ k)) ≤ℤ (k *ℤ x)
unfolding plain_of
lower-bound none d x k h m = rw (m.missing refl) (le-at (d ∷ x ∷ []) (nn-nat 0) (search reify depth 30) slk)
lower-bound (some l) d x k h m = go l.plain (weaker l.strict (d *ℤ l.plain) x h)
  where
    go : (a : ℤ) → (d *ℤ a) ≤ℤ x → (d *ℤ (a *ℤ k)) ≤ℤ (k *ℤ x)
    go a q = le-at (d ∷ a ∷ x ∷ k ∷ []) (of_le q ⊠ of_le m.least) (search reify depth 30) slk

upper-bound : (o : Option Limit) (d x k : ℤ) → Below o d x → Multiplier o k → (k *ℤ x) ≤ℤ (d *ℤ (plain_of o *ℤ k))
unfolding plain_of
upper-bound none d x k h m = rw (m.missing refl) (le-at (d ∷ x ∷ []) (nn-nat 0) (search reify depth 30) slk)
upper-bound (some u) d x k h m = go u.plain (weaker u.strict x (d *ℤ u.plain) h)
  where
    go : (a : ℤ) → x ≤ℤ (d *ℤ a) → (k *ℤ x) ≤ℤ (d *ℤ (a *ℤ k))
    go a q = le-at (d ∷ a ∷ x ∷ k ∷ []) (of_le q ⊠ of_le m.least) (search reify depth 30) slk

above_zero : (k : ℤ) → pos 0 ≤ℤ k → k ≢ pos 0 → pos 0 <ℤ k
above_zero k h n = go (sign k)
  where
    go : Sign k → pos 0 <ℤ k
    go (plus p) = p
    go (null e) = absurd (n e)
    go (minus p) = absurd (<ℤ_irrefl (<ℤ-≤ℤ_trans p h))

lower-strict : (o : Option Limit) (d x k : ℤ) → Above o d x → Multiplier o k → StrictNamed o k →
    (d *ℤ (plain_of o *ℤ k)) <ℤ (k *ℤ x)
unfolding plain_of
lower-strict o d x k h m (l, e, s, n) = rw e (go l.plain (rw s at (rw e at h)) (above_zero k m.least n))
  where
    go : (a : ℤ) → (d *ℤ a) <ℤ x → pos 0 <ℤ k → (d *ℤ (a *ℤ k)) <ℤ (k *ℤ x)
    go a q p = lt_at (d ∷ a ∷ x ∷ k ∷ []) (of_lt q ⊠ of_lt p ⊞ of_lt q ⊞ of_lt p) (search reify depth 30) slk

upper-strict : (o : Option Limit) (d x k : ℤ) → Below o d x → Multiplier o k → StrictNamed o k →
    (k *ℤ x) <ℤ (d *ℤ (plain_of o *ℤ k))
unfolding plain_of
upper-strict o d x k h m (u, e, s, n) = rw e (go u.plain (rw s at (rw e at h)) (above_zero k m.least n))
  where
    go : (a : ℤ) → x <ℤ (d *ℤ a) → pos 0 <ℤ k → (k *ℤ x) <ℤ (d *ℤ (a *ℤ k))
    go a q p = lt_at (d ∷ a ∷ x ∷ k ∷ []) (of_lt q ⊠ of_lt p ⊞ of_lt q ⊞ of_lt p) (search reify depth 30) slk

-- ---- the two limits of a variable

module _ (d l a u b z : ℤ) where
  difference : (d *ℤ (l *ℤ a)) ≤ℤ (a *ℤ z) → (b *ℤ z) ≤ℤ (d *ℤ (u *ℤ b)) →
      (d *ℤ (l *ℤ a -ℤ u *ℤ b)) ≤ℤ ((a -ℤ b) *ℤ z)
  difference h k = le-at (d ∷ l ∷ a ∷ u ∷ b ∷ z ∷ []) (of_le h ⊞ of_le k) (search reify depth 30) slk

  difference_low : (d *ℤ (l *ℤ a)) <ℤ (a *ℤ z) → (b *ℤ z) ≤ℤ (d *ℤ (u *ℤ b)) →
      (d *ℤ (l *ℤ a -ℤ u *ℤ b)) <ℤ ((a -ℤ b) *ℤ z)
  difference_low h k = lt_at (d ∷ l ∷ a ∷ u ∷ b ∷ z ∷ []) (of_lt h ⊞ of_le k) (search reify depth 30) slk

  difference-high : (d *ℤ (l *ℤ a)) ≤ℤ (a *ℤ z) → (b *ℤ z) <ℤ (d *ℤ (u *ℤ b)) →
      (d *ℤ (l *ℤ a -ℤ u *ℤ b)) <ℤ ((a -ℤ b) *ℤ z)
  difference-high h k = lt_at (d ∷ l ∷ a ∷ u ∷ b ∷ z ∷ []) (of_le h ⊞ of_lt k) (search reify depth 30) slk

-- ---- all of them

module _ (P : Problem Limit) (word : ℤ) (lo up : ℕ → ℤ) (S : Refutation P word lo up) where
  pub farkas : Unsatisfied P
  unfolding surplus
  farkas d x M = go S.contradiction
    where
      term : ℕ → ℤ
      term v = plain_of (P.lower v) *ℤ lo v -ℤ plain_of (P.upper v) *ℤ up v

      -- what the row sums to, times y
      share : ℕ → ℤ
      share v = (lo v -ℤ up v) *ℤ x v

      low : (v : ℕ) → v < vars P → (d *ℤ (plain_of (P.lower v) *ℤ lo v)) ≤ℤ (lo v *ℤ x v)
      low v h = lower-bound (P.lower v) d (x v) (lo v) (M.lowers v h) (S.lowers v h)

      high : (v : ℕ) → v < vars P → (up v *ℤ x v) ≤ℤ (d *ℤ (plain_of (P.upper v) *ℤ up v))
      high v h = upper-bound (P.upper v) d (x v) (up v) (M.uppers v h) (S.uppers v h)

      each : (v : ℕ) → v < vars P → (d *ℤ term v) ≤ℤ share v
      each v h = difference d (plain_of (P.lower v)) (lo v) (plain_of (P.upper v)) (up v) (x v) (low v h) (high v h)

      one : (v : ℕ) → v < vars P → StrictNamed (P.lower v) (lo v) ⊎ StrictNamed (P.upper v) (up v) →
          (d *ℤ term v) <ℤ share v
      one v h (inl s) = difference_low d (plain_of (P.lower v)) (lo v) (plain_of (P.upper v)) (up v) (x v)
          (lower-strict (P.lower v) d (x v) (lo v) (M.lowers v h) (S.lowers v h) s) (high v h)
      one v h (inr s) = difference-high d (plain_of (P.lower v)) (lo v) (plain_of (P.upper v)) (up v) (x v) (low v h)
          (upper-strict (P.upper v) d (x v) (up v) (M.uppers v h) (S.uppers v h) s)

      none_left : sum (vars P) share ≡ pos 0
      none_left = rows-balance P x (λ v. lo v -ℤ up v) M.rows
          ∙ sum-zero P.n (λ j. column P (λ v. lo v -ℤ up v) j *ℤ x j)
          (λ j h. ap (λ z. z *ℤ x j) (S.cancels j h) ∙ zero-*ℤ (x j))

      weak : (d *ℤ sum (vars P) term) ≤ℤ sum (vars P) share
      weak = rw (← sum-times (vars P) d term) (sum_mono (vars P) each)

      strong : (v : ℕ) → v < vars P → StrictNamed (P.lower v) (lo v) ⊎ StrictNamed (P.upper v) (up v) →
          (d *ℤ sum (vars P) term) <ℤ sum (vars P) share
      strong v h s = rw (← sum-times (vars P) d term)
          (true→lt (total-lt whole-laws (vars P) v (λ v. d *ℤ term v) share h (lt→true (one v h s))
          (λ w q. le→false (each w q))))

      go : Contradiction P lo up → ⊥
      go (inl p) = <ℤ_irrefl (≤ℤ-<ℤ-trans (rw none_left at weak) (*ℤ-pos-pos M.positive p))
      go (inr (z, (v, h, s))) = <ℤ_irrefl (rw (z, *ℤ-zero d) at (rw none_left at (strong v h s)))
