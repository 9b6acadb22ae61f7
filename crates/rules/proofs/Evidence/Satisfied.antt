-- Pairs and actual fractions: a fraction e / k put for the small amount makes pairs fractions.
--   satisfied-by             pairs whose small parts are within K: every e / k up to 1 / (K + 1)
--   solution-satisfied       what is right, with such small parts
--   satisfied                the checker's pairs: up to 1 / 17,179,869,177
--   low-passes, high-passes  where pairs meet the run's problem, they pass the checker's limits, which are weaker
--   pairs-satisfied          so some fractions satisfy the problem
--   pairs_of, unmet-none     fractions that satisfy the problem are pairs that meet the run's; so none where none
use mathlib.Core.Path.{◌≡◌, refl, sym, ◌∙◌, ap, ap₂, subst}
use mathlib.Core.Bool.{Bool, true, false}
use mathlib.Core.List.{[], ◌∷◌}
use mathlib.Core.Option.{Option, none, some}
use Prim.Native.Nat.{ℕ, zero, suc, ◌+◌, ◌<◌}
use native.Mathlib.Numerals.{add-one}
use native.Mathlib.Omega.{arith}
use native.Mathlib.Decide.{ℕ_discrete}
use lib.Dec.{le→leb}
use lib.IntN.{ℤ, negsuc, neg_ℤ, pos, *ℤ-zero, ◌+ℤ◌, ◌-ℤ◌, ◌*ℤ◌, nat_abs}
use lib.Signed.{≤ℤ_refl, <ℤ_irrefl, <ℤ-≤ℤ_trans, lt_z_yes, ◌≤ℤ◌, ◌<ℤ◌}
use Rattle.whole.proofs.Ring.Nonneg.{of_le, of_lt, slk, ◌⊞◌, ◌⊠◌}
use Rattle.whole.proofs.Numbers.Order.{*ℤ-pos-pos, <ℤ→≤ℤ, false→le, le→false, lt→true}
use Rattle.whole.proofs.Ring.Reify.{reify}
use Rattle.whole.proofs.Numbers.Sizes.{within-hi, within-lo}
use Rattle.whole.proofs.Numbers.Sums.{sum-zero}
use Rattle.whole.proofs.Ring.Tools.{lt_at, ring-at}
use Rattle.whole.proofs.Values.Laws.{le_lt_trans, lt-le-trans}
use Rattle.whole.specs.Numbers.{Within}
use Rattle.whole.specs.Values.{Le, Lt, mixed, whole, pairs}
use Rattle.whole.proofs.Values.Beside.{beside-joined, pairs-laws}
use Rattle.whole.proofs.Values.Mixed.{mixed-le, mixed-lt, mixed-sum, total-parts}
use Rattle.whole.specs.Sums.{sum}
use Rattle.whole.proofs.Ring.Laws.{*ℤ-idl}
use Rattle.rules.specs.Evidence.{Satisfiable, AtLeast, AtMost, Meets, Rows, Unmet, Above, Below, Clears}
use Rattle.rules.specs.Evidence.{Satisfies, Unsatisfied}
use Rattle.rules.specs.Problem.{Problem, vars, inner, mapped}
use Rattle.rules.specs.Sizes.{largest_small}
use Rattle.rules.specs.Limit.{Limit, inset, lower_pair, upper_pair}
use Rattle.rules.specs.Facts.Evidence.{Numerators, Passes, Solution}

-- ---- the algebra: S is the largest small part, and e (S + 1) is at most k

near-low : (e k y S : ℤ) → pos 0 <ℤ e → neg_ℤ S ≤ℤ y → (e *ℤ (S +ℤ pos 1)) ≤ℤ k → (e *ℤ (pos 0 -ℤ y)) <ℤ k
near-low e k y S h l m =
    lt_at (e ∷ k ∷ y ∷ S ∷ []) (of_le m ⊞ of_lt h ⊠ of_le l ⊞ of_le l ⊞ of_lt h)
    (search reify depth 30 fits 20000) slk

near-high : (e k y S : ℤ) → pos 0 <ℤ e → y ≤ℤ S → (e *ℤ (S +ℤ pos 1)) ≤ℤ k → (e *ℤ (y -ℤ pos 0)) <ℤ k
near-high e k y S h l m =
    lt_at (e ∷ k ∷ y ∷ S ∷ []) (of_le m ⊞ of_lt h ⊠ of_le l ⊞ of_le l ⊞ of_lt h)
    (search reify depth 30 fits 20000) slk

k-above : (e k S : ℤ) → pos 0 <ℤ e → pos 0 ≤ℤ S → (e *ℤ (S +ℤ pos 1)) ≤ℤ k → pos 0 <ℤ k
k-above e k S h l m =
    lt_at (e ∷ k ∷ S ∷ []) (of_le m ⊞ of_lt h ⊠ of_le l ⊞ of_le l ⊞ of_lt h)
    (search reify depth 30 fits 20000) slk

limit-mixed : (e k d l : ℤ) → k *ℤ (d *ℤ l) +ℤ e *ℤ pos 0 ≡ (k *ℤ d) *ℤ l
limit-mixed e k d l = ring-at (e ∷ k ∷ d ∷ l ∷ []) (search reify depth 30) refl

-- pairs whose small parts are within K, for any K
module _ (P : Problem Limit) (d : ℤ) (x y : ℕ → ℤ) (K : ℕ) (d-pos : pos 0 <ℤ d)
    (smalls : (v : ℕ) → v < vars P → Within (y v) K) (rows : Rows whole P x) (small-rows : Rows whole P y)
    (lowers : (v : ℕ) → v < vars P → (l : Limit) → P.lower v ≡ some l →
    Passes l.strict (d *ℤ l.plain, pos 0) (x v, y v))
    (uppers : (v : ℕ) → v < vars P → (u : Limit) → P.upper v ≡ some u →
    Passes u.strict (x v, y v) (d *ℤ u.plain, pos 0))
    (e k : ℤ) (e-pos : pos 0 <ℤ e) (tiny : (e *ℤ pos (suc K)) ≤ℤ k) where
  abbrev S : ℤ
  S = pos K

  tiny-is : (e *ℤ (S +ℤ pos 1)) ≤ℤ k
  tiny-is = subst (λ n. (e *ℤ n) ≤ℤ k) (ap pos (sym (add-one K))) tiny

  k-pos : pos 0 <ℤ k
  k-pos = k-above e k S e-pos (record { le = le→leb 0 K (omega arith) }) tiny-is

  abbrev z : ℕ → ℤ
  z v = mixed e k (x v, y v)

  low : (v : ℕ) → v < vars P → (o : Option Limit) →
      ((l : Limit) → o ≡ some l → Passes l.strict (d *ℤ l.plain, pos 0) (x v, y v)) → Above o (k *ℤ d) (z v)
  low v h none f = tt
  low v h (some l) f = go l.strict (f l refl)
    where
      near : (e *ℤ (pos 0 -ℤ y v)) <ℤ k
      near = near-low e k (y v) S e-pos (within-lo (smalls v h)) tiny-is

      go : (b : Bool) → Passes b (d *ℤ l.plain, pos 0) (x v, y v) → Clears b ((k *ℤ d) *ℤ l.plain) (z v)
      go true m = subst (λ a. a <ℤ z v) (limit-mixed e k d l.plain)
          (mixed-lt e k e-pos (d *ℤ l.plain, pos 0) (x v, y v) (<ℤ→≤ℤ k-pos) near m)
      go false m = subst (λ a. a ≤ℤ z v) (limit-mixed e k d l.plain)
          (mixed-le e k e-pos (d *ℤ l.plain, pos 0) (x v, y v) (<ℤ→≤ℤ k-pos) (<ℤ→≤ℤ near) m)

  high : (v : ℕ) → v < vars P → (o : Option Limit) →
      ((u : Limit) → o ≡ some u → Passes u.strict (x v, y v) (d *ℤ u.plain, pos 0)) → Below o (k *ℤ d) (z v)
  high v h none f = tt
  high v h (some u) f = go u.strict (f u refl)
    where
      near : (e *ℤ (y v -ℤ pos 0)) <ℤ k
      near = near-high e k (y v) S e-pos (within-hi (smalls v h)) tiny-is

      go : (b : Bool) → Passes b (x v, y v) (d *ℤ u.plain, pos 0) → Clears b (z v) ((k *ℤ d) *ℤ u.plain)
      go true m = subst (λ a. z v <ℤ a) (limit-mixed e k d u.plain)
          (mixed-lt e k e-pos (x v, y v) (d *ℤ u.plain, pos 0) (<ℤ→≤ℤ k-pos) near m)
      go false m = subst (λ a. z v ≤ℤ a) (limit-mixed e k d u.plain)
          (mixed-le e k e-pos (x v, y v) (d *ℤ u.plain, pos 0) (<ℤ→≤ℤ k-pos) (<ℤ→≤ℤ near) m)

  satisfied-by : Satisfies P (k *ℤ d) z
  satisfied-by = record {
    positive = *ℤ-pos-pos k-pos d-pos;
    rows = λ i h. ap₂ (λ a b. k *ℤ a +ℤ e *ℤ b) (rows i h) (small-rows i h)
        ∙ mixed-sum e k P.n (P.coefficient i) x y;
    lowers = λ v h. low v h (P.lower v) (lowers v h);
    uppers = λ v h. high v h (P.upper v) (uppers v h);
  }

-- what is right, with small parts within K
pub solution-satisfied : (P : Problem Limit) (d : ℤ) (x y : ℕ → ℤ) (K : ℕ) → Solution P d x y →
    ((v : ℕ) → v < vars P → Within (y v) K) → (e k : ℤ) → pos 0 <ℤ e → (e *ℤ pos (suc K)) ≤ℤ k →
    Satisfies P (k *ℤ d) (λ v. mixed e k (x v, y v))
solution-satisfied P d x y K S small =
    satisfied-by P d x y K (<ℤ-≤ℤ_trans (lt_z_yes {a = pos 0} {b = pos 1} tt) S.least) small
    S.rows S.small-rows S.lowers S.uppers

pub satisfied : (P : Problem Limit) (d : ℤ) (x y : ℕ → ℤ) → Numerators P d x y → (e k : ℤ) → pos 0 <ℤ e →
    (e *ℤ pos (suc largest_small)) ≤ℤ k → Satisfies P (k *ℤ d) (λ v. mixed e k (x v, y v))
satisfied P d x y Q = solution-satisfied P d x y largest_small Q.right Q.smalls

-- ---- what the run's pairs meet, the checker's limits hold of

-- both halves solve the rows
pub row-parts : (P : Problem Limit) (d : ℤ) (z : ℕ → ℤ × ℤ) → Meets pairs (inner P) d z →
    Rows whole P (λ v. (z v).0) × Rows whole P (λ v. (z v).1)
row-parts P d z M = (λ i h. ap (λ x. x.0) (both i h), λ i h. ap (λ x. x.1) (both i h))
  where
    both : (i : ℕ) → i < P.m → z (P.n + i)
        ≡ (sum P.n (λ j. P.coefficient i j *ℤ (z j).0), sum P.n (λ j. P.coefficient i j *ℤ (z j).1))
    both i h = M.rows i h ∙ total-parts P.n (λ j. pairs.scale (P.coefficient i j) (z j))

pair-up : (d p : ℤ) → pos 0 <ℤ d → Lt pairs (p, pos 0) (p, d *ℤ pos 1)
pair-up d p h = rw (le→false {a = p} {b = p} (≤ℤ_refl p)) (lt→true (one d h))
  where
    one : (d : ℤ) → pos 0 <ℤ d → pos 0 <ℤ (d *ℤ pos 1)
    one d h = lt_at (d ∷ []) (of_lt h) (search reify depth 30) slk

pair-down : (d p : ℤ) → pos 0 <ℤ d → Lt pairs (p, d *ℤ negsuc 0) (p, pos 0)
pair-down d p h = rw (le→false {a = p} {b = p} (≤ℤ_refl p)) (lt→true (one d h))
  where
    one : (d : ℤ) → pos 0 <ℤ d → (d *ℤ negsuc 0) <ℤ pos 0
    one d h = lt_at (d ∷ []) (of_lt h) (search reify depth 30) slk

module _ (P : Problem Limit) (d : ℤ) (z : ℕ → ℤ × ℤ) (M : Meets pairs (inner P) d z) where
  pub low-passes : (v : ℕ) → v < vars P → (l : Limit) → P.lower v ≡ some l →
      Passes l.strict (d *ℤ l.plain, pos 0) (z v)
  unfolding mapped
  low-passes v h l e = go l.strict (rw e at (M.lowers v h))
    where
      go : (b : Bool) → Le pairs (d *ℤ l.plain, d *ℤ inset b) (z v) → Passes b (d *ℤ l.plain, pos 0) (z v)
      go true m = lt-le-trans pairs-laws {x = (d *ℤ l.plain, pos 0)} {y = (d *ℤ l.plain, d *ℤ pos 1)} {z = z v}
          (pair-up d (d *ℤ l.plain) M.positive) m
      go false m = subst (λ q. Le pairs (d *ℤ l.plain, q) (z v)) (*ℤ-zero d) m

  pub high-passes : (v : ℕ) → v < vars P → (u : Limit) → P.upper v ≡ some u →
      Passes u.strict (z v) (d *ℤ u.plain, pos 0)
  unfolding mapped
  high-passes v h u e = go u.strict (rw e at (M.uppers v h))
    where
      go : (b : Bool) → Le pairs (z v) (d *ℤ u.plain, d *ℤ neg_ℤ (inset b)) → Passes b (z v) (d *ℤ u.plain, pos 0)
      go true m = le_lt_trans pairs-laws {x = z v} {y = (d *ℤ u.plain, d *ℤ negsuc 0)} {z = (d *ℤ u.plain, pos 0)} m
          (pair-down d (d *ℤ u.plain) M.positive)
      go false m = subst (λ q. Le pairs (z v) (d *ℤ u.plain, q)) (*ℤ-zero d) m

-- some number is beyond none of the first n
bounded : (n : ℕ) (f : ℕ → ℤ) → (K : ℕ) × ((v : ℕ) → v < n → Within (f v) K)
bounded zero f = (0, λ v h. let z : ⊥ = omega arith in absurd z)
bounded (suc n) f = grow (bounded n f)
  where
    grow : (K : ℕ) × ((v : ℕ) → v < n → Within (f v) K) → (K : ℕ) × ((v : ℕ) → v < suc n → Within (f v) K)
    grow (K, g) = (K + nat_abs (f n), λ v h. at v h (ℕ_discrete v n))
      where
        at : (v : ℕ) → v < suc n → Dec (v ≡ n) → Within (f v) (K + nat_abs (f n))
        at v h (yes e) = rw e (record { within = omega arith })
        at v h (no d) = record { within = omega (arith, (g v (omega arith)).within) }

pub pairs-satisfied : (P : Problem Limit) (d : ℤ) (z : ℕ → ℤ × ℤ) → Meets pairs (inner P) d z → Satisfiable P
pairs-satisfied P d z M = go (bounded (vars P) (λ v. (z v).1))
  where
    go : (K : ℕ) × ((v : ℕ) → v < vars P → Within (z v).1 K) → Satisfiable P
    go (K, small) = (
      pos (suc K) *ℤ d,
      (λ v. mixed (pos 1) (pos (suc K)) (z v)),
      satisfied-by P d (λ v. (z v).0) (λ v. (z v).1) K M.positive small
          (row-parts P d z M).0 (row-parts P d z M).1
          (low-passes P d z M) (high-passes P d z M)
          (pos 1) (pos (suc K)) (lt_z_yes tt) (one-times K),
    )
      where
        one-times : (K : ℕ) → (pos 1 *ℤ pos (suc K)) ≤ℤ pos (suc K)
        one-times K = subst (λ z. z ≤ℤ pos (suc K)) (sym (*ℤ-idl (pos (suc K)))) (≤ℤ_refl (pos (suc K)))

-- ---- fractions that satisfy the problem are pairs with no small part that meet the run's

low-pair : (d x : ℤ) (o : Option Limit) → Above o d x → AtLeast pairs (mapped lower_pair o) d (x, pos 0)
unfolding mapped
low-pair d x none h = tt
low-pair d x (some l) h = go l.strict h
  where
    go : (b : Bool) → Clears b (d *ℤ l.plain) x → Le pairs (d *ℤ l.plain, d *ℤ inset b) (x, pos 0)
    go true h = beside-joined {𝓐 = whole} {𝓑 = whole} (d *ℤ l.plain, d *ℤ pos 1) (x, pos 0) (record {
      first = le→false {a = d *ℤ l.plain} {b = x} (<ℤ→≤ℤ h);
      second = λ e. absurd (<ℤ_irrefl (<ℤ-≤ℤ_trans h (false→le {a = x} {b = d *ℤ l.plain} e)));
    })
    go false h = beside-joined {𝓐 = whole} {𝓑 = whole} (d *ℤ l.plain, d *ℤ pos 0) (x, pos 0) (record {
      first = le→false {a = d *ℤ l.plain} {b = x} h;
      second = λ e. le→false {a = d *ℤ pos 0} {b = pos 0} (rw (*ℤ-zero d) (≤ℤ_refl (pos 0)));
    })

high-pair : (d x : ℤ) (o : Option Limit) → Below o d x → AtMost pairs (mapped upper_pair o) d (x, pos 0)
unfolding mapped
high-pair d x none h = tt
high-pair d x (some u) h = go u.strict h
  where
    go : (b : Bool) → Clears b x (d *ℤ u.plain) → Le pairs (x, pos 0) (d *ℤ u.plain, d *ℤ neg_ℤ (inset b))
    go true h = beside-joined {𝓐 = whole} {𝓑 = whole} (x, pos 0) (d *ℤ u.plain, d *ℤ negsuc 0) (record {
      first = le→false {a = x} {b = d *ℤ u.plain} (<ℤ→≤ℤ h);
      second = λ e. absurd (<ℤ_irrefl (<ℤ-≤ℤ_trans h (false→le {a = d *ℤ u.plain} {b = x} e)));
    })
    go false h = beside-joined {𝓐 = whole} {𝓑 = whole} (x, pos 0) (d *ℤ u.plain, d *ℤ pos 0) (record {
      first = le→false {a = x} {b = d *ℤ u.plain} h;
      second = λ e. le→false {a = pos 0} {b = d *ℤ pos 0} (rw (*ℤ-zero d) (≤ℤ_refl (pos 0)));
    })

pairs_of : (P : Problem Limit) (d : ℤ) (x : ℕ → ℤ) → Satisfies P d x → Meets pairs (inner P) d (λ v. (x v, pos 0))
pairs_of P d x F = record {
  positive = F.positive;
  rows = λ i h. ap₂ (λ a b. (a, b)) (F.rows i h)
      (sym (sum-zero P.n (λ j. P.coefficient i j *ℤ pos 0) (λ j k. *ℤ-zero (P.coefficient i j))))
      ∙ sym (total-parts P.n (λ j. pairs.scale (P.coefficient i j) (x j, pos 0)));
  lowers = λ v h. low-pair d (x v) (P.lower v) (F.lowers v h);
  uppers = λ v h. high-pair d (x v) (P.upper v) (F.uppers v h);
}

pub unmet-none : (P : Problem Limit) → Unmet pairs (inner P) → Unsatisfied P
unmet-none P U d x F = U d (λ v. (x v, pos 0)) (pairs_of P d x F)
