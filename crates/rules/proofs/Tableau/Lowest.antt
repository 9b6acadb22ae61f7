-- Lowest common form: the divisor divides every number and is greatest, and a tableau is its lowest form times one
-- number.
--   divisor-divides, divisor-greatest, divisor-times, divisor-pos
--   factored    `Factored`: each number is the reduced one times `by`, which has the sign of D
--   reduced-one the divisor of the lowest form is 1
use mathlib.Core.Bool.{false, true}
use mathlib.Core.Logic.{◌≢◌}
use mathlib.Core.Path.{ap, refl, subst, sym, ◌∙◌, ◌≡◌}
use Prim.Native.Nat.{suc, zero, ℕ, ◌*◌, ◌<◌, ◌∣◌}
use native.Mathlib.Decide.{ℕ_discrete}
use native.Mathlib.Nat.{dvd_of_mul-dvd-mul_right, dvd-one, dvd_refl, dvd_trans, mul_comm, mul-dvd-mul_right, one-mul}
use native.Mathlib.Nat.{pos_of_dvd_of_pos}
use native.Mathlib.Omega.{arith}
use lib.Dec.{lt→ltb}
use lib.IntN.{nat_abs, negsuc, neg_ℤ, pos, ℤ, ◌*ℤ◌}
use lib.Signed.{<ℤ_irrefl, <ℤ-≤ℤ_trans, quot_z, ◌<ℤ◌}
use Rattle.whole.proofs.Numbers.Division.{exact-down, exact-up}
use Rattle.whole.proofs.Numbers.Divisors.{by_one, by-one-back, fold-dvd, fold-times}
use Rattle.whole.proofs.Numbers.Order.{<ℤ→≤ℤ, Sign, le→false, lt→true, minus, null, plus, sign}
use Rattle.whole.proofs.Numbers.Sizes.{abs-*, size-pos}
use Rattle.whole.proofs.Lists.Tables.{matrix-at}
use Rattle.whole.specs.Below.{fold_below}
use Rattle.whole.specs.Divisors.{gcd}
use Rattle.whole.specs.Numbers.{is_neg}
use Rattle.rules.specs.Tableau.{Tableau, divisor, divisor_size, entry, reduced}

-- ---- what divides all numbers of a tableau

rows-dvd : (k N : ℕ) (x : ℕ → ℕ → ℕ) (a : ℕ) →
    (fold_below k (λ v g. fold_below N (λ u h. gcd (x v u) h) g) a ∣ a)
    × ((v u : ℕ) → v < k → u < N → fold_below k (λ v g. fold_below N (λ u h. gcd (x v u) h) g) a ∣ x v u)
unfolding fold_below
rows-dvd zero N x a = (dvd_refl a, λ v u h k. let z : ⊥ = omega arith in absurd z)
rows-dvd (suc k) N x a = both (fold_below k (λ v g. fold_below N (λ u h. gcd (x v u) h) g) a) (rows-dvd k N x a)
  where
    both : (F : ℕ) → (F ∣ a) × ((v u : ℕ) → v < k → u < N → F ∣ x v u) →
        (fold_below N (λ u h. gcd (x k u) h) F ∣ a)
        × ((v u : ℕ) → v < suc k → u < N → fold_below N (λ u h. gcd (x k u) h) F ∣ x v u)
    both F r = (dvd_trans _ (fold-dvd N (x k) F).0 r.0, λ v u h l. at v u h l (ℕ_discrete v k))
      where
        at : (v u : ℕ) → v < suc k → u < N → Dec (v ≡ k) → fold_below N (λ u h. gcd (x k u) h) F ∣ x v u
        at v u h l (yes e) = rw e ((fold-dvd N (x k) F).1 u l)
        at v u h l (no n) = dvd_trans _ (fold-dvd N (x k) F).0 (r.1 v u (omega arith) l)

rows-times : (k N : ℕ) (x : ℕ → ℕ → ℕ) (a d f : ℕ) → d ∣ f * a → ((v u : ℕ) → v < k → u < N → d ∣ f * x v u) →
    d ∣ f * fold_below k (λ v g. fold_below N (λ u h. gcd (x v u) h) g) a
unfolding fold_below
rows-times zero N x a d f p q = p
rows-times (suc k) N x a d f p q =
    fold-times N (x k) _ d f (rows-times k N x a d f p (λ v u h l. q v u (omega arith) l))
    (λ u l. q k u (omega arith) l)

module _ (N : ℕ) (t : Tableau) where
  pub divisor-divides : (divisor_size N t ∣ nat_abs t.common)
      × ((v u : ℕ) → v < N → u < N → divisor_size N t ∣ nat_abs (entry t v u))
  unfolding divisor_size
  divisor-divides = rows-dvd N N (λ v u. nat_abs (entry t v u)) (nat_abs t.common)

  -- what divides f times every number divides f times the divisor
  pub divisor-times : (d f : ℕ) → d ∣ f * nat_abs t.common →
      ((v u : ℕ) → v < N → u < N → d ∣ f * nat_abs (entry t v u)) → d ∣ f * divisor_size N t
  unfolding divisor_size
  divisor-times d f p q = rows-times N N (λ v u. nat_abs (entry t v u)) (nat_abs t.common) d f p q

  pub divisor-greatest : (d : ℕ) → d ∣ nat_abs t.common → ((v u : ℕ) → v < N → u < N → d ∣ nat_abs (entry t v u)) →
      d ∣ divisor_size N t
  divisor-greatest d p q = by-one-back d (divisor_size N t)
      (divisor-times d 1 (by_one d (nat_abs t.common) p) (λ v u h k. by_one d (nat_abs (entry t v u)) (q v u h k)))

  divisor-pos : t.common ≢ pos 0 → 0 < divisor_size N t
  divisor-pos n = pos_of_dvd_of_pos divisor-divides.0 (size-pos t.common n)

-- ---- lowest common form

-- a tableau with D other than 0 is its lowest form, each number times one number, whose sign is D's and whose size is
-- the divisor
pub record Factored (N : ℕ) (t : Tableau) : Type 0 where
  pub by : ℤ
  pub by_size : nat_abs by ≡ divisor_size N t
  pub sign-up : pos 0 <ℤ t.common → pos 0 <ℤ by
  pub sign-down : t.common <ℤ pos 0 → by <ℤ pos 0
  pub of-common : by *ℤ (reduced N t).common ≡ t.common
  pub of_entry : (v u : ℕ) → v < N → u < N → by *ℤ entry (reduced N t) v u ≡ entry t v u

module _ (N : ℕ) (t : Tableau) where
  divisor-up : is_neg t.common ≡ false → divisor N t ≡ pos (divisor_size N t)
  unfolding divisor
  divisor-up h = rw (h, divisor)

  divisor-down : is_neg t.common ≡ true → divisor N t ≡ neg_ℤ (pos (divisor_size N t))
  unfolding divisor
  divisor-down h = rw (h, divisor)

  pub reduced-entry : (v u : ℕ) → v < N → u < N → entry (reduced N t) v u ≡ quot_z (entry t v u) (divisor N t)
  unfolding reduced
  reduced-entry v u h k = matrix-at N (λ v u. quot_z (entry t v u) (divisor N t)) v u h k

  reduced-common : (reduced N t).common ≡ quot_z t.common (divisor N t)
  unfolding reduced
  reduced-common = refl

  factored-by : (d : ℤ) → divisor N t ≡ d → nat_abs d ≡ divisor_size N t → (pos 0 <ℤ t.common → pos 0 <ℤ d) →
      (t.common <ℤ pos 0 → d <ℤ pos 0) → ((z : ℤ) → divisor_size N t ∣ nat_abs z → d *ℤ quot_z z d ≡ z) → Factored N t
  factored-by d e m p q f = record {
    by = d;
    by_size = m;
    sign-up = p;
    sign-down = q;
    of-common = rw (reduced-common, e) (f t.common (divisor-divides N t).0);
    of_entry = λ v u h k. rw (reduced-entry v u h k, e) (f (entry t v u) ((divisor-divides N t).1 v u h k));
  }

  pub factored : t.common ≢ pos 0 → Factored N t
  factored n = go (sign t.common) (divisor_size N t) refl (divisor-pos N t n)
    where
      go : Sign t.common → (g : ℕ) → divisor_size N t ≡ g → 0 < divisor_size N t → Factored N t
      go s zero c p = let z : ⊥ = omega arith in absurd z
      go (null e) (suc g) c p = absurd (n e)
      go (plus h) (suc g) c p = factored-by (pos (divisor_size N t)) (divisor-up (le→false (<ℤ→≤ℤ h))) refl
          (λ l. record { lt = lt→ltb 0 (divisor_size N t) p }) (λ l. absurd (<ℤ_irrefl (<ℤ-≤ℤ_trans h (<ℤ→≤ℤ l))))
          (λ z d. exact-up (divisor_size N t) z d)
      go (minus h) (suc g) c p = factored-by (negsuc g) (divisor-down (lt→true h) ∙ (rw c refl)) (sym c)
          (λ l. absurd (<ℤ_irrefl (<ℤ-≤ℤ_trans h (<ℤ→≤ℤ l)))) (λ l. record { lt = tt })
          (λ z d. exact-down g z (rw c at d))

  -- what divides the lowest form divides the tableau, with the divisor as a further factor
  lifted : (F : Factored N t) (d : ℕ) (x z : ℤ) → F.by *ℤ x ≡ z → d ∣ nat_abs x → d * divisor_size N t ∣ nat_abs z
  lifted F d x z e h = subst (λ a. d * divisor_size N t ∣ a) (size F x z e)
      (mul-dvd-mul_right d {b = nat_abs x} h (divisor_size N t))
    where
      size : (F : Factored N t) (x z : ℤ) → F.by *ℤ x ≡ z → nat_abs x * divisor_size N t ≡ nat_abs z
      size F x z e = ap (λ g. nat_abs x * g) (sym F.by_size) ∙ mul_comm (nat_abs x) (nat_abs F.by)
          ∙ sym (abs-* F.by x) ∙ ap nat_abs e

  pub reduced-one : t.common ≢ pos 0 → divisor_size N (reduced N t) ≡ 1
  reduced-one n = dvd-one.0 (dvd_of_mul-dvd-mul_right D {n = 1} (divisor-pos N t n)
      (subst (λ z. D * g ∣ z) (sym (one-mul g)) D-g))
    where
      g : ℕ
      g = divisor_size N t

      D : ℕ
      D = divisor_size N (reduced N t)

      F : Factored N t
      F = factored n

      D-g : D * g ∣ g
      D-g = divisor-greatest N t (D * g)
          (lifted F D (reduced N t).common t.common F.of-common (divisor-divides N (reduced N t)).0)
          (λ v u h k. lifted F D (entry (reduced N t) v u) (entry t v u) (F.of_entry v u h k)
          ((divisor-divides N (reduced N t)).1 v u h k))
