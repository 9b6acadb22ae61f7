-- Fractions with separate denominators reduce to one: where fractions, each over a denominator of its own, meet the
-- rows and limits, a strict one strictly, whole numbers over one denominator do. So `Unsatisfied` says that there are
-- no fractions at all.
--   shared                     one denominator for several
--   one-denominator            whole numbers over one denominator, with the values of the fractions
--   unsatisfied-fractions      where none of those meet a problem, no fractions do (`FractionsMeet`,
--                              specs/Facts/Fractions)
use mathlib.Core.Bool.{Bool, cond, false, not, true}
use mathlib.Core.List.{[], ◌∷◌}
use mathlib.Core.Option.{Option, none, some}
use mathlib.Core.Path.{ap, refl, subst, sym, ◌∙◌, ◌≡◌}
use Prim.Native.Nat.{suc, zero, ℕ, ◌+◌, ◌<◌, ◌≤◌}
use native.Mathlib.Omega.{arith}
use lib.Dec.{ltb, ltb→lt, nltb→le}
use lib.IntN.{*ℤ-zero, neg_ℤ, pos, ℤ, ◌*ℤ◌, ◌+ℤ◌}
use lib.Signed.{lt_z_yes, ◌<ℤ◌, ◌≤ℤ◌}
use Rattle.whole.proofs.Bools.{true→T}
use Rattle.whole.proofs.Ring.Nonneg.{of_le, of_lt, slk, ◌⊞◌, ◌⊠◌}
use Rattle.whole.proofs.Numbers.Order.{*ℤ-cancel, *ℤ-pos-pos, false→le, true→lt}
use Rattle.whole.proofs.Ring.Reify.{reify}
use Rattle.whole.proofs.Ring.Tools.{eq-by, le-at, lt_at, of-≡, ring-at, ◌⊞₀◌, ◌⊠₀◌}
use Rattle.whole.specs.Sums.{sum, sum_by}
use Rattle.whole.specs.Values.{total, whole}
use Rattle.rules.specs.Evidence.{Above, Below, Clears, Satisfies, Unsatisfied, row_sum}
use Rattle.rules.specs.Facts.Fractions.{Fraction, FractionsMeet, InOrder, fractions, over_one}
use Rattle.rules.specs.Limit.{Limit}
use Rattle.rules.specs.Problem.{Problem, vars}

-- whole numbers over one denominator that meet the problem, with the same values
record OneDenominator (P : Problem Limit) (x : ℕ → Fraction) : Type 0 where
  pub denominator : ℤ
  pub numerator : ℕ → ℤ
  pub meets : Satisfies P denominator numerator
  pub same-value : (v : ℕ) → v < vars P → denominator *ℤ (x v).top ≡ numerator v *ℤ (x v).under

-- ---- the algebra

swapped : (a b c : ℤ) → (a *ℤ b) *ℤ c ≡ (a *ℤ c) *ℤ b
swapped a b c = ring-at (a ∷ b ∷ c ∷ []) (search reify depth 30) refl

one_more_lem : (d t u s c a b y : ℤ) → d *ℤ t ≡ u *ℤ s → d *ℤ a ≡ y *ℤ b → d *ℤ (t *ℤ b +ℤ (c *ℤ a) *ℤ u)
    ≡ (u *ℤ b) *ℤ (s +ℤ c *ℤ y)
one_more_lem d t u s c a b y p q =
    eq-by (d ∷ t ∷ u ∷ s ∷ c ∷ a ∷ b ∷ y ∷ []) (b ⊠₀ of-≡ p ⊞₀ (c *ℤ u) ⊠₀ of-≡ q)
    (search reify depth 30 fits 20000) refl

-- a / b = t / u, d a = y b and d t = u s: so y = s, times b u
row-over : (d a b t u y s : ℤ) → a *ℤ u ≡ t *ℤ b → d *ℤ a ≡ y *ℤ b → d *ℤ t ≡ u *ℤ s → y *ℤ (b *ℤ u) ≡ s *ℤ (b *ℤ u)
row-over d a b t u y s r q p =
    eq-by (d ∷ a ∷ b ∷ t ∷ u ∷ y ∷ s ∷ []) (d ⊠₀ of-≡ r ⊞₀ neg_ℤ u ⊠₀ of-≡ q ⊞₀ b ⊠₀ of-≡ p)
    (search reify depth 30 fits 20000) refl

-- f times a fraction t / u against a limit l: f u is the one denominator
low-over : (b : Bool) (f l : ℤ) (x : Fraction) → pos 0 <ℤ f → InOrder b (over_one l) x →
    Clears b ((f *ℤ x.under) *ℤ l) (f *ℤ x.top)
low-over true f l x p h = strictly f x.under x.top l p (true→lt h)
  where
    strictly : (f u t l : ℤ) → pos 0 <ℤ f → (l *ℤ u) <ℤ (t *ℤ pos 1) → ((f *ℤ u) *ℤ l) <ℤ (f *ℤ t)
    strictly f u t l p h =
        lt_at (f ∷ u ∷ t ∷ l ∷ []) (of_lt p ⊠ of_lt h ⊞ of_lt h ⊞ of_lt p) (search reify depth 30) slk
low-over false f l x p h = weakly f x.under x.top l p (false→le h)
  where
    weakly : (f u t l : ℤ) → pos 0 <ℤ f → (l *ℤ u) ≤ℤ (t *ℤ pos 1) → ((f *ℤ u) *ℤ l) ≤ℤ (f *ℤ t)
    weakly f u t l p h = le-at (f ∷ u ∷ t ∷ l ∷ []) (of_lt p ⊠ of_le h ⊞ of_le h) (search reify depth 30) slk

high-over : (b : Bool) (f u : ℤ) (x : Fraction) → pos 0 <ℤ f → InOrder b x (over_one u) →
    Clears b (f *ℤ x.top) ((f *ℤ x.under) *ℤ u)
high-over true f u x p h = strictly f x.under x.top u p (true→lt h)
  where
    strictly : (f u t l : ℤ) → pos 0 <ℤ f → (t *ℤ pos 1) <ℤ (l *ℤ u) → (f *ℤ t) <ℤ ((f *ℤ u) *ℤ l)
    strictly f u t l p h =
        lt_at (f ∷ u ∷ t ∷ l ∷ []) (of_lt p ⊠ of_lt h ⊞ of_lt h ⊞ of_lt p) (search reify depth 30) slk
high-over false f u x p h = weakly f x.under x.top u p (false→le h)
  where
    weakly : (f u t l : ℤ) → pos 0 <ℤ f → (t *ℤ pos 1) ≤ℤ (l *ℤ u) → (f *ℤ t) ≤ℤ ((f *ℤ u) *ℤ l)
    weakly f u t l p h = le-at (f ∷ u ∷ t ∷ l ∷ []) (of_lt p ⊠ of_le h ⊞ of_le h) (search reify depth 30) slk

-- ---- one denominator for the first k of q

pub record Shared (k : ℕ) (q : ℕ → ℤ) : Type 0 where
  pub common : ℤ
  pub factor : ℕ → ℤ
  pub common-pos : pos 0 <ℤ common
  pub factor-pos : (v : ℕ) → v < k → pos 0 <ℤ factor v
  pub is-common : (v : ℕ) → v < k → factor v *ℤ q v ≡ common

pub shared : (k : ℕ) (q : ℕ → ℤ) → ((v : ℕ) → v < k → pos 0 <ℤ q v) → Shared k q
shared zero q h = record {
  common = pos 1;
  factor = λ v. pos 1;
  common-pos = lt_z_yes tt;
  factor-pos = λ v l. lt_z_yes tt;
  is-common = λ v l. let z : ⊥ = omega arith in absurd z;
}
shared (suc k) q h = more (shared k q (λ v l. h v (omega arith)))
  where
    more : Shared k q → Shared (suc k) q
    more S = record {
      common = S.common *ℤ q k;
      factor = factor;
      common-pos = *ℤ-pos-pos S.common-pos (h k (omega arith));
      factor-pos = λ v l. above v l (ltb v k) refl;
      is-common = λ v l. is v l (ltb v k) refl;
    }
      where
        factor : ℕ → ℤ
        factor v = cond (ltb v k) (S.factor v *ℤ q k) S.common

        last : (v : ℕ) → v < suc k → ltb v k ≡ false → v ≡ k
        last v l e = omega (arith, nltb→le v k (true→T (ap not e)))

        above : (v : ℕ) → v < suc k → (b : Bool) → ltb v k ≡ b → pos 0 <ℤ factor v
        above v l true e = rw e (*ℤ-pos-pos (S.factor-pos v (ltb→lt v k (true→T e))) (h k (omega arith)))
        above v l false e = rw e S.common-pos

        is : (v : ℕ) → v < suc k → (b : Bool) → ltb v k ≡ b → factor v *ℤ q v ≡ S.common *ℤ q k
        is v l true e = rw e (swapped (S.factor v) (q k) (q v)
            ∙ ap (λ z. z *ℤ q k) (S.is-common v (ltb→lt v k (true→T e))))
        is v l false e = rw (e, last v l e) refl

module _ (P : Problem Limit) (x : ℕ → Fraction) (M : FractionsMeet P x) where
  S : Shared (vars P) (λ v. (x v).under)
  S = shared (vars P) (λ v. (x v).under) M.positive

  abbrev d : ℤ
  d = S.common

  -- x v over the one denominator
  abbrev y : ℕ → ℤ
  y v = S.factor v *ℤ (x v).top

  same-value : (v : ℕ) → v < vars P → d *ℤ (x v).top ≡ y v *ℤ (x v).under
  same-value v h = ap (λ z. z *ℤ (x v).top) (sym (S.is-common v h)) ∙ swapped (S.factor v) (x v).under (x v).top

  -- a sum of multiples, as fractions and over the one denominator
  abbrev partial : (ℕ → ℤ) → ℕ → Fraction
  partial c k = total fractions k (λ j. fractions.scale (c j) (x j))

  same_sum : (k : ℕ) (c : ℕ → ℤ) → k ≤ vars P → d *ℤ (partial c k).top ≡ (partial c k).under *ℤ sum k (λ j. c j *ℤ y j)
  unfolding sum_by
  same_sum zero c h = *ℤ-zero d
  same_sum (suc k) c h =
      one_more_lem d (partial c k).top (partial c k).under (sum k (λ j. c j *ℤ y j)) (c k) (x k).top (x k).under (y k)
      (same_sum k c (omega arith)) (same-value k (omega arith))

  under-above : (k : ℕ) (c : ℕ → ℤ) → k ≤ vars P → pos 0 <ℤ (partial c k).under
  unfolding sum_by
  under-above zero c h = lt_z_yes tt
  under-above (suc k) c h = *ℤ-pos-pos (under-above k c (omega arith)) (M.positive k (omega arith))

  over-one-meets : Satisfies P d y
  over-one-meets = record {
    positive = S.common-pos;
    rows = λ i h. row i h (row_sum fractions P x i) refl;
    lowers = λ v h. low v h (P.lower v) refl;
    uppers = λ v h. high v h (P.upper v) refl;
  }
    where
      row : (i : ℕ) → i < P.m → (T : Fraction) → row_sum fractions P x i ≡ T → y (P.n + i) ≡ row_sum whole P y i
      row i h T e =
          let v : ℕ = P.n + i in
          *ℤ-cancel (*ℤ-pos-pos (M.positive v (omega arith))
          (rw e at (under-above P.n (P.coefficient i) (omega arith))))
          (row-over d (x v).top (x v).under T.top T.under (y v) (row_sum whole P y i)
          (rw e at (M.rows i h)) (same-value v (omega arith))
          (rw e at (same_sum P.n (P.coefficient i) (omega arith))))

      low : (v : ℕ) → v < vars P → (o : Option Limit) → P.lower v ≡ o → Above o d (y v)
      low v h none e = tt
      low v h (some l) e = subst (λ c. Clears l.strict (c *ℤ l.plain) (y v)) (S.is-common v h)
          (low-over l.strict (S.factor v) l.plain (x v) (S.factor-pos v h) (M.lowers v h l e))

      high : (v : ℕ) → v < vars P → (o : Option Limit) → P.upper v ≡ o → Below o d (y v)
      high v h none e = tt
      high v h (some u) e = subst (λ c. Clears u.strict (y v) (c *ℤ u.plain)) (S.is-common v h)
          (high-over u.strict (S.factor v) u.plain (x v) (S.factor-pos v h) (M.uppers v h u e))

  one-denominator : OneDenominator P x
  one-denominator = record { denominator = d; numerator = y; meets = over-one-meets; same-value = same-value }

pub unsatisfied-fractions : (P : Problem Limit) → Unsatisfied P → (x : ℕ → Fraction) → ¬ FractionsMeet P x
unsatisfied-fractions P U x M = let O = one-denominator P x M in U O.denominator O.numerator O.meets
