-- The largest of the pivots, and the body that it names.
--   largest-least, largest-reached      no number is above the largest; it is 0, or some number is it
--   largest-is                          the body named has a verdict and the largest, none before it has both, and no
--                                       body has more (Leads)
--   none-exactly                        no body is named exactly where none has a verdict
--   none-nought                         and then the sum and the largest are 0
use mathlib.Core.Bool.{Bool, false, true}
use mathlib.Core.List.{List}
use mathlib.Core.Logic.{inl, inr, ◌↔◌, ◌⊎◌}
use mathlib.Core.Option.{none, some}
use mathlib.Core.Path.{refl, sym, ◌∙◌, ◌≡◌}
use Prim.Native.Nat.{max, suc, zero, ℕ, ◌<◌, ◌≤◌}
use native.Mathlib.Decide.{dec_le, ℕ_discrete}
use native.Mathlib.Nat.{le-max_left, le-max_right, max-eq_left, max-eq_right}
use native.Mathlib.Omega.{arith}
use lib.Dec.{eqb}
use lib.IntN.{ℤ}
use Rattle.whole.proofs.Bools.{and-of, and-true, true-false}
use Rattle.whole.proofs.Lists.Below.{lowest-passes, none_passes}
use Rattle.whole.proofs.Tells.{tells-eq, tells-true}
use Rattle.rules.specs.Sheet.Facts.{Answers, Leads, Refuses}
use Rattle.rules.specs.Sheet.Totals.{answered_class, Class, class_of, largest_below, largest_body, largest_pivots}
use Rattle.rules.specs.Sheet.Totals.{pivots_by, pivots_of, pivot_sum, reaches, refused, sum_below, verdict}

-- ---- the most of some numbers

largest-least : (k : ℕ) (f : ℕ → ℕ) (i : ℕ) → i < k → f i ≤ largest_below k f
unfolding largest_below
largest-least zero f i h = absurd (omega arith)
largest-least (suc k) f i h = go (ℕ_discrete i k) (largest-least k f i)
  where
    go : Dec (i ≡ k) → (i < k → f i ≤ largest_below k f) → f i ≤ max (largest_below k f) (f k)
    go (yes e) rest = rw e (le-max_right (largest_below k f) (f k))
    go (no n) rest = let a = rest (omega arith) in
        let b = le-max_left (largest_below k f) (f k) in omega (arith, a, b)

pub largest-reached : (k : ℕ) (f : ℕ → ℕ) → (largest_below k f ≡ 0) ⊎ ((i : ℕ) × (i < k) × (f i ≡ largest_below k f))
unfolding largest_below
largest-reached zero f = inl refl
largest-reached (suc k) f = go (dec_le (f k) (largest_below k f)) (largest-reached k f)
  where
    go : Dec (f k ≤ largest_below k f) → (largest_below k f ≡ 0) ⊎ ((i : ℕ) × (i < k) × (f i ≡ largest_below k f)) →
        (max (largest_below k f) (f k) ≡ 0) ⊎ ((i : ℕ) × (i < suc k) × (f i ≡ max (largest_below k f) (f k)))
    go (yes h) (inl e) = inl (max-eq_left h ∙ e)
    go (yes h) (inr (i, l, e)) = inr (i, omega arith, e ∙ sym (max-eq_left h))
    go (no h) r = inr (k, omega arith, sym (max-eq_right (let z : largest_below k f ≤ f k = omega arith in z)))

largest-nought : (k : ℕ) (f : ℕ → ℕ) → ((i : ℕ) → i < k → f i ≡ 0) → largest_below k f ≡ 0
largest-nought k f h = go (largest-reached k f)
  where
    go : (largest_below k f ≡ 0) ⊎ ((i : ℕ) × (i < k) × (f i ≡ largest_below k f)) → largest_below k f ≡ 0
    go (inl e) = e
    go (inr (i, l, e)) = sym e ∙ h i l

sum-nought : (k : ℕ) (f : ℕ → ℕ) → ((i : ℕ) → i < k → f i ≡ 0) → sum_below k f ≡ 0
unfolding sum_below
sum-nought zero f h = refl
sum-nought (suc k) f h = let a = sum-nought k f (λ i l. h i (omega arith)) in
    let b = h k (omega arith) in omega (arith, a, b)

-- ---- bodies

-- a refused body has no pivots
pub refused-nought : (rows : ℕ) (b : List ℤ) → answered_class (class_of rows b) ≡ false → pivots_of rows b ≡ 0
unfolding pivots_of answered_class pivots_by
refused-nought rows b e = go (class_of rows b) e
  where
    go : (c : Class) → answered_class c ≡ false → pivots_by c b ≡ 0
    go (refused k) e = refl
    go (verdict v) e = true-false refl e

module _ (rows k : ℕ) (body : ℕ → List ℤ) where
  abbrev pivots : ℕ → ℕ
  pivots i = pivots_of rows (body i)

  largest-most : (u : ℕ) → u < k → pivots u ≤ largest_pivots rows k body
  unfolding largest_pivots
  largest-most u h = largest-least k pivots u h

  reaches_of : (most i : ℕ) → Answers rows (body i) → pivots i ≡ most → reaches rows k body most i ≡ true
  unfolding reaches
  reaches_of most i a e = and-of a (tells-true (tells-eq (pivots i) most) e)

  reaches-is : (most i : ℕ) → reaches rows k body most i ≡ true → Answers rows (body i) × (pivots i ≡ most)
  unfolding reaches
  reaches-is most i e = let r = and-true (answered_class (class_of rows (body i))) (eqb (pivots i) most) e in
      (r.0, (tells-eq (pivots i) most).if-true r.1)

  -- a body with a verdict that has fewer pivots than the most
  fewer : (most i u : ℕ) → pivots i ≡ most → pivots u ≤ most → Answers rows (body u) →
      reaches rows k body most u ≡ false → pivots u < pivots i
  fewer most i u e h a f = go (ℕ_discrete (pivots u) most)
    where
      go : Dec (pivots u ≡ most) → pivots u < pivots i
      go (yes q) = true-false (reaches_of most u a q) f
      go (no q) = omega (arith, e, h)

  leads-of : (i : ℕ) → (i < k) × (reaches rows k body (largest_pivots rows k body) i ≡ true)
      × ((u : ℕ) → u < i → reaches rows k body (largest_pivots rows k body) u ≡ false) → Leads rows k body i
  leads-of i (h, e, first) = let r = reaches-is (largest_pivots rows k body) i e in record {
    in-range = h;
    answers = r.0;
    reached = r.1;
    first = λ u l a. fewer (largest_pivots rows k body) i u r.1 (largest-most u (omega arith)) a (first u l);
    most = λ u l. rw r.1 (largest-most u l);
  }

  passed-by : (i : ℕ) → Leads rows k body i → (u : ℕ) → u < i →
      reaches rows k body (largest_pivots rows k body) u ≡ false
  passed-by i L u h = go (reaches rows k body (largest_pivots rows k body) u) refl
    where
      go : (b : Bool) → reaches rows k body (largest_pivots rows k body) u ≡ b → b ≡ false
      go false q = refl
      go true q =
          let r = reaches-is (largest_pivots rows k body) u q in
          let l = L.first u h r.0 in let a = r.1 in let b = L.reached in absurd (omega (arith, l, a, b))

  -- the body named has a verdict and the largest, no verdict before it has as many pivots, and no body has more
  pub largest-is : (i : ℕ) → (largest_body rows k body ≡ some i) ↔ Leads rows k body i
  unfolding largest_body
  largest-is i = let p = lowest-passes k (reaches rows k body (largest_pivots rows k body)) i in (
    λ e. leads-of i (p.0 e),
    λ L. p.1 (L.in-range, reaches_of (largest_pivots rows k body) i L.answers L.reached, passed-by i L),
  )

  -- ---- no body

  -- where some body has a verdict, some verdict reaches the largest
  some-reaches : (i : ℕ) → i < k → Answers rows (body i) →
      ((u : ℕ) → u < k → reaches rows k body (largest_pivots rows k body) u ≡ false) → ⊥
  unfolding largest_pivots
  some-reaches i h a f = go (largest-reached k pivots)
    where
      never : (u : ℕ) → u < k → Answers rows (body u) → pivots u ≡ largest_below k pivots → ⊥
      never u l b q = true-false (reaches_of (largest_below k pivots) u b q) (f u l)

      nought : largest_below k pivots ≡ 0 → ⊥
      nought z = let m = largest-least k pivots i h in
          never i h a (let q : pivots i ≡ largest_below k pivots = omega (arith, m, z) in q)

      go : (largest_below k pivots ≡ 0) ⊎ ((u : ℕ) × (u < k) × (pivots u ≡ largest_below k pivots)) → ⊥
      go (inl z) = nought z
      go (inr (u, l, q)) = by (answered_class (class_of rows (body u))) refl
        where
          by : (b : Bool) → answered_class (class_of rows (body u)) ≡ b → ⊥
          by true g = never u l g q
          by false g = nought (sym q ∙ refused-nought rows (body u) g)

  refuses-of : largest_body rows k body ≡ none → (i : ℕ) → i < k → Refuses rows (body i)
  unfolding largest_body
  refuses-of e i h = go (answered_class (class_of rows (body i))) refl
    where
      go : (b : Bool) → answered_class (class_of rows (body i)) ≡ b → b ≡ false
      go false q = refl
      go true q = absurd (some-reaches i h q
          ((none_passes k (reaches rows k body (largest_pivots rows k body))).0 e))

  refuses-fails : (most i : ℕ) → Refuses rows (body i) → reaches rows k body most i ≡ false
  unfolding reaches
  refuses-fails most i e = rw e refl

  -- no body is named exactly where none has a verdict
  pub none-exactly : (largest_body rows k body ≡ none) ↔ ((i : ℕ) → i < k → Refuses rows (body i))
  unfolding largest_body
  none-exactly = (
    refuses-of,
    λ h. (none_passes k (reaches rows k body (largest_pivots rows k body))).1
        (λ i l. refuses-fails (largest_pivots rows k body) i (h i l)),
  )

  -- .. and then the sum and the largest are 0
  pub none-nought : largest_body rows k body ≡ none → (pivot_sum rows k body ≡ 0) × (largest_pivots rows k body ≡ 0)
  unfolding pivot_sum largest_pivots
  none-nought e = let h : (i : ℕ) → i < k → pivots i ≡ 0 = λ i l. refused-nought rows (body i) (refuses-of e i l) in
      (sum-nought k pivots h, largest-nought k pivots h)
