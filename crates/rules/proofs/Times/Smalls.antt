-- Small parts of shortest distances, where each row adds none or minus one. They have no gaps: going back along a
-- shortest walk changes the small part by one at most, and ends at 0. So each is minus a number below the number of
-- vertices (smalls-few), and a fraction 1 / n is small enough for all of them.
use mathlib.Core.Path.{◌≡◌, refl, sym, ◌∙◌, ap}
use mathlib.Core.Logic.{inl, inr, ◌≢◌, ◌⊎◌}
use Prim.Native.Nat.{ℕ, zero, suc, ◌≤◌, ◌<◌, min}
use native.Mathlib.Decide.{ℕ_discrete}
use native.Mathlib.Nat.{add-zero}
use native.Mathlib.Omega.{arith}
use lib.IntN.{ℤ, pos, nat_abs, neg_ℤ, ◌+ℤ◌, +ℤ_idr}
use Rattle.whole.specs.Values.{pairs, Le}
use Rattle.whole.proofs.Values.Beside.{pairs-laws}
use Rattle.whole.proofs.Lists.Pigeons.{pigeons}
use Rattle.whole.proofs.Numbers.Sizes.{abs_neg}
use Rattle.rules.specs.Times.Walks.{Edges, EndsIn, Walk, stay, on}
use Rattle.rules.proofs.Times.Passes.Still.{Still, still_back}

-- what a row adds to the small part
abbrev pub NoneOrOne : ℤ → Type 0
NoneOrOne z = (z ≡ pos 0) ⊎ (z ≡ neg_ℤ (pos 1))

one_more_lem : (q : ℕ) → neg_ℤ (pos q) +ℤ neg_ℤ (pos 1) ≡ neg_ℤ (pos (suc q))
one_more_lem zero = refl
one_more_lem (suc q) = ap (λ k. neg_ℤ (pos (suc (suc k)))) (add-zero q)

module _ (E : Edges (ℤ × ℤ)) (ends : EndsIn E) (one : (i : ℕ) → i < E.count → NoneOrOne (E.size i).1)
    (D : ℕ → ℤ × ℤ) (s : Still pairs E D) (low : (v : ℕ) → Le pairs (D v) pairs.nil) where
  -- a vertex whose small part is minus j
  abbrev Has : ℕ → Type 0
  Has j = (w : ℕ) × (w < E.vertices) × ((D w).1 ≡ neg_ℤ (pos j))

  -- the small part of v is minus q, and there is a vertex for each number up to q
  record Counted (v q : ℕ) : Type 0 where
    is : (D v).1 ≡ neg_ℤ (pos q)
    each : (j : ℕ) → j ≤ q → Has j

  counted-more : (v w q : ℕ) → v < E.vertices → Counted w q → (z : ℤ) → NoneOrOne z → (D v).1 ≡ (D w).1 +ℤ z →
      (p : ℕ) × Counted v p
  counted-more v w q h c z (inl e) f =
      (q, record { is = f ∙ ap (λ y. (D w).1 +ℤ y) e ∙ +ℤ_idr (D w).1 ∙ c.is; each = c.each })
  counted-more v w q h c z (inr e) f = (suc q, record { is = is; each = λ j l. each j l (ℕ_discrete j (suc q)) })
    where
      is : (D v).1 ≡ neg_ℤ (pos (suc q))
      is = f ∙ ap (λ y. (D w).1 +ℤ y) e ∙ ap (λ y. y +ℤ neg_ℤ (pos 1)) c.is ∙ one_more_lem q

      each : (j : ℕ) → j ≤ suc q → Dec (j ≡ suc q) → Has j
      each j l (yes g) = (v, h, is ∙ ap (λ k. neg_ℤ (pos k)) (sym g))
      each j l (no n) = c.each j (omega arith)

  counted : (u k v : ℕ) (d : ℤ × ℤ) → Walk pairs E u k v d → D v ≡ d → v < E.vertices → (q : ℕ) × Counted v q
  counted u _ v _ stay e h = (
    0,
    record {
      is = ap (λ x. x.1) e;
      each = λ j l. (v, h, ap (λ x. x.1) e ∙ ap (λ k. neg_ℤ (pos k)) (zero_is j l));
    },
  )
    where
      zero_is : (j : ℕ) → j ≤ 0 → 0 ≡ j
      zero_is j l = omega arith
  counted u _ _ _ (on {k = k} {d = d} i l w) e h =
      let t : D (E.tail i) ≡ d = still_back pairs-laws E D s low u k i d l w e in
      let c = counted u k (E.tail i) d w t (ends.tail-in i l) in
      counted-more (E.head i) (E.tail i) c.0 h c.1 (E.size i).1 (one i l)
      (ap (λ x. x.1) e ∙ ap (λ x. x.1 +ℤ (E.size i).1) (sym t))

  few : (v q : ℕ) → Counted v q → q < E.vertices
  few v q c = pigeons (suc q) E.vertices (λ j. (some j).0) (λ j l. (some j).1) apart
    where
      some : (j : ℕ) → Has (min j q)
      some j = c.each (min j q) (omega arith)

      apart : (i j : ℕ) → i < j → j < suc q → (some i).0 ≢ (some j).0
      apart i j l m e =
          let z : min i q ≡ min j q =
          sym (abs_neg (pos (min i q)))
          ∙ ap nat_abs (sym (some i).2 ∙ ap (λ w. (D w).1) e ∙ (some j).2) ∙ abs_neg (pos (min j q)) in
          omega arith

  pub smalls-few : (v : ℕ) → v < E.vertices → (u : ℕ) × (k : ℕ) × Walk pairs E u k v (D v) →
      (q : ℕ) × (q < E.vertices) × ((D v).1 ≡ neg_ℤ (pos q))
  smalls-few v h w = let c = counted w.0 w.1 v (D v) w.2 refl h in (c.0, few v c.0 c.1, c.1.is)
