-- A cycle of rows each of which bettered its head last is bad. Going round, what the rows offer is at most what they
-- gave; and as the looks that bettered the vertices cannot have risen all the way round, some row offers less than it
-- gave.
use mathlib.Core.Path.{◌≡◌, refl, sym, ◌∙◌, ap, subst}
use mathlib.Core.List.{List}
use mathlib.Core.Logic.{◌⊎◌, inl, inr}
use Prim.Native.Nat.{ℕ, zero, suc, ◌+◌, ◌-◌, ◌≤◌, ◌<◌}
use native.Mathlib.Omega.{arith}
use native.Mathlib.Decide.{dec_le}
use lib.ListN.{length}
use Rattle.whole.specs.Sums.{sum_by}
use Rattle.whole.specs.Values.{Values, total, Lt, Le, Laws}
use Rattle.whole.proofs.Values.Laws.{same-le, le-le, le_lt_trans, lt-le-trans, plus-le, plus-lt, nil-plus, gain-lt}
use Rattle.rules.specs.Times.Walks.{Edges}
use Rattle.rules.specs.Times.Passes.{through}
use Rattle.rules.specs.Times.Cycle.{row_told, Cycle, around}
use Rattle.rules.specs.Times.Traces.{Bettered}

module _ {X : Type 0} {𝓥 : Values X} (L : Laws 𝓥) (E : Edges X) (rows : List ℕ)
    (c : Cycle E rows) (time : ℕ → ℕ) (D : ℕ → X)
    (each : (k : ℕ) → k < length rows → Bettered 𝓥 E time D (E.head (row_told rows k)) (row_told rows k)) where
  open 𝓥 use {nil, plus}

  abbrev start : ℕ
  start = E.tail (row_told rows 0)

  abbrev end : ℕ → ℕ
  end k = E.head (row_told rows k)

  -- the distance of the start, and the lengths of the rows up to the k-th
  sum : ℕ → X
  sum k = plus (D start) (total 𝓥 (suc k) (λ j. E.size (row_told rows j)))

  -- less than the distance that they lead to; or at most that, and the looks have risen so far
  Falls : ℕ → Type 0
  Falls k = Lt 𝓥 (sum k) (D (end k)) ⊎ (Le 𝓥 (sum k) (D (end k)) × (time start + k < time (end k)))

  sum-start : sum 0 ≡ through 𝓥 E D (row_told rows 0)
  unfolding sum sum_by
  sum-start = ap (plus (D start)) (nil-plus L (E.size (row_told rows 0)))

  sum_more : (k : ℕ) → suc k < length rows → sum (suc k) ≡ plus (sum k) (E.size (row_told rows (suc k)))
  unfolding sum sum_by
  sum_more k h =
      sym (L.plus_assoc (D start) (total 𝓥 (suc k) (λ j. E.size (row_told rows j))) (E.size (row_told rows (suc k))))

  falls-start : 0 < length rows → Falls 0
  unfolding Falls
  falls-start h = go (dec_le (time (end 0)) (time start))
    where
      go : Dec (time (end 0) ≤ time start) → Falls 0
      go (yes k) = inl (le_lt_trans L (same-le L sum-start) ((each 0 h).since k))
      go (no n) = inr (le-le L (same-le L sum-start) (each 0 h).most, omega arith)

  falls-more : (k : ℕ) → suc k < length rows → Falls k → Falls (suc k)
  unfolding Falls
  falls-more k h f = go f (dec_le (time (end (suc k))) (time (end k)))
    where
      r : ℕ
      r = row_told rows (suc k)

      o : Bettered 𝓥 E time D (end (suc k)) r
      o = each (suc k) h

      offered : plus (D (end k)) (E.size r) ≡ through 𝓥 E D r
      offered = ap (λ v. plus (D v) (E.size r)) (c.linked k h)

      most : Le 𝓥 (sum k) (D (end k)) → Le 𝓥 (sum (suc k)) (through 𝓥 E D r)
      most p = le-le L (same-le L (sum_more k h)) (le-le L (plus-le L (E.size r) p) (same-le L offered))

      less : Lt 𝓥 (sum k) (D (end k)) → Lt 𝓥 (sum (suc k)) (through 𝓥 E D r)
      less p = le_lt_trans L (same-le L (sum_more k h)) (lt-le-trans L (plus-lt L (E.size r) p) (same-le L offered))

      go : Falls k → Dec (time (end (suc k)) ≤ time (end k)) → Falls (suc k)
      go (inl p) t = inl (lt-le-trans L (less p) o.most)
      go (inr p) (yes t) =
          inl (le_lt_trans L (most p.0) (o.since (subst (λ v. time (end (suc k)) ≤ time v) (c.linked k h) t)))
      go (inr p) (no n) = inr (le-le L (most p.0) o.most, omega (arith, p.1))

  falls : (k : ℕ) → k < length rows → Falls k
  falls zero h = falls-start h
  falls (suc k) h = falls-more k h (falls k (omega arith))

  pub falling-below : 0 < length rows → Lt 𝓥 (around 𝓥 E rows) nil
  unfolding sum Falls
  falling-below h = go (length rows) refl
    where
      go : (n : ℕ) → length rows ≡ n → Lt 𝓥 (around 𝓥 E rows) nil
      go zero e = absurd (omega arith)
      go (suc k) e =
          subst (λ n. Lt 𝓥 (total 𝓥 n (λ j. E.size (row_told rows j))) nil) (sym e) (by (falls k (omega arith)))
        where
          closes : end k ≡ start
          closes = ap end (let z : k ≡ length rows - 1 = omega arith in z) ∙ c.closed

          by : Falls k → Lt 𝓥 (total 𝓥 (suc k) (λ j. E.size (row_told rows j))) nil
          by (inl p) = gain-lt L (D start) _ (subst (λ v. Lt 𝓥 (sum k) (D v)) closes p)
          by (inr p) = let z : time (end k) ≡ time start = ap time closes in absurd (omega (arith, p.1))
