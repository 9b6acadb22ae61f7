-- A sum over all numbers below N is the sum over the places that hold them, where a number that no place holds counts
-- 0.
--   sum-places
use mathlib.Core.Path.{◌≡◌, refl, sym, ap, ◌∙◌}
use mathlib.Core.Logic.{◌≢◌, ◌⊎◌, inl, inr}
use mathlib.Core.Bool.{Bool, true, false, cond}
use Prim.Native.Nat.{ℕ, ◌<◌}
use borrow.Author.Tests.{eq-eqb, ne_eqb}
use lib.Dec.{eqb}
use lib.IntN.{ℤ, pos}
use Rattle.whole.specs.Sums.{sum}
use Rattle.whole.proofs.Numbers.Sums.{sum_same, sum_one, sum-zero, sum-swap}

module _ (N n : ℕ) (f : ℕ → ℤ) (c : ℕ → ℕ) (inside : (j : ℕ) → j < n → c j < N)
    (alone : (j k : ℕ) → j < n → k < n → c j ≡ c k → j ≡ k)
    (placed : (u : ℕ) → u < N → ((j : ℕ) × (j < n) × (c j ≡ u)) ⊎ (f u ≡ pos 0)) where
  -- f u where place j holds u, and 0 elsewhere
  held : ℕ → ℕ → ℤ
  held u j = cond (eqb (c j) u) (f u) (pos 0)

  held-here : (u j : ℕ) → c j ≡ u → held u j ≡ f u
  unfolding held
  held-here u j e = ap (λ b. cond b (f u) (pos 0)) (eq-eqb (c j) u e)

  held-other : (u j : ℕ) → c j ≢ u → held u j ≡ pos 0
  unfolding held
  held-other u j n = ap (λ b. cond b (f u) (pos 0)) (ne_eqb (c j) u n)

  held-zero : (u j : ℕ) → f u ≡ pos 0 → held u j ≡ pos 0
  unfolding held
  held-zero u j e = go (eqb (c j) u)
    where
      go : (b : Bool) → cond b (f u) (pos 0) ≡ pos 0
      go true = e
      go false = refl

  over-places : (u : ℕ) → u < N → f u ≡ sum n (held u)
  over-places u h = go (placed u h)
    where
      go : ((j : ℕ) × (j < n) × (c j ≡ u)) ⊎ (f u ≡ pos 0) → f u ≡ sum n (held u)
      go (inl (j, k, e)) =
          sym (sum_one n j (held u) k (λ i l m. held-other u i (λ z. m (alone i j l k (z ∙ sym e)))) ∙ held-here u j e)
      go (inr e) = e ∙ sym (sum-zero n (held u) (λ j k. held-zero u j e))

  over-variables : (j : ℕ) → j < n → sum N (λ u. held u j) ≡ f (c j)
  over-variables j h = sum_one N (c j) (λ u. held u j) (inside j h) (λ u k m. held-other u j (λ e. m (sym e)))
      ∙ held-here (c j) j refl

  pub sum-places : sum N f ≡ sum n (λ j. f (c j))
  sum-places = sum_same N f (λ u. sum n (held u)) over-places ∙ sum-swap N n held
      ∙ sum_same n (λ j. sum N (λ u. held u j)) (λ j. f (c j)) over-variables
