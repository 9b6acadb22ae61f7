-- Evidence asks of a problem only its coefficients in the rows and the limits of its variables: two problems that agree
-- there have the same evidence.
--   Agree, shown-alike
use mathlib.Core.List.{List}
use mathlib.Core.Logic.{inl, inr}
use mathlib.Core.Option.{Option}
use mathlib.Core.Path.{ap, ap₂, subst, sym, ◌∙◌, ◌≡◌}
use Prim.Native.Nat.{ℕ, ◌+◌, ◌<◌}
use lib.IntN.{ℤ, ◌*ℤ◌, ◌+ℤ◌, ◌-ℤ◌}
use Rattle.whole.proofs.Numbers.Sums.{sum_same}
use Rattle.whole.specs.Values.{whole}
use Rattle.rules.specs.Evidence.{Rows, column, plain_of, surplus}
use Rattle.rules.specs.Facts.Evidence.{Contradiction, Multiplier, Multipliers, Numerators, Shown, StrictNamed}
use Rattle.rules.specs.Limit.{Limit}
use Rattle.rules.specs.Problem.{Problem}

module _ (n m : ℕ) (a b : ℕ → ℕ → ℤ) (l u l' u' : ℕ → Option Limit) where
  abbrev P : Problem Limit
  P = record { n = n; m = m; coefficient = a; lower = l; upper = u }

  abbrev Q : Problem Limit
  Q = record { n = n; m = m; coefficient = b; lower = l'; upper = u' }

  pub record Agree : Type 0 where
    pub coefficients : (i j : ℕ) → i < m → j < n → b i j ≡ a i j
    pub lowers : (v : ℕ) → v < n + m → l' v ≡ l v
    pub uppers : (v : ℕ) → v < n + m → u' v ≡ u v

  module _ (E : Agree) where
    rows_alike : (x : ℕ → ℤ) → Rows whole P x → Rows whole Q x
    rows_alike x R i h = R i h
        ∙ sum_same n (λ j. a i j *ℤ x j) (λ j. b i j *ℤ x j) (λ j k. ap (λ c. c *ℤ x j) (sym (E.coefficients i j h k)))

    numerators-alike : (d : ℤ) (x y : ℕ → ℤ) → Numerators P d x y → Numerators Q d x y
    numerators-alike d x y S = record {
      right = record {
        least = S.right.least;
        rows = rows_alike x S.right.rows;
        small-rows = rows_alike y S.right.small-rows;
        lowers = λ v h k e. S.right.lowers v h k (sym (E.lowers v h) ∙ e);
        uppers = λ v h k e. S.right.uppers v h k (sym (E.uppers v h) ∙ e);
      };
      most = S.most;
      numerators = S.numerators;
      smalls = S.smalls;
    }

    column-alike : (y : ℕ → ℤ) (j : ℕ) → j < n → column Q y j ≡ column P y j
    unfolding column
    column-alike y j h = ap (λ z. y j +ℤ z) (sum_same m (λ i. b i j *ℤ y (n + i)) (λ i. a i j *ℤ y (n + i))
        (λ i k. ap (λ c. c *ℤ y (n + i)) (E.coefficients i j k h)))

    surplus-alike : (lo up : ℕ → ℤ) → surplus Q lo up ≡ surplus P lo up
    unfolding surplus
    surplus-alike lo up = sum_same (n + m) _ _ (λ v h.
        ap₂ (λ o p. plain_of o *ℤ lo v -ℤ plain_of p *ℤ up v) (E.lowers v h) (E.uppers v h))

    multipliers-alike : (d : ℤ) (lo up : ℕ → ℤ) → Multipliers P d lo up → Multipliers Q d lo up
    multipliers-alike d lo up S = record {
      right = record {
        no-denominator = S.right.no-denominator;
        lowers = λ v h. subst (λ o. Multiplier o (lo v)) (sym (E.lowers v h)) (S.right.lowers v h);
        uppers = λ v h. subst (λ o. Multiplier o (up v)) (sym (E.uppers v h)) (S.right.uppers v h);
        cancels = λ j h. column-alike (λ v. lo v -ℤ up v) j h ∙ S.right.cancels j h;
        contradiction = go S.right.contradiction;
      };
      lowers-most = S.lowers-most;
      uppers-most = S.uppers-most;
    }
      where
        go : Contradiction P lo up → Contradiction Q lo up
        go (inl h) = inl (rw (surplus-alike lo up) h)
        go (inr (z, (v, h, inl s))) = inr (
          surplus-alike lo up ∙ z,
          (v, h, inl (subst (λ o. StrictNamed o (lo v)) (sym (E.lowers v h)) s)),
        )
        go (inr (z, (v, h, inr s))) = inr (
          surplus-alike lo up ∙ z,
          (v, h, inr (subst (λ o. StrictNamed o (up v)) (sym (E.uppers v h)) s)),
        )

    pub shown-alike : (answer : List ℤ) → Shown P answer → Shown Q answer
    shown-alike answer (inl (e, S)) = inl (e, numerators-alike _ _ _ S)
    shown-alike answer (inr (e, S)) = inr (e, multipliers-alike _ _ _ S)
