-- The tableau of a basic set is one: any tableau that every solution of the rows obeys, with the same variables basic,
-- D above 0 and common divisor 1, has the numbers of the rule's. So the rule's next tableau does not depend on how the
-- pivot is computed.
--   obeyed-of       every solution of the rows obeys the tableau; no more is asked of the other one (`Obeyed`)
--   crosswise       D of the one times an entry of the other, either way
--   tableau-only    the numbers are equal
--   next-moved, next-only    the rule's next tableau is the one of the next basic set: `Next`
-- `Obeyed` and `Next` are in specs/Facts/Tableau.
use mathlib.Core.Logic.{inl, inr, ◌≢◌, ◌⊎◌}
use mathlib.Core.Option.{Option, none-ne-some, none, some}
use mathlib.Core.Path.{ap, refl, subst, sym, ◌∙◌, ◌≡◌}
use Prim.Native.Nat.{ℕ, ◌*◌, ◌<◌, ◌∣◌}
use native.Mathlib.Nat.{dvd_antisymm, dvd-mul_left, dvd-mul_right, mul_comm, mul-one}
use lib.IntN.{*ℤ_comm, *ℤ-zero, nat_abs, pos, zero-*ℤ, ◌*ℤ◌}
use Rattle.whole.proofs.Numbers.Order.{<ℤ→≤ℤ, cancel}
use Rattle.whole.proofs.Numbers.Sizes.{abs-*}
use Rattle.whole.proofs.Numbers.Sums.{sum_one}
use Rattle.whole.proofs.Numbers.Tests.{own-size}
use Rattle.whole.specs.Values.{Values}
use Rattle.rules.proofs.Step.Entering.{swap}
use Rattle.rules.proofs.Tableau.Lowest.{divisor-times}
use Rattle.rules.proofs.Tableau.Pivot.{lowest-moved, rowed-moved, was-none}
use Rattle.rules.specs.Problem.{Problem, vars}
use Rattle.rules.specs.Facts.Rule.{Entered, Left, Swap}
use Rattle.rules.specs.Facts.State.{Rowed}
use Rattle.rules.specs.Step.{Leaving, State, common, limit_at, moved, seat}
use Rattle.rules.specs.Tableau.{Tableau, divisor_size, entry}
use Rattle.rules.specs.Facts.Tableau.{Next, Obeyed, SameBasis, SameNumbers}

module _ {X : Type 0} (𝓥 : Values X) (P : Problem X) where
  obeyed-of : (s : State X) → Rowed 𝓥 P s → Obeyed 𝓥 P s
  obeyed-of s S = record { positive = S.positive; holds = S.holds; basic-zero = S.basic-zero }

  -- D of the one times an entry of the other
  abbrev Proportional : Tableau → Tableau → Type 0
  Proportional t u = (v w : ℕ) → v < vars P → w < vars P → t.common *ℤ entry u v w ≡ entry t v w *ℤ u.common

  crosswise : (s t : State X) → Obeyed 𝓥 P s → Rowed 𝓥 P t → SameBasis 𝓥 P s t →
      Proportional s.tableau t.tableau
  crosswise s t S T same v w h k = go (seat t w) refl
    where
      -- the entries of column w of t, in row v of s: nothing but at w itself
      else-zero : (u : ℕ) → u < vars P → u ≢ w → (o : Option X) → seat t u ≡ o →
          entry s.tableau v u *ℤ entry t.tableau u w ≡ pos 0
      else-zero u l n none e = rw (S.basic-zero v u h l ((same u l).1 e)) (zero-*ℤ (entry t.tableau u w))
      else-zero u l n (some x) e = rw (T.own-zero u w x l k e (λ z. n (sym z))) (*ℤ-zero (entry s.tableau v u))

      go : (o : Option X) → seat t w ≡ o → common s *ℤ entry t.tableau v w ≡ entry s.tableau v w *ℤ common t
      go none e = rw (T.basic-zero v w h k e, S.basic-zero v w h k ((same w k).1 e))
          (*ℤ-zero (common s) ∙ sym (zero-*ℤ (common t)))
      go (some x) e = S.holds (λ u. entry t.tableau u w) (T.columns w k) v h
          ∙ sum_one (vars P) w (λ u. entry s.tableau v u *ℤ entry t.tableau u w) k
          (λ u l n. else-zero u l n (seat t u) refl)
          ∙ ap (λ z. entry s.tableau v w *ℤ z) (T.own w x k e)

  -- D of t divides D of u, where t is in lowest form
  common-divides : (t u : Tableau) → Proportional t u → divisor_size (vars P) t ≡ 1 →
      nat_abs t.common ∣ nat_abs u.common
  common-divides t u cross e = subst (λ z. a ∣ z) (ap (λ g. b * g) e ∙ mul-one b)
      (divisor-times (vars P) t a b (dvd-mul_left a b)
      (λ v w h k. subst (λ z. a ∣ z) (sizes v w h k) (dvd-mul_right a (nat_abs (entry u v w)))))
    where
      a : ℕ
      a = nat_abs t.common

      b : ℕ
      b = nat_abs u.common

      sizes : (v w : ℕ) → v < vars P → w < vars P → a * nat_abs (entry u v w) ≡ b * nat_abs (entry t v w)
      sizes v w h k = sym (abs-* t.common (entry u v w)) ∙ ap nat_abs (cross v w h k)
          ∙ abs-* (entry t v w) u.common ∙ mul_comm (nat_abs (entry t v w)) b

  pub tableau-only : (s t : State X) → Obeyed 𝓥 P s → Rowed 𝓥 P t → SameBasis 𝓥 P s t →
      divisor_size (vars P) s.tableau ≡ 1 → divisor_size (vars P) t.tableau ≡ 1 →
      SameNumbers 𝓥 P s.tableau t.tableau
  tableau-only s t S T same p q = (D-same, λ v w h k. cancel (common s) _ _ (inl S.positive) (turn v w h k))
    where
      cross : Proportional s.tableau t.tableau
      cross = crosswise s t S T same

      back : Proportional t.tableau s.tableau
      back v w h k = *ℤ_comm (common t) (entry s.tableau v w) ∙ sym (cross v w h k)
          ∙ *ℤ_comm (common s) (entry t.tableau v w)

      D-same : common s ≡ common t
      D-same = own-size 0 (common s) (<ℤ→≤ℤ S.positive)
          ∙ ap pos (dvd_antisymm (common-divides s.tableau t.tableau cross p)
          (common-divides t.tableau s.tableau back q))
          ∙ sym (own-size 0 (common t) (<ℤ→≤ℤ T.positive))

      turn : (v w : ℕ) → v < vars P → w < vars P →
          common s *ℤ entry s.tableau v w ≡ common s *ℤ entry t.tableau v w
      turn v w h k = *ℤ_comm (common s) (entry s.tableau v w) ∙ ap (λ z. entry s.tableau v w *ℤ z) D-same
          ∙ sym (cross v w h k)

  -- ---- the next tableau

  module _ (s : State X) (S : Rowed 𝓥 P s) (r : Leaving X) (w : ℕ) (L : Left 𝓥 P s r) (E : Entered 𝓥 P s r w) where
    W : Swap (seat s) (seat (moved 𝓥 P s r w)) r.variable w (limit_at 𝓥 P r)
    W = swap 𝓥 P s r w S.seats-many L E

    -- the rule's next state is one such
    pub next-moved : Next 𝓥 P s r w (moved 𝓥 P s r w)
    next-moved = record {
      obeyed = obeyed-of (moved 𝓥 P s r w) (rowed-moved 𝓥 P s S r w L E);
      lowest-form = lowest-moved 𝓥 P s S r w L E;
      basis = λ v h. (was-none 𝓥 P s S r w L E v, back v);
    }
      where
        back : (v : ℕ) → (v ≡ w) ⊎ ((v ≢ r.variable) × (seat s v ≡ none)) → seat (moved 𝓥 P s r w) v ≡ none
        back v (inl e) = rw e W.now-basic
        back v (inr (n, e)) = W.others v n
            (λ z. none-ne-some E.value (sym e ∙ ap (seat s) z ∙ E.was-seated)) ∙ e

    -- .. and any other has the same numbers
    pub next-only : (t : State X) → Next 𝓥 P s r w t → SameNumbers 𝓥 P t.tableau (moved 𝓥 P s r w).tableau
    next-only t T = tableau-only t (moved 𝓥 P s r w) T.obeyed (rowed-moved 𝓥 P s S r w L E)
        (λ v h. (λ e. (next-moved.basis v h).1 ((T.basis v h).0 e), λ e. (T.basis v h).1 ((next-moved.basis v h).0 e)))
        T.lowest-form next-moved.lowest-form
