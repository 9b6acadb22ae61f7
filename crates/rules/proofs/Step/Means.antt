-- Demand 2 over states: where no variable leaves the values meet the problem, and where none can enter no fractions do.
--   can-is-met, cannot-is-unmet
--   lower-met, upper-met    a limit that may be missing, as a fact of the one that is there; -back
use mathlib.Core.Option.{Option, none, some}
use mathlib.Core.Path.{refl, ◌≡◌}
use Prim.Native.Nat.{ℕ, ◌<◌}
use lib.IntN.{ℤ}
use Rattle.whole.proofs.Values.Laws.{up}
use Rattle.whole.specs.Values.{Laws, Le, Values}
use Rattle.rules.proofs.Termination.Clash.{Barred, barred}
use Rattle.rules.proofs.Step.Entering.{none-enters}
use Rattle.rules.proofs.Step.Leaving.{left, none-leaves}
use Rattle.rules.proofs.Step.Sides.{far, far-by, near, near_by, no-fall-by, no-rise-by, outside-by, sided}
use Rattle.rules.proofs.Step.Sides.{sided-laws}
use Rattle.rules.proofs.Run.State.{row-holds, seated-scaled, values-solve}
use Rattle.rules.specs.Evidence.{AtLeast, AtMost, Meets, Unmet}
use Rattle.rules.specs.Problem.{Problem, vars}
use Rattle.rules.specs.Facts.Rule.{Left}
use Rattle.rules.specs.Facts.State.{Sound}
use Rattle.rules.specs.Step.{Leaving, Side, State, common, entering, leaves, leaving, limit_at, scaled}
use Rattle.rules.specs.Step.{seat, seated}
use Rattle.rules.specs.Tableau.{entry}

module _ {X : Type 0} (𝓥 : Values X) where
  pub lower-met : (o : Option X) (d : ℤ) (x : X) → ((l : X) → o ≡ some l → Le 𝓥 (𝓥.scale d l) x) → AtLeast 𝓥 o d x
  lower-met none d x f = tt
  lower-met (some l) d x f = f l refl

  pub upper-met : (o : Option X) (d : ℤ) (x : X) → ((u : X) → o ≡ some u → Le 𝓥 x (𝓥.scale d u)) → AtMost 𝓥 o d x
  upper-met none d x f = tt
  upper-met (some u) d x f = f u refl

  lower-met-back : (o : Option X) (d : ℤ) (x : X) → AtLeast 𝓥 o d x → (l : X) → o ≡ some l → Le 𝓥 (𝓥.scale d l) x
  lower-met-back o d x h l e = rw e at h

  upper-met-back : (o : Option X) (d : ℤ) (x : X) → AtMost 𝓥 o d x → (u : X) → o ≡ some u → Le 𝓥 x (𝓥.scale d u)
  upper-met-back o d x h u e = rw e at h

  module _ (law : Laws 𝓥) (P : Problem X) (s : State X) (S : Sound 𝓥 P s) where
    pub can-is-met : leaving 𝓥 P s ≡ none → Meets 𝓥 P (common s) (scaled 𝓥 P s)
    can-is-met e = record {
      positive = S.rowed.positive;
      rows = values-solve 𝓥 law P s S.rowed;
      lowers = λ v h. lower-met (P.lower v) (common s) (scaled 𝓥 P s v) (λ l k. low v h l k (seat s v) refl);
      uppers = λ v h. upper-met (P.upper v) (common s) (scaled 𝓥 P s v) (λ u k. high v h u k (seat s v) refl);
    }
      where
        low : (v : ℕ) → v < vars P → (l : X) → P.lower v ≡ some l → (o : Option X) → seat s v ≡ o →
            Le 𝓥 (𝓥.scale (common s) l) (scaled 𝓥 P s v)
        low v h l k none q = (none-leaves 𝓥 P s e v h q).low l k
        low v h l k (some x) q = rw (seated-scaled 𝓥 law P s S.rowed v x h q)
            (up law S.rowed.positive (S.lowers v x l h q k))

        high : (v : ℕ) → v < vars P → (u : X) → P.upper v ≡ some u → (o : Option X) → seat s v ≡ o →
            Le 𝓥 (scaled 𝓥 P s v) (𝓥.scale (common s) u)
        high v h u k none q = (none-leaves 𝓥 P s e v h q).high u k
        high v h u k (some x) q = rw (seated-scaled 𝓥 law P s S.rowed v x h q)
            (up law S.rowed.positive (S.uppers v x u h q k))

    module _ (d : ℤ) (x : ℕ → X) (M : Meets 𝓥 P d x) where
      bar : (σ : Side) (p : ℕ) (f : X) → Left 𝓥 P s (leaves p σ f) →
          entering 𝓥 P s (leaves p σ f) ≡ none → Barred (sided σ 𝓥)
      unfolding scaled seated
      bar σ p f L e = record {
        N = vars P;
        lower = near σ P;
        upper = far σ P;
        p = p;
        p-var = L.variable;
        d = d;
        d-pos = M.positive;
        x = x;
        low_ok = λ v l h. near_by 𝓥 P σ d v (x v) (lower-met-back (P.lower v) d (x v) (M.lowers v h))
            (upper-met-back (P.upper v) d (x v) (M.uppers v h)) l;
        high-ok = λ v u h. far-by 𝓥 P σ d v (x v) (lower-met-back (P.lower v) d (x v) (M.lowers v h))
            (upper-met-back (P.upper v) d (x v) (M.uppers v h)) u;
        d_t = common s;
        d_t-pos = S.rowed.positive;
        a = λ w. entry s.tableau p w;
        seat_t = seat s;
        basic-zero = λ w h q. S.rowed.basic-zero p w L.variable h q;
        row-of-x = row-holds 𝓥 law P s S.rowed x M.rows p L.variable;
        no-rise = λ w y h q. no-rise-by 𝓥 P σ w (entry s.tableau p w) y (none-enters 𝓥 P s (leaves p σ f) e w y h q);
        no-fall = λ w y h q. no-fall-by 𝓥 P σ w (entry s.tableau p w) y (none-enters 𝓥 P s (leaves p σ f) e w y h q);
        lp = limit_at 𝓥 P (leaves p σ f);
        lp-is = (outside-by 𝓥 P L.outside).0;
        p-broken = (outside-by 𝓥 P L.outside).1;
      }

    pub cannot-is-unmet : (r : Leaving X) → leaving 𝓥 P s ≡ some r → entering 𝓥 P s r ≡ none → Unmet 𝓥 P
    cannot-is-unmet r l e d x M = barred (sided r.side 𝓥) (sided-laws r.side law)
        (bar d x M r.side r.variable r.shortfall (left 𝓥 P s r l) e)
