-- What follows from what is known of a state (`Rowed`, `Housed`, `Ready`, `Sound` of specs/Facts/State).
--   sound-of, ready-sound, housed-of    where no limits cross, `Sound` is `Rowed` and `Housed`
--   values-solve, seated-scaled         the values solve the rows, and that of a nonbasic variable is in its seat
--   row-holds                           a row holds of every solution of the rows
use mathlib.Core.Bool.{false}
use mathlib.Core.Option.{Option, none, some}
use mathlib.Core.Path.{ap, refl, sym, ◌∙◌, ◌≡◌}
use Prim.Native.Nat.{ℕ, ◌+◌, ◌<◌}
use lib.IntN.{◌*ℤ◌}
use Rattle.whole.proofs.Values.Laws.{scale-total, sum-scale, total-one, total-same, total-swap}
use Rattle.whole.specs.Values.{Laws, Le, Values, total}
use Rattle.rules.proofs.Tableau.Units.{holds_of}
use Rattle.rules.specs.Evidence.{Rows}
use Rattle.rules.specs.Problem.{Problem, vars}
use Rattle.rules.specs.Run.{crossed}
use Rattle.rules.specs.Facts.State.{Apart, Housed, Ready, Rowed, Sound}
use Rattle.rules.specs.Step.{State, common, scaled, seat, seated}
use Rattle.rules.specs.Tableau.{entry}

module _ {X : Type 0} (𝓥 : Values X) where
  apart-uncrossed : (P : Problem X) → Apart 𝓥 P → (v : ℕ) → v < vars P → crossed 𝓥 (P.lower v) (P.upper v) ≡ false
  unfolding crossed
  apart-uncrossed P A v h = go (P.lower v) (P.upper v) (λ l u. A v l u h)
    where
      go : (o p : Option X) → ((l u : X) → o ≡ some l → p ≡ some u → Le 𝓥 l u) → crossed 𝓥 o p ≡ false
      go none p f = refl
      go (some l) none f = refl
      go (some l) (some u) f = f l u refl refl

  pub sound-of : (P : Problem X) (s : State X) → Apart 𝓥 P → Rowed 𝓥 P s → Housed 𝓥 P s → Sound 𝓥 P s
  sound-of P s A R H = record {
    rowed = R;
    lowers = λ v x l h e k. H.low v x l h (apart-uncrossed P A v h) e k;
    uppers = λ v x u h e k. H.high v x u h (apart-uncrossed P A v h) e k;
  }

  pub ready-sound : (P : Problem X) (s : State X) → Apart 𝓥 P → Ready 𝓥 P s → Sound 𝓥 P s
  ready-sound P s A R = sound-of P s A R.rowed R.housed

  pub housed-of : (P : Problem X) (s : State X) → Sound 𝓥 P s → Housed 𝓥 P s
  housed-of P s S = record {
    low = λ v x l h c e k. S.lowers v x l h e k;
    high = λ v x u h c e k. S.uppers v x u h e k;
  }

  -- the values solve the rows, and a seated variable has its value
  module _ (L : Laws 𝓥) (P : Problem X) (s : State X) (S : Rowed 𝓥 P s) where
    pub values-solve : Rows 𝓥 P (scaled 𝓥 P s)
    unfolding scaled
    values-solve i h =
        total-same L (vars P) _ (λ w. total 𝓥 P.n
        (λ j. 𝓥.scale (P.coefficient i j) (𝓥.scale (entry s.tableau j w) (seated 𝓥 (seat s w))))) each
        ∙ total-swap L (vars P) P.n (λ w j. 𝓥.scale (P.coefficient i j)
        (𝓥.scale (entry s.tableau j w) (seated 𝓥 (seat s w))))
        ∙ total-same L P.n _ _ (λ j k. sym
        (scale-total L (P.coefficient i j) (vars P)
        (λ w. 𝓥.scale (entry s.tableau j w) (seated 𝓥 (seat s w)))))
      where
        each : (w : ℕ) → w < vars P → 𝓥.scale (entry s.tableau (P.n + i) w) (seated 𝓥 (seat s w))
            ≡ total 𝓥 P.n (λ j. 𝓥.scale (P.coefficient i j)
            (𝓥.scale (entry s.tableau j w) (seated 𝓥 (seat s w))))
        each w k = ap (λ e. 𝓥.scale e (seated 𝓥 (seat s w))) (S.columns w k i h)
            ∙ sum-scale L P.n (λ j. P.coefficient i j *ℤ entry s.tableau j w) (seated 𝓥 (seat s w))
            ∙ total-same L P.n _ _ (λ j q. L.scale-times (P.coefficient i j) (entry s.tableau j w)
            (seated 𝓥 (seat s w)))

    pub seated-scaled : (v : ℕ) (x : X) → v < vars P → seat s v ≡ some x → scaled 𝓥 P s v ≡ 𝓥.scale (common s) x
    unfolding scaled seated
    seated-scaled v x h e =
        total-one L (vars P) v (λ w. 𝓥.scale (entry s.tableau v w) (seated 𝓥 (seat s w))) h
        (λ w k n. ap (λ a. 𝓥.scale a (seated 𝓥 (seat s w))) (S.own-zero v w x h k e n)
        ∙ L.zero-scale (seated 𝓥 (seat s w)))
        ∙ ap (λ a. 𝓥.scale a (seated 𝓥 (seat s v))) (S.own v x h e) ∙ ap (λ o. 𝓥.scale (common s) (seated 𝓥 o)) e

    -- the row of v holds of every solution of the rows, of any values
    pub row-holds : (x : ℕ → X) → Rows 𝓥 P x → (v : ℕ) → v < vars P →
        𝓥.scale (common s) (x v) ≡ total 𝓥 (vars P) (λ u. 𝓥.scale (entry s.tableau v u) (x u))
    row-holds x R v h = holds_of L P x R (common s) (λ u. entry s.tableau v u) v h (λ y Y. S.holds y Y v h)
