-- What the search for the leaving variable says: it is basic and outside on its side, and no lower basic variable is
-- outside.
--   left           of the variable that leaves: `Left` of specs/Facts/Rule
--   none-leaves    no basic variable is outside: `Inside` of specs/Facts/Rule
use mathlib.Core.Bool.{Bool, false, true}
use mathlib.Core.Option.{Option, none, some}
use mathlib.Core.Path.{refl, subst, ◌≡◌}
use Prim.Native.Nat.{ℕ, ◌<◌}
use native.Mathlib.Omega.{arith}
use lib.IntN.{ℤ}
use Rattle.whole.proofs.Lists.Below.{lowest-none, lowest-some}
use Rattle.whole.proofs.Bools.{zero_one}
use Rattle.whole.proofs.Tells.{tells-present}
use Rattle.whole.specs.Tells.{Tells}
use Rattle.whole.specs.Values.{Le, Lt, Values}
use Rattle.rules.specs.Problem.{Problem, vars}
use Rattle.rules.specs.Facts.Rule.{Inside, Left, Outside, too-high, too-low}
use Rattle.rules.specs.Step.{Leaving, State, above, below, broken, common, leaves, leaving, limit_at, over, scaled}
use Rattle.rules.specs.Step.{seat, seated, shortfall_of, under}

module _ {X : Type 0} (𝓥 : Values X) where
  -- ---- the leaving variable

  pub under-tells : (d : ℤ) (x : X) (o : Option X) →
      Tells (under 𝓥 d x o) ((l : X) × (o ≡ some l) × Lt 𝓥 x (𝓥.scale d l))
      ((l : X) → o ≡ some l → Le 𝓥 (𝓥.scale d l) x)
  unfolding under
  under-tells d x = tells-present (under 𝓥 d x) (λ l. 𝓥.less x (𝓥.scale d l)) (λ l. refl) refl

  pub over-tells : (d : ℤ) (x : X) (o : Option X) →
      Tells (over 𝓥 d x o) ((u : X) × (o ≡ some u) × Lt 𝓥 (𝓥.scale d u) x)
      ((u : X) → o ≡ some u → Le 𝓥 x (𝓥.scale d u))
  unfolding over
  over-tells d x = tells-present (over 𝓥 d x) (λ u. 𝓥.less (𝓥.scale d u) x) (λ u. refl) refl

  broken-none : (P : Problem X) (s : State X) (v : ℕ) → broken 𝓥 P s v none ≡ none → Inside 𝓥 P s v
  unfolding broken
  broken-none P s v e = go (under 𝓥 (common s) (scaled 𝓥 P s v) (P.lower v)) refl
      (over 𝓥 (common s) (scaled 𝓥 P s v) (P.upper v)) refl
    where
      go : (a : Bool) → under 𝓥 (common s) (scaled 𝓥 P s v) (P.lower v) ≡ a → (b : Bool) →
          over 𝓥 (common s) (scaled 𝓥 P s v) (P.upper v) ≡ b → Inside 𝓥 P s v
      go true p b q = let z : ◌≡◌ {A = ℕ} 0 1 = cc (rw (p, broken) at e) in zero_one z
      go false p true q = let z : ◌≡◌ {A = ℕ} 0 1 = cc (rw q at (rw (p, broken) at e)) in zero_one z
      go false p false q = record {
        low = (under-tells (common s) (scaled 𝓥 P s v) (P.lower v)).if-false p;
        high = (over-tells (common s) (scaled 𝓥 P s v) (P.upper v)).if-false q;
      }

  low-limit : (P : Problem X) (s : State X) (v : ℕ) →
      (l : X) × (P.lower v ≡ some l) × (Lt 𝓥 (scaled 𝓥 P s v) (𝓥.scale (common s) l)) →
      Outside 𝓥 P s v below (limit_at 𝓥 P (leaves v below (shortfall_of 𝓥 P s v below)))
  unfolding limit_at seated
  low-limit P s v (l, e, h) = rw e (too-low e h)

  high-limit : (P : Problem X) (s : State X) (v : ℕ) →
      (u : X) × (P.upper v ≡ some u) × (Lt 𝓥 (𝓥.scale (common s) u) (scaled 𝓥 P s v)) →
      Outside 𝓥 P s v above (limit_at 𝓥 P (leaves v above (shortfall_of 𝓥 P s v above)))
  unfolding limit_at seated
  high-limit P s v (u, e, h) = rw e (too-high e h)

  Blames : Problem X → State X → ℕ → Option X → Leaving X → Type 0
  Blames P s v o r = (o ≡ none) × (r.variable ≡ v) × (r.shortfall ≡ shortfall_of 𝓥 P s r.variable r.side)
      × Outside 𝓥 P s r.variable r.side (limit_at 𝓥 P r)

  broken-some : (P : Problem X) (s : State X) (v : ℕ) (o : Option X) (r : Leaving X) → broken 𝓥 P s v o ≡ some r →
      Blames P s v o r
  unfolding broken Blames
  broken-some P s v (some x) r e = let z : ◌≡◌ {A = ℕ} 0 1 = cc in zero_one z
  broken-some P s v none r e = go (under 𝓥 (common s) (scaled 𝓥 P s v) (P.lower v)) refl
      (over 𝓥 (common s) (scaled 𝓥 P s v) (P.upper v)) refl
    where
      go : (a : Bool) → under 𝓥 (common s) (scaled 𝓥 P s v) (P.lower v) ≡ a → (b : Bool) →
          over 𝓥 (common s) (scaled 𝓥 P s v) (P.upper v) ≡ b → Blames P s v none r
      go true p b q = let z : ◌≡◌ {A = Leaving X} (leaves v below (shortfall_of 𝓥 P s v below)) r =
          cc (rw (p, broken) at e) in
          subst (Blames P s v none) z (
            refl,
            refl,
            refl,
            low-limit P s v ((under-tells (common s) (scaled 𝓥 P s v) (P.lower v)).if-true p),
          )
      go false p true q = let z : ◌≡◌ {A = Leaving X} (leaves v above (shortfall_of 𝓥 P s v above)) r =
          cc (rw q at (rw (p, broken) at e)) in
          subst (Blames P s v none) z (
            refl,
            refl,
            refl,
            high-limit P s v ((over-tells (common s) (scaled 𝓥 P s v) (P.upper v)).if-true q),
          )
      go false p false q = let z : ◌≡◌ {A = ℕ} 0 1 = cc (rw q at (rw (p, broken) at e)) in zero_one z

  pub left : (P : Problem X) (s : State X) (r : Leaving X) → leaving 𝓥 P s ≡ some r → Left 𝓥 P s r
  unfolding leaving Blames
  left P s r e =
      let f = lowest-some (vars P) (λ v. broken 𝓥 P s v (seat s v)) r e in
      let b : Blames P s f.at (seat s f.at) r = broken-some P s f.at (seat s f.at) r f.is in
      let w : r.variable ≡ f.at = b.1 in
      record {
        variable = omega arith;
        was-basic = rw w b.0;
        exact = b.2;
        outside = b.3;
        inside = λ u h n. broken-none P s u (rw n at (f.first u (omega arith)));
      }

  pub none-leaves : (P : Problem X) (s : State X) → leaving 𝓥 P s ≡ none → (v : ℕ) → v < vars P → seat s v ≡ none →
      Inside 𝓥 P s v
  unfolding leaving
  none-leaves P s e v h n = broken-none P s v (rw n at (lowest-none (vars P) (λ v. broken 𝓥 P s v (seat s v)) e v h))
