-- A variable that must fall is one that must rise in the order turned round: one view for both sides.
--   sided σ 𝓥      the values with the order that side σ asks for; only the order depends on the side, so the rest
--                  computes
--   near, far      the limit that a variable on that side violates, and the other
--   .. -by         what is known of a variable, seen from a side
use mathlib.Core.Bool.{Bool}
use mathlib.Core.Logic.{inl, inr, ◌⊎◌}
use mathlib.Core.Option.{Option, some}
use mathlib.Core.Path.{◌≡◌}
use Prim.Native.Nat.{ℕ}
use lib.IntN.{pos, ℤ}
use lib.Signed.{◌<ℤ◌}
use Rattle.whole.proofs.Values.Instances.{turned-laws}
use Rattle.whole.proofs.Numbers.Order.{neg-down, neg-down-back, neg-up, neg-up-back}
use Rattle.whole.specs.Values.{Laws, Le, Lt, Values}
use Rattle.rules.specs.Problem.{Problem}
use Rattle.rules.specs.Facts.Rule.{Outside, Stuck, Suits, may-go-down, may-go-up, too-high, too-low}
use Rattle.rules.specs.Step.{Side, State, above, below, common, pull, scaled}

abbrev less_by : {X : Type 0} → Side → (X → X → Bool) → X → X → Bool
less_by below less x y = less x y
less_by above less x y = less y x

-- only the order depends on the side, so 0, sums and multiples compute for an unknown side
abbrev pub sided : {X : Type 0} → Side → Values X → Values X
sided σ 𝓥 = record { nil = 𝓥.nil; plus = 𝓥.plus; scale = 𝓥.scale; less = λ x y. less_by σ 𝓥.less x y }

pub sided-laws : {X : Type 0} {𝓥 : Values X} (σ : Side) → Laws 𝓥 → Laws (sided σ 𝓥)
sided-laws below L = turned-laws (turned-laws L)
sided-laws above L = turned-laws L

-- the limit that a variable on that side violates, and the other
abbrev pub near : {X : Type 0} → Side → Problem X → ℕ → Option X
near below P v = P.lower v
near above P v = P.upper v

abbrev pub far : {X : Type 0} → Side → Problem X → ℕ → Option X
far below P v = P.upper v
far above P v = P.lower v

module _ {X : Type 0} (𝓥 : Values X) (P : Problem X) where
  pub outside-by : {s : State X} {v : ℕ} {σ : Side} {x : X} → Outside 𝓥 P s v σ x →
      (near σ P v ≡ some x) × Lt (sided σ 𝓥) (scaled 𝓥 P s v) (𝓥.scale (common s) x)
  outside-by (too-low e h) = (e, h)
  outside-by (too-high e h) = (e, h)

  -- outside on any side, seen from σ
  pub either-by : {s : State X} {v : ℕ} {τ : Side} {x : X} (σ : Side) → Outside 𝓥 P s v τ x →
      ((near σ P v ≡ some x) × Lt (sided σ 𝓥) (scaled 𝓥 P s v) (𝓥.scale (common s) x))
      ⊎ ((far σ P v ≡ some x) × Lt (sided σ 𝓥) (𝓥.scale (common s) x) (scaled 𝓥 P s v))
  either-by below (too-low e h) = inl (e, h)
  either-by below (too-high e h) = inr (e, h)
  either-by above (too-low e h) = inr (e, h)
  either-by above (too-high e h) = inl (e, h)

  pub no-rise-by : (σ : Side) (w : ℕ) (a : ℤ) (x : X) → Stuck 𝓥 P w (pull σ a) x → pos 0 <ℤ a →
      (u : X) × (far σ P w ≡ some u) × Le (sided σ 𝓥) u x
  unfolding pull
  no-rise-by below w a x S h = S.no-rise h
  no-rise-by above w a x S h = S.no-fall (neg-up a h)

  pub no-fall-by : (σ : Side) (w : ℕ) (a : ℤ) (x : X) → Stuck 𝓥 P w (pull σ a) x → a <ℤ pos 0 →
      (l : X) × (near σ P w ≡ some l) × Le (sided σ 𝓥) x l
  unfolding pull
  no-fall-by below w a x S h = S.no-fall h
  no-fall-by above w a x S h = S.no-rise (neg-down a h)

  pub suits-by : (σ : Side) (w : ℕ) (a : ℤ) (x : X) → Suits 𝓥 P w (pull σ a) x →
      (pos 0 <ℤ a × ((u : X) → far σ P w ≡ some u → Lt (sided σ 𝓥) x u))
      ⊎ (a <ℤ pos 0 × ((l : X) → near σ P w ≡ some l → Lt (sided σ 𝓥) l x))
  unfolding pull
  suits-by below w a x (may-go-up q f) = inl (q, f)
  suits-by below w a x (may-go-down q f) = inr (q, f)
  suits-by above w a x (may-go-up q f) = inr (neg-down-back a q, f)
  suits-by above w a x (may-go-down q f) = inl (neg-up-back a q, f)

  -- within its limits, seen from σ
  pub near_by : (σ : Side) (d : ℤ) (v : ℕ) (y : X) → ((l : X) → P.lower v ≡ some l → Le 𝓥 (𝓥.scale d l) y) →
      ((u : X) → P.upper v ≡ some u → Le 𝓥 y (𝓥.scale d u)) →
      (l : X) → near σ P v ≡ some l → Le (sided σ 𝓥) (𝓥.scale d l) y
  near_by below d v y f g = f
  near_by above d v y f g = g

  pub far-by : (σ : Side) (d : ℤ) (v : ℕ) (y : X) → ((l : X) → P.lower v ≡ some l → Le 𝓥 (𝓥.scale d l) y) →
      ((u : X) → P.upper v ≡ some u → Le 𝓥 y (𝓥.scale d u)) →
      (u : X) → far σ P v ≡ some u → Le (sided σ 𝓥) y (𝓥.scale d u)
  far-by below d v y f g = g
  far-by above d v y f g = f
