-- Values and tests, mapped.
--   scaled-through, shortfall-through
--   under-through, over-through, suits-through, crossed-through
use mathlib.Core.Option.{Option, none, some}
use mathlib.Core.Path.{ap, fun_ext, refl, sym, ◌∙◌, ◌≡◌}
use Prim.Native.Nat.{ℕ, suc, zero}
use lib.IntN.{negsuc, pos, ℤ}
use Rattle.whole.specs.Sums.{sum_by}
use Rattle.whole.specs.Values.{Values, total}
use Rattle.rules.proofs.Plain.Keeps.{Keeps, state_through, problem_through}
use Rattle.rules.proofs.Plain.Choices.{map_at}
use Rattle.rules.specs.Problem.{Problem, mapped, vars}
use Rattle.rules.specs.Run.{crossed}
use Rattle.rules.specs.Step.{Side, State, above, below, gap, may_fall, may_rise, over, scaled, seat, seated}
use Rattle.rules.specs.Step.{shortfall_by, suits, under}
use Rattle.rules.specs.Tableau.{entry}

module _ {X Y : Type 0} (𝓧 : Values X) (𝓨 : Values Y) (h : X → Y) (K : Keeps 𝓧 𝓨 h) where
  -- ---- values

  pub seat-through : (s : State X) (v : ℕ) → seat (state_through h s) v ≡ mapped h (seat s v)
  unfolding mapped
  seat-through s v = map_at (mapped h) s.seats v none

  pub seated-through : (o : Option X) → seated 𝓨 (mapped h o) ≡ h (seated 𝓧 o)
  unfolding mapped seated
  seated-through none = sym K.keeps-nil
  seated-through (some x) = refl

  total-through : (k : ℕ) (f : ℕ → X) → total 𝓨 k (λ v. h (f v)) ≡ h (total 𝓧 k f)
  unfolding sum_by
  total-through zero f = sym K.keeps-nil
  total-through (suc k) f =
      ap (λ z. 𝓨.plus z (h (f k))) (total-through k f) ∙ sym (K.keeps-plus (total 𝓧 k f) (f k))

  pub scaled-through : (P : Problem X) (s : State X) (v : ℕ) →
      scaled 𝓨 (problem_through h P) (state_through h s) v ≡ h (scaled 𝓧 P s v)
  unfolding scaled
  scaled-through P s v =
      ap (total 𝓨 (vars P)) (fun_ext (λ w.
      ap (𝓨.scale (entry s.tableau v w)) (ap (seated 𝓨) (seat-through s w) ∙ seated-through (seat s w))
      ∙ sym (K.keeps-scale (entry s.tableau v w) (seated 𝓧 (seat s w)))))
      ∙ total-through (vars P) (λ w. 𝓧.scale (entry s.tableau v w) (seated 𝓧 (seat s w)))

  gap-through : (x y : X) → gap 𝓨 (h x) (h y) ≡ h (gap 𝓧 x y)
  gap-through x y =
      ap (𝓨.plus (h x)) (sym (K.keeps-scale (negsuc 0) y)) ∙ sym (K.keeps-plus x (𝓧.scale (negsuc 0) y))

  pub shortfall-through : (d : ℤ) (x : X) (l u : Option X) (σ : Side) →
      shortfall_by 𝓨 d (h x) (mapped h l) (mapped h u) σ ≡ h (shortfall_by 𝓧 d x l u σ)
  unfolding shortfall_by
  shortfall-through d x l u below =
      ap (λ z. gap 𝓨 (𝓨.scale d z) (h x)) (seated-through l)
      ∙ ap (λ z. gap 𝓨 z (h x)) (sym (K.keeps-scale d (seated 𝓧 l))) ∙ gap-through (𝓧.scale d (seated 𝓧 l)) x
  shortfall-through d x l u above =
      ap (λ z. gap 𝓨 (h x) (𝓨.scale d z)) (seated-through u)
      ∙ ap (gap 𝓨 (h x)) (sym (K.keeps-scale d (seated 𝓧 u))) ∙ gap-through x (𝓧.scale d (seated 𝓧 u))

  -- ---- tests

  pub under-through : (d : ℤ) (x : X) (o : Option X) → under 𝓨 d (h x) (mapped h o) ≡ under 𝓧 d x o
  unfolding under mapped
  under-through d x none = refl
  under-through d x (some l) = ap (𝓨.less (h x)) (sym (K.keeps-scale d l)) ∙ K.keeps-less x (𝓧.scale d l)

  pub over-through : (d : ℤ) (x : X) (o : Option X) → over 𝓨 d (h x) (mapped h o) ≡ over 𝓧 d x o
  unfolding over mapped
  over-through d x none = refl
  over-through d x (some u) =
      ap (λ z. 𝓨.less z (h x)) (sym (K.keeps-scale d u)) ∙ K.keeps-less (𝓧.scale d u) x

  rise-through : (x : X) (o : Option X) → may_rise 𝓨 (h x) (mapped h o) ≡ may_rise 𝓧 x o
  unfolding may_rise mapped
  rise-through x none = refl
  rise-through x (some u) = K.keeps-less x u

  fall-through : (x : X) (o : Option X) → may_fall 𝓨 (h x) (mapped h o) ≡ may_fall 𝓧 x o
  unfolding may_fall mapped
  fall-through x none = refl
  fall-through x (some l) = K.keeps-less l x

  pub suits-through : (a : ℤ) (o l u : Option X) → suits 𝓨 a (mapped h o) (mapped h l) (mapped h u) ≡ suits 𝓧 a o l u
  unfolding suits mapped
  suits-through a none l u = refl
  suits-through (pos zero) (some x) l u = refl
  suits-through (pos (suc k)) (some x) l u = rise-through x u
  suits-through (negsuc k) (some x) l u = fall-through x l

  pub crossed-through : (l u : Option X) → crossed 𝓨 (mapped h l) (mapped h u) ≡ crossed 𝓧 l u
  unfolding crossed mapped
  crossed-through none u = refl
  crossed-through (some l) none = refl
  crossed-through (some l) (some u) = K.keeps-less u l
