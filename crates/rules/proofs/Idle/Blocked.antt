-- A state whose violated row nothing can move, with some limits kept.
--   stay-meets     those of nonbasic variables alone: the state's own values meet them
--   pivot-meets    the violated one, and those of nonbasic variables other than w: w moves until the violated variable
--                  is at its limit, and no other nonbasic variable moves
--   square, rows-times    a square is above 0; a solution times a value is one
use mathlib.Core.Bool.{Bool, true}
use mathlib.Core.Logic.{inl, inr, ◌≢◌, ◌⊎◌}
use mathlib.Core.Option.{some}
use mathlib.Core.Path.{ap, ap₂, refl, sym, ◌∙◌, ◌≡◌}
use mathlib.Core.List.{[], ◌∷◌}
use Prim.Native.Nat.{ℕ, ◌<◌}
use lib.IntN.{pos, ℤ, ◌*ℤ◌}
use lib.Signed.{◌<ℤ◌}
use Rattle.whole.proofs.Bools.{zero_one}
use Rattle.whole.proofs.Ring.Nonneg.{of_lt, slk, ◌⊞◌, ◌⊠◌}
use Rattle.whole.proofs.Numbers.Order.{Sign, *ℤ-pos-pos, minus, null, plus, sign}
use Rattle.whole.proofs.Ring.Reify.{reify}
use Rattle.whole.proofs.Ring.Tools.{lt_at, ring-at}
use Rattle.whole.proofs.Values.Laws.{same-le, scale-nil, scale-total, sum-scale, total-plus, total-same, up}
use Rattle.whole.specs.Values.{Laws, Values, whole}
use Rattle.rules.proofs.Step.Gaps.{gap_back}
use Rattle.rules.proofs.Idle.Kept.{Within-side, meets-kept}
use Rattle.rules.proofs.Run.State.{seated-scaled, values-solve}
use Rattle.rules.specs.Evidence.{Meets, Rows}
use Rattle.rules.specs.Keeping.Limits.{keeping, limit_of}
use Rattle.rules.specs.Problem.{Problem, vars}
use Rattle.rules.specs.Facts.Rule.{Left, Outside, too-high, too-low}
use Rattle.rules.specs.Facts.State.{Sound}
use Rattle.rules.specs.Step.{Leaving, Side, State, above, below, common, gap, limit_at, scaled, seat}
use Rattle.rules.specs.Tableau.{entry}

pub square : (z : ℤ) → z ≢ pos 0 → pos 0 <ℤ (z *ℤ z)
square z n = go (sign z)
  where
    go : Sign z → pos 0 <ℤ (z *ℤ z)
    go (plus h) = *ℤ-pos-pos h h
    go (null e) = absurd (n e)
    go (minus h) = lt_at (z ∷ []) (of_lt h ⊠ of_lt h ⊞ of_lt h ⊞ of_lt h) (search reify depth 30) slk

module _ {X : Type 0} (𝓥 : Values X) (law : Laws 𝓥) where
  open 𝓥 use {nil, scale}

  -- a sum of two solutions, and a multiple of one
  rows-plus : (P : Problem X) (x y : ℕ → X) → Rows 𝓥 P x → Rows 𝓥 P y → Rows 𝓥 P (λ v. 𝓥.plus (x v) (y v))
  rows-plus P x y R S i h =
      ap₂ 𝓥.plus (R i h) (S i h)
      ∙ sym (total-plus law P.n (λ j. scale (P.coefficient i j) (x j)) (λ j. scale (P.coefficient i j) (y j)))
      ∙ total-same law P.n _ _ (λ j k. sym (law.scale-plus (P.coefficient i j) (x j) (y j)))

  rows-scale : (P : Problem X) (a : ℤ) (x : ℕ → X) → Rows 𝓥 P x → Rows 𝓥 P (λ v. scale a (x v))
  rows-scale P a x R i h =
      ap (scale a) (R i h) ∙ scale-total law a P.n (λ j. scale (P.coefficient i j) (x j))
      ∙ total-same law P.n _ _ (λ j k. sym (law.scale-times a (P.coefficient i j) (x j))
      ∙ ap (λ c. scale c (x j)) (swap a (P.coefficient i j)) ∙ law.scale-times (P.coefficient i j) a (x j))
    where
      swap : (a b : ℤ) → a *ℤ b ≡ b *ℤ a
      swap a b = ring-at (a ∷ b ∷ []) (search reify depth 30) refl

  -- a whole-number solution times a value
  pub rows-times : (P : Problem X) (a : ℕ → ℤ) (y : X) → Rows whole P a → Rows 𝓥 P (λ v. scale (a v) y)
  rows-times P a y R i h =
      ap (λ c. scale c y) (R i h) ∙ sum-scale law P.n (λ j. P.coefficient i j *ℤ a j) y
      ∙ total-same law P.n _ _ (λ j k. law.scale-times (P.coefficient i j) (a j) y)

  module _ (P : Problem X) (s : State X) (S : Sound 𝓥 P s) (r : Leaving X) (out : Left 𝓥 P s r) where
    abbrev p : ℕ
    p = r.variable

    abbrev D : ℤ
    D = common s

    -- a nonbasic variable is within its limits, at its value times any d above 0
    sits-within : (σ : Side) (v : ℕ) (x l : X) (d : ℤ) (y : X) → v < vars P → pos 0 <ℤ d → seat s v ≡ some x →
        limit_of P σ v ≡ some l → y ≡ scale d x → Within-side 𝓥 σ d l y
    sits-within below v x l d y h p q k e = rw e (up law p (S.lowers v x l h q k))
    sits-within above v x u d y h p q k e = rw e (up law p (S.uppers v x u h q k))

    -- ---- nonbasic variables alone

    pub stay-meets : (on : Side → ℕ → Bool) →
        ((σ : Side) (v : ℕ) → v < vars P → on σ v ≡ true → (x : X) × (seat s v ≡ some x)) →
        Meets 𝓥 (keeping on P) D (scaled 𝓥 P s)
    stay-meets on sits =
        meets-kept 𝓥 on P D (scaled 𝓥 P s) S.rowed.positive (values-solve 𝓥 law P s S.rowed)
        (λ σ v l h e k. let (x, q) = sits σ v h e in
        sits-within σ v x l D (scaled 𝓥 P s v) h S.rowed.positive q k (seated-scaled 𝓥 law P s S.rowed v x h q))

    -- ---- w moves

    module _ (w : ℕ) (w-var : w < vars P) (moves : entry s.tableau p w ≢ pos 0) where
      abbrev a : ℤ
      a = entry s.tableau p w

      -- what the violated variable lacks
      abbrev lack : X
      lack = gap 𝓥 (scale D (limit_at 𝓥 P r)) (scaled 𝓥 P s p)

      -- over a a D
      abbrev pub shifted : ℕ → X
      shifted v = 𝓥.plus (scale (a *ℤ a) (scaled 𝓥 P s v)) (scale a (scale (entry s.tableau v w) lack))

      rows : Rows 𝓥 P shifted
      rows = rows-plus P (λ v. scale (a *ℤ a) (scaled 𝓥 P s v)) (λ v. scale a (scale (entry s.tableau v w) lack))
          (rows-scale P (a *ℤ a) (scaled 𝓥 P s) (values-solve 𝓥 law P s S.rowed))
          (rows-scale P a (λ v. scale (entry s.tableau v w) lack)
          (rows-times P (λ v. entry s.tableau v w) lack (S.rowed.columns w w-var)))

      -- the violated variable is at its limit
      at-limit : shifted p ≡ scale ((a *ℤ a) *ℤ D) (limit_at 𝓥 P r)
      at-limit =
          ap (𝓥.plus (scale (a *ℤ a) (scaled 𝓥 P s p))) (sym (law.scale-times a a lack))
          ∙ sym (law.scale-plus (a *ℤ a) (scaled 𝓥 P s p) lack)
          ∙ ap (scale (a *ℤ a)) (gap_back 𝓥 law (scale D (limit_at 𝓥 P r)) (scaled 𝓥 P s p))
          ∙ sym (law.scale-times (a *ℤ a) D (limit_at 𝓥 P r))

      -- another nonbasic variable is where it was
      unmoved : (v : ℕ) (x : X) → v < vars P → seat s v ≡ some x → v ≢ w → shifted v ≡ scale ((a *ℤ a) *ℤ D) x
      unmoved v x h e n =
          ap₂ (λ y z. 𝓥.plus (scale (a *ℤ a) y) (scale a z)) (seated-scaled 𝓥 law P s S.rowed v x h e)
          (ap (λ c. scale c lack) (S.rowed.own-zero v w x h w-var e (λ q. n (sym q))) ∙ law.zero-scale lack)
          ∙ ap (𝓥.plus (scale (a *ℤ a) (scale D x))) (scale-nil law a) ∙ law.plus_nil (scale (a *ℤ a) (scale D x))
          ∙ sym (law.scale-times (a *ℤ a) D x)

      over : pos 0 <ℤ ((a *ℤ a) *ℤ D)
      over = *ℤ-pos-pos (square a moves) S.rowed.positive

      same_some : {y z : X} → some y ≡ some z → y ≡ z
      same_some e = cc

      -- so it is within the limit that it violated
      limit-within : {σ : Side} {k : X} → Outside 𝓥 P s p σ k → k ≡ limit_at 𝓥 P r → (τ : Side) (l : X) → σ ≡ τ →
          limit_of P τ p ≡ some l → Within-side 𝓥 τ ((a *ℤ a) *ℤ D) l (shifted p)
      limit-within (too-low f o) q below l c e =
          same-le law (ap (scale ((a *ℤ a) *ℤ D)) (same_some (sym e ∙ f) ∙ q) ∙ sym at-limit)
      limit-within (too-high f o) q above l c e =
          same-le law (at-limit ∙ ap (scale ((a *ℤ a) *ℤ D)) (sym (same_some (sym e ∙ f) ∙ q)))
      limit-within (too-low f o) q above l c e = let z : ◌≡◌ {A = ℕ} 0 1 = cc in zero_one z
      limit-within (too-high f o) q below l c e = let z : ◌≡◌ {A = ℕ} 0 1 = cc in zero_one z

      -- the violated limit, or one of a nonbasic variable other than w
      abbrev Left-over : Side → ℕ → Type 0
      Left-over σ v = ((v ≡ p) × (r.side ≡ σ)) ⊎ ((x : X) × (seat s v ≡ some x) × (v ≢ w))

      pub pivot-meets : (on : Side → ℕ → Bool) →
          ((σ : Side) (v : ℕ) → v < vars P → on σ v ≡ true → Left-over σ v) →
          Meets 𝓥 (keeping on P) ((a *ℤ a) *ℤ D) shifted
      pivot-meets on left = meets-kept 𝓥 on P ((a *ℤ a) *ℤ D) shifted over rows
          (λ σ v l h e k. within σ v l h k (left σ v h e))
        where
          within : (σ : Side) (v : ℕ) (l : X) → v < vars P → limit_of P σ v ≡ some l → Left-over σ v →
              Within-side 𝓥 σ ((a *ℤ a) *ℤ D) l (shifted v)
          within σ v l h k (inl (q, c)) = rw q (limit-within out.outside refl σ l c (rw q at k))
          within σ v l h k (inr (x, q, n)) =
              sits-within σ v x l ((a *ℤ a) *ℤ D) (shifted v) h over q k (unmoved v x h q n)
