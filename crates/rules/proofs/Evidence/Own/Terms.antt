-- The numbers that multipliers are made of.
--   positive-yes, positive-range, positive-parts    the part of a number above 0
--   turn, pull-is                                   a side as a factor
use mathlib.Core.Bool.{cond}
use mathlib.Core.List.{[], ◌∷◌}
use mathlib.Core.Path.{ap, ap₂, refl, sym, ◌∙◌, ◌≡◌}
use Prim.Native.Nat.{ℕ}
use native.Mathlib.Omega.{arith}
use lib.IntN.{+ℤ_idl, +ℤ_idr, negsuc, neg_ℤ, pos, ℤ, ◌*ℤ◌, ◌-ℤ◌}
use lib.Signed.{≤ℤ_refl, ◌<ℤ◌, ◌≤ℤ◌}
use Rattle.whole.proofs.Numbers.Order.{<ℤ→≤ℤ, Sign, lt→true, minus, neg-down, neg-up, null, plus, sign}
use Rattle.whole.proofs.Ring.Reify.{reify}
use Rattle.whole.proofs.Ring.Laws.{*ℤ-idl}
use Rattle.whole.proofs.Numbers.Sizes.{within-hi}
use Rattle.whole.proofs.Ring.Tools.{ring-at}
use Rattle.whole.specs.Numbers.{Within}
use Rattle.rules.proofs.Step.Blame.{positive-down}
use Rattle.rules.specs.Step.{Side, above, below, positive, pull}

-- ---- the part of a number above 0

pub positive-yes : (z : ℤ) → pos 0 <ℤ z → positive z ≡ z
positive-yes z h = ap (λ b. cond b z (pos 0)) (lt→true h)

pub positive-range : (k : ℕ) (z : ℤ) → Within z k → (pos 0 ≤ℤ positive z) × (positive z ≤ℤ pos k)
positive-range k z w = go (sign z)
  where
    none_of : z ≤ℤ pos 0 → (pos 0 ≤ℤ positive z) × (positive z ≤ℤ pos k)
    none_of h = rw (positive-down z h) (
      ≤ℤ_refl (pos 0),
      within-hi {z = pos 0} {n = k}
          (record { within = omega arith }),
    )

    go : Sign z → (pos 0 ≤ℤ positive z) × (positive z ≤ℤ pos k)
    go (plus h) = rw (positive-yes z h) (<ℤ→≤ℤ h, within-hi w)
    go (null e) = none_of (rw e (≤ℤ_refl (pos 0)))
    go (minus h) = none_of (<ℤ→≤ℤ h)

pub positive-parts : (z : ℤ) → positive (neg_ℤ z) -ℤ positive z ≡ neg_ℤ z
positive-parts z = go (sign z)
  where
    go : Sign z → positive (neg_ℤ z) -ℤ positive z ≡ neg_ℤ z
    go (plus h) = ap₂ ◌-ℤ◌ (positive-down (neg_ℤ z) (<ℤ→≤ℤ (neg-up z h))) (positive-yes z h) ∙ +ℤ_idl (neg_ℤ z)
    go (null e) = rw e refl
    go (minus h) = ap₂ ◌-ℤ◌ (positive-yes (neg_ℤ z) (neg-down z h)) (positive-down z (<ℤ→≤ℤ h)) ∙ +ℤ_idr (neg_ℤ z)

-- ---- a side as a factor

abbrev pub turn : Side → ℤ
turn below = pos 1
turn above = negsuc 0

pub pull-is : (σ : Side) (a : ℤ) → pull σ a ≡ turn σ *ℤ a
unfolding pull
pull-is below a = sym (*ℤ-idl a)
pull-is above a = ring-at (a ∷ []) (search reify depth 30) refl
