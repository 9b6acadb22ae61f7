-- What the number 8 means. With verdict 1, put any fraction e / k above 0 and up to 1 / 17,179,869,177 for the small
-- amount: the answer's pairs are then fractions that meet every row and limit, a strict one strictly. With verdict 2 no
-- fractions do.
--   met-actually               1 / 17,179,869,177 is such a fraction
--   accepted-means             `Meant` of specs/Facts/Evidence, with `MetSmall`: every such fraction
--   can-means                  the same for verdict 1
use mathlib.Core.List.{List}
use mathlib.Core.Logic.{inl, inr}
use mathlib.Core.Path.{subst, sym, ◌≡◌}
use Prim.Native.Nat.{suc, ℕ}
use native.Mathlib.Omega.{arith}
use lib.IntN.{pos, ℤ, ◌*ℤ◌}
use lib.Signed.{≤ℤ_refl, ◌≤ℤ◌}
use Rattle.whole.proofs.Ring.Laws.{*ℤ-idl}
use Rattle.rules.proofs.Evidence.Checked.{checked-accepted}
use Rattle.rules.proofs.Evidence.Farkas.{farkas}
use Rattle.rules.proofs.Evidence.Satisfied.{satisfied}
use Rattle.rules.specs.Evidence.{checked, denominator_of, lower_part, upper_part, verdict_of}
use Rattle.rules.specs.Limit.{Limit}
use Rattle.rules.specs.Problem.{Problem, problem, vars}
use Rattle.rules.specs.Sizes.{largest_small}
use Rattle.rules.specs.Facts.Evidence.{Meant, MetActually, MetSmall, Shown, can-be-met, cannot-be-met}

-- no word is both
pub one-two : {A : Type 0} {z : ℤ} → z ≡ pos 1 → z ≡ pos 2 → A
one-two e f = let y : ◌≡◌ {A = ℕ} 1 2 = cc in let x : ⊥ = omega arith in absurd x

-- every small fraction up to that one; so that one
met-actually : (P : Problem Limit) (a : List ℤ) → MetSmall P a → MetActually P a
met-actually P a M = M (pos 1) (pos (suc largest_small)) (record { lt = tt }) (once (pos (suc largest_small)))
  where
    once : (k : ℤ) → (pos 1 *ℤ k) ≤ℤ k
    once k = subst (λ z. z ≤ℤ k) (sym (*ℤ-idl k)) (≤ℤ_refl k)

module _ (ws a : List ℤ) (c : checked ws a ≡ 8) where
  abbrev uppers : ℕ → ℤ
  uppers = upper_part (vars (problem ws)) a

  pub accepted-means : Meant (problem ws) a
  accepted-means = go ((checked-accepted ws a).0 c).2
    where
      met : verdict_of a ≡ pos 1 → MetSmall (problem ws) a → Meant (problem ws) a
      met v M = can-be-met v M (met-actually (problem ws) a M)

      go : Shown (problem ws) a → Meant (problem ws) a
      go (inl (v, S)) = met v (satisfied (problem ws) (denominator_of a) (lower_part a) uppers S)
      go (inr (v, S)) = cannot-be-met v (farkas (problem ws) (denominator_of a) (lower_part a) uppers S.right)

  pub can-means : verdict_of a ≡ pos 1 → MetSmall (problem ws) a
  can-means v = go accepted-means
    where
      go : Meant (problem ws) a → MetSmall (problem ws) a
      go (can-be-met w M N) = M
      go (cannot-be-met w U) = one-two v w
