-- A multiplier of a limit that may be missing, by its sign (owed-joined).
use mathlib.Core.Bool.{Bool, false, true, not, ◌&&◌, ◌||◌}
use mathlib.Core.Path.{ap₂, refl, ◌∙◌, ◌≡◌}
use lib.IntN.{pos, ℤ}
use Rattle.whole.proofs.Tells.{tells-eq_z}
use Rattle.whole.specs.Numbers.{eq_z, is_neg}
use Rattle.rules.proofs.Evidence.Joined.{or-none}
use Rattle.rules.specs.Evidence.{owed}
use Rattle.rules.specs.Limit.{Limit, present}
use Rattle.limbs.proofs.Laws.Signs.{sign_below, sign_zero}
use Rattle.limbs.specs.Limbs.{sign_of}

pub owed-joined : (b : Bool) (l : Limit) (k : ℤ) →
    ((b && not (is_neg (sign_of k))) || eq_z (sign_of k) (pos 0)) ≡ owed (present b l) k
unfolding owed present
owed-joined b l k = ap₂ (λ (p q : Bool). (b && not p) || q) (sign_below k) (sign_zero k) ∙ joined b
  where
    joined : (b : Bool) → ((b && not (is_neg k)) || eq_z k (pos 0)) ≡ owed (present b l) k
    joined true = go (eq_z k (pos 0)) refl
      where
        go : (c : Bool) → eq_z k (pos 0) ≡ c → (not (is_neg k) || eq_z k (pos 0)) ≡ not (is_neg k)
        go true e = rw ((tells-eq_z k (pos 0)).if-true e) refl
        go false e = rw e (or-none (not (is_neg k)))
    joined false = refl
