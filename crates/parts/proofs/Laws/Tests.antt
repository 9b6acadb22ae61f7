-- Tests without a branch: each is asked for, and the answers are joined.
--   not-not, not-either                a test that is denied twice; neither of two
--   outside-largest                    a test of both sides is one of the size
--   at-least-joined, at-most-joined    a limit that may be missing
--   fair-joined, named-joined          a multiplier of a limit that may be missing
use mathlib.Core.Path.{◌≡◌, refl, ◌∙◌, ap}
use mathlib.Core.Bool.{Bool, true, false, not, ◌&&◌, ◌||◌}
use lib.IntN.{ℤ, nat_abs, negsuc, neg_ℤ, pos, ◌*ℤ◌}
use lib.Signed.{lt_z, ◌≤ℤ◌}
use Rattle.whole.specs.Numbers.{outside, eq_z, is_neg, within}
use Rattle.whole.proofs.Tells.{outside-within, tells-eq_z}
use Rattle.rules.proofs.Evidence.Joined.{or-none}
use Rattle.rules.specs.Limit.{Limit, present}
use Rattle.rules.specs.Sizes.{largest_number}
use Rattle.rules.specs.Evidence.{at_least, at_most, clears, fair, modest, owed, strict_named}

pub not-not : (b : Bool) → not (not b) ≡ b
not-not true = refl
not-not false = refl

pub not-either : (a b : Bool) → not (a || b) ≡ (not a && not b)
not-either true b = refl
not-either false b = refl

pub outside-largest : (k z : ℤ) → pos 0 ≤ℤ k → (lt_z z (neg_ℤ k) || lt_z k z) ≡ not (within (nat_abs k) z)
outside-largest (pos n) z h = outside-within n z
outside-largest (negsuc n) z h = absurd h.le

-- ---- a limit

-- p is the limit's number over d, and r what the order of the pairs says
module _ (l : Limit) (d x y : ℤ) {p : ℤ} {r : Bool} (e : p ≡ d *ℤ l.plain) where
  pub at-least-joined : (there : Bool) → r ≡ clears l.strict (p, pos 0) (x, y) →
      (not there || r) ≡ at_least (present there l) d (x, y)
  unfolding at_least present
  at-least-joined true h = h ∙ ap (λ z. clears l.strict (z, pos 0) (x, y)) e
  at-least-joined false h = refl

  pub at-most-joined : (there : Bool) → r ≡ clears l.strict (x, y) (p, pos 0) →
      (not there || r) ≡ at_most (present there l) d (x, y)
  unfolding at_most present
  at-most-joined true h = h ∙ ap (λ z. clears l.strict (x, y) (z, pos 0)) e
  at-most-joined false h = refl

-- ---- a multiplier

-- where it is 0 it is right and in its range
fair-zero : (k : ℤ) (b : Bool) → (eq_z k (pos 0) ≡ true → b ≡ true) → (b || eq_z k (pos 0)) ≡ b
fair-zero k b h = go (eq_z k (pos 0)) refl
  where
    go : (c : Bool) → eq_z k (pos 0) ≡ c → (b || eq_z k (pos 0)) ≡ b
    go true e = rw (h e) refl
    go false e = rw e (or-none b)

pub fair-joined : (b : Bool) (l : Limit) (k : ℤ) →
    ((b && not (outside 0 largest_number k)) || eq_z k (pos 0)) ≡ fair (present b l) k
unfolding owed outside present
fair-joined true l k = ap (λ (c : Bool). c || eq_z k (pos 0)) (not-either (is_neg k) (lt_z (pos largest_number) k))
    ∙ fair-zero k (not (is_neg k) && modest k) (λ e. rw ((tells-eq_z k (pos 0)).if-true e) refl)
fair-joined false l k = go (eq_z k (pos 0)) refl
  where
    go : (b : Bool) → eq_z k (pos 0) ≡ b → b ≡ (b && modest k)
    go true e = rw ((tells-eq_z k (pos 0)).if-true e) refl
    go false e = refl

pub named-joined : (b : Bool) (l : Limit) (k : ℤ) →
    (b && (l.strict && not (eq_z k (pos 0)))) ≡ strict_named (present b l) k
unfolding strict_named present
named-joined true l k = refl
named-joined false l k = refl
