-- How large multipliers are that passed their test, and a limit times its multiplier, missing or not.
--   multiplied                  every multiplier is within the largest number
--   net-within                  a lower limit times its multiplier less an upper limit times its own
use mathlib.Core.Path.{◌≡◌}
use mathlib.Core.Bool.{Bool, true, false, not}
use mathlib.Core.List.{List}
use Prim.Native.Nat.{ℕ, ◌+◌, ◌*◌, ◌<◌}
use lib.Dec.{lit≤}
use lib.IntN.{ℤ, pos, zero-*ℤ, ◌-ℤ◌, ◌*ℤ◌}
use lib.Signed.{lt_z}
use Rattle.whole.specs.Numbers.{Within, eq_z, is_neg}
use Rattle.whole.proofs.Lists.Below.{all-each}
use Rattle.whole.proofs.Bools.{and-true, not-true}
use Rattle.whole.proofs.Tells.{tells-eq_z}
use Rattle.whole.proofs.Numbers.Order.{false→le}
use Rattle.whole.proofs.Numbers.Tests.{under-size}
use Rattle.whole.proofs.Numbers.Sizes.{within-*, within--}
use Rattle.rules.specs.Sizes.{largest_limit, largest_number}
use Rattle.rules.specs.Limit.{Limit, present}
use Rattle.rules.specs.Evidence.{lower_part, upper_part, fair, modest, owed, plain_of}
use Rattle.amounts.specs.declared.Given.{Given}
use Rattle.amounts.specs.Amounts.{limit_in}
use Rattle.tableau.specs.declared.Limits.{Limits}
use Rattle.tableau.specs.Parts.{lower_given, lower_of, upper_given, upper_of}
use Rattle.parts.specs.Reads.{Multiplied, fair_at, multipliers_fair}

weight-within : (b : Bool) (l : Limit) (k : ℤ) → Within l.plain largest_limit → Within k largest_number →
    Within (plain_of (present b l) *ℤ k) (largest_limit * largest_number)
unfolding plain_of present
weight-within true l k h g = within-* h g
weight-within false l k h g = rw (zero-*ℤ k) (record { within = lit≤ tt })

pub net-within : (l u : Given) (i k : ℤ) → Within l.plain largest_limit → Within i largest_number →
    Within u.plain largest_limit → Within k largest_number →
    Within (plain_of (limit_in l) *ℤ i -ℤ plain_of (limit_in u) *ℤ k)
    (largest_limit * largest_number + largest_limit * largest_number)
net-within l u i k p q r s = within-- (weight-within l.on _ i p q) (weight-within u.on _ k r s)

fair-within : (b : Bool) (l : Limit) (k : ℤ) → fair (present b l) k ≡ true → Within k largest_number
unfolding owed present
fair-within true l k e = let (p, q) = and-true (not (is_neg k)) (modest k) e in
    record {
      within = under-size largest_number 0 k (false→le {a = pos 0} {b = k} (not-true (is_neg k) p))
          (false→le {a = k} {b = pos largest_number} (not-true (lt_z (pos largest_number) k) q));
    }
fair-within false l k e = let (p, q) = and-true (eq_z k (pos 0)) (modest k) e in
    rw ((tells-eq_z k (pos 0)).if-true p) (record { within = lit≤ tt })

pub multiplied : (l : Limits) (a : List ℤ) (variables : ℕ) → multipliers_fair l a variables ≡ true →
    Multiplied a variables
unfolding multipliers_fair
multiplied l a variables e = record {
  lower-within = λ v h. low v h (both v h);
  upper-within = λ v h. high v h (both v h);
}
  where
    lower : ℕ → Bool
    lower v = fair (lower_of l v) (lower_part a v)

    upper : ℕ → Bool
    upper v = fair (upper_of l v) (upper_part variables a v)

    both : (v : ℕ) → v < variables → (lower v ≡ true) × (upper v ≡ true)
    both v h = and-true (lower v) (upper v) (all-each variables (fair_at l a variables) e v h)

    low : (v : ℕ) → v < variables → (lower v ≡ true) × (upper v ≡ true) → Within (lower_part a v) largest_number
    low v h p = fair-within (lower_given l v).on _ (lower_part a v) p.0

    high : (v : ℕ) → v < variables → (lower v ≡ true) × (upper v ≡ true) →
        Within (upper_part variables a v) largest_number
    high v h p = fair-within (upper_given l v).on _ (upper_part variables a v) p.1
