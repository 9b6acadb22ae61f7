-- By which limit a value is outside, and when a variable suits, over pairs.
--   stated                           the limit of a record
--   gap_parts                        a gap of pairs is the difference of their parts
--   breach-under, -over, -none       the breach by the two tests
--   under-tested, over-tested        the two tests, as the code asks them
--   under-, over-, rise-, fall-, suits-joined       the tests, joined without a branch
use Prim.Native.Nat.{ℕ, zero, suc}
use mathlib.Core.Path.{◌≡◌, refl, sym, ap, ap₂, ◌∙◌}
use mathlib.Core.Bool.{Bool, true, false, not, ◌&&◌, ◌||◌, beq}
use mathlib.Core.List.{[], ◌∷◌}
use mathlib.Core.Option.{Option, none}
use native.Mathlib.Omega.{arith}
use Rattle.std.proofs.Common.{Some, None}
use Rattle.std.specs.Ordering.{partial_lt}
use borrow.Author.Tests.{ne_eqb}
use lib.Dec.{leb-suc-zero}
use lib.IntN.{ℤ, pos, negsuc, ◌-ℤ◌}
use lib.Signed.{lt_z}
use Rattle.whole.specs.Numbers.{eq_z}
use Rattle.whole.specs.Values.{pairs, whole}
use Rattle.whole.proofs.Bools.{true-false}
use Rattle.whole.proofs.Ring.Reify.{reify}
use Rattle.whole.proofs.Ring.Tools.{ring-at}
use Rattle.rules.specs.Limit.{Limit, lower_pair, present, upper_pair}
use Rattle.rules.specs.Problem.{mapped}
use Rattle.rules.specs.Step.{Side, above, below, gap, may_fall, may_rise, over, pull, seated, shortfall_by, suits}
use Rattle.rules.specs.Step.{under}
use Rattle.amounts.specs.contracts.AmountPartialOrd.TheImpl as amounts
use Rattle.amounts.specs.declared.Amount.{Amount}
use Rattle.amounts.specs.declared.Given.{Given}
use Rattle.amounts.specs.Amounts.{amount_of, given_lower, given_upper, pair_of}
use Rattle.amounts.proofs.Laws.Order.{amount-less}
use Rattle.sides.specs.declared.Breach.{Breach}
use Rattle.sides.specs.declared.LimitPair.{LimitPair}
use Rattle.sides.specs.Sides.{side_from, side_of, as_breach, least_in, most_in, lower_in, upper_in, breach_of, suits_of}

abbrev is_less : Amount → Amount → Bool
is_less = partial_lt amounts.partial_cmp-value.it

gap_is : (x y : ℤ) → gap whole x y ≡ x -ℤ y
gap_is x y = ring-at (x ∷ y ∷ []) (search reify depth 30) refl

pub gap_parts : (x y : ℤ × ℤ) → gap pairs x y ≡ (x.0 -ℤ y.0, x.1 -ℤ y.1)
gap_parts x y = ap₂ (λ a b. (a, b)) (gap_is x.0 y.0) (gap_is x.1 y.1)

-- the limit of a record, where there is one
abbrev pub stated : Given → Limit
stated g = record { plain = g.plain; strict = g.strict }

-- a limit that is there
is-there : (f : Limit → ℤ × ℤ) (b : Bool) (l : Limit) (test : Option (ℤ × ℤ) → Bool) → test none ≡ false →
    test (mapped f (present b l)) ≡ true → seated pairs (mapped f (present b l)) ≡ f l
unfolding seated present mapped
is-there f true l test n e = refl
is-there f false l test n e = true-false e n

module _ (d : ℤ) (x : ℤ × ℤ) (p : LimitPair) where
  abbrev short : Side → ℤ × ℤ
  short = shortfall_by pairs d x (lower_in p) (upper_in p)

  short-below : under pairs d x (lower_in p) ≡ true → short below ≡ gap pairs (pairs.scale d (given_lower p.lower)) x
  unfolding shortfall_by under
  short-below e = ap (λ l. gap pairs (pairs.scale d l) x)
      (is-there lower_pair p.lower.on (stated p.lower) (under pairs d x) refl e)

  short-above : over pairs d x (upper_in p) ≡ true → short above ≡ gap pairs x (pairs.scale d (given_upper p.upper))
  unfolding shortfall_by over
  short-above e = ap (λ u. gap pairs x (pairs.scale d u))
      (is-there upper_pair p.upper.on (stated p.upper) (over pairs d x) refl e)

  -- a breach on a side
  abbrev told : Bool → ℤ × ℤ → Breach
  told rises z = record { rises = rises; shortfall = amount_of z }

  pub breach-under : under pairs d x (lower_in p) ≡ true →
      Some (told true (gap pairs (pairs.scale d (given_lower p.lower)) x)) ≡ breach_of d x p
  unfolding breach_of side_of
  breach-under e = ap (λ z. Some (told true z)) (sym (short-below e))
      ∙ sym (ap (λ t. as_breach (side_from t (over pairs d x (upper_in p))) short) e)

  pub breach-over : under pairs d x (lower_in p) ≡ false → over pairs d x (upper_in p) ≡ true →
      Some (told false (gap pairs x (pairs.scale d (given_upper p.upper)))) ≡ breach_of d x p
  unfolding breach_of side_of
  breach-over e f = ap (λ z. Some (told false z)) (sym (short-above f))
      ∙ sym (ap₂ (λ t o. as_breach (side_from t o) short) e f)

  pub breach-none : under pairs d x (lower_in p) ≡ false → over pairs d x (upper_in p) ≡ false → None ≡ breach_of d x p
  unfolding breach_of side_of
  breach-none e f = sym (ap₂ (λ t o. as_breach (side_from t o) short) e f)

-- ---- the tests without a branch

-- .. of a limit l, which is there where b says so
module _ (f : Limit → ℤ × ℤ) (l : Limit) where
  under-there : (b : Bool) (d : ℤ) (x : ℤ × ℤ) →
      (b && pairs.less x (pairs.scale d (f l))) ≡ under pairs d x (mapped f (present b l))
  unfolding under present mapped
  under-there true d x = refl
  under-there false d x = refl

  over-there : (b : Bool) (d : ℤ) (x : ℤ × ℤ) →
      (b && pairs.less (pairs.scale d (f l)) x) ≡ over pairs d x (mapped f (present b l))
  unfolding over present mapped
  over-there true d x = refl
  over-there false d x = refl

  rise-there : (b : Bool) (x : ℤ × ℤ) → (not b || pairs.less x (f l)) ≡ may_rise pairs x (mapped f (present b l))
  unfolding may_rise present mapped
  rise-there true x = refl
  rise-there false x = refl

  fall-there : (b : Bool) (x : ℤ × ℤ) → (not b || pairs.less (f l) x) ≡ may_fall pairs x (mapped f (present b l))
  unfolding may_fall present mapped
  fall-there true x = refl
  fall-there false x = refl

module _ (g : Given) where
  under-joined : (d : ℤ) (x : ℤ × ℤ) →
      (g.on && pairs.less x (pairs.scale d (given_lower g))) ≡ under pairs d x (least_in g)
  under-joined = under-there lower_pair (stated g) g.on

  over-joined : (d : ℤ) (x : ℤ × ℤ) →
      (g.on && pairs.less (pairs.scale d (given_upper g)) x) ≡ over pairs d x (most_in g)
  over-joined = over-there upper_pair (stated g) g.on

  pub rise-joined : (x : ℤ × ℤ) → (not g.on || pairs.less x (given_upper g)) ≡ may_rise pairs x (most_in g)
  rise-joined = rise-there upper_pair (stated g) g.on

  pub fall-joined : (x : ℤ × ℤ) → (not g.on || pairs.less (given_lower g) x) ≡ may_fall pairs x (least_in g)
  fall-joined = fall-there lower_pair (stated g) g.on

-- .. of D times a value, as the code tests it against D times a limit
module _ (d : ℤ) (x : Amount) (g : Given) {t : Amount} {r b : Bool} where
  pub under-tested : t ≡ amount_of (pairs.scale d (given_lower g)) → r ≡ is_less x t → (g.on && r) ≡ b →
      under pairs d (pair_of x) (least_in g) ≡ b
  under-tested e f h = sym (under-joined g d (pair_of x))
      ∙ ap (λ a. g.on && pairs.less (pair_of x) (pair_of a)) (sym e)
      ∙ ap (λ r. g.on && r) (sym (amount-less x t) ∙ sym f) ∙ h

  pub over-tested : t ≡ amount_of (pairs.scale d (given_upper g)) → r ≡ is_less t x → (g.on && r) ≡ b →
      over pairs d (pair_of x) (most_in g) ≡ b
  over-tested e f h = sym (over-joined g d (pair_of x))
      ∙ ap (λ a. g.on && pairs.less (pair_of a) (pair_of x)) (sym e)
      ∙ ap (λ r. g.on && r) (sym (amount-less t x) ∙ sym f) ∙ h

not-below : (k : ℕ) → lt_z (pos (suc k)) (pos 0) ≡ false
not-below k = leb-suc-zero (suc k)

first_alone : (b : Bool) → (b || false) ≡ b
first_alone true = refl
first_alone false = refl

-- the sign of the entry says which of the two tests counts
module _ (x : ℤ × ℤ) (p : LimitPair) where
  abbrev pub suits_joined : Bool → Bool → Bool
  suits_joined idle falls =
      not idle && ((falls && may_fall pairs x (lower_in p)) || (not falls && may_rise pairs x (upper_in p)))

  abbrev pub falls : Bool → ℤ → Bool
  falls rises e = beq (lt_z e (pos 0)) rises

  pub suits-joined : (rises : Bool) (e : ℤ) → suits_joined (eq_z e (pos 0)) (falls rises e) ≡ suits_of rises e x p
  unfolding suits_of suits pull
  suits-joined true (pos zero) = refl
  suits-joined false (pos zero) = refl
  suits-joined true (pos (suc k)) =
      ap₂ (λ z b. suits_joined z (beq b true)) (ne_eqb (suc k) 0 (λ e. omega arith)) (not-below k)
  suits-joined false (pos (suc k)) =
      ap₂ (λ z b. suits_joined z (beq b false)) (ne_eqb (suc k) 0 (λ e. omega arith)) (not-below k)
      ∙ first_alone (may_fall pairs x (lower_in p))
  suits-joined true (negsuc k) = first_alone (may_fall pairs x (lower_in p))
  suits-joined false (negsuc k) = refl
