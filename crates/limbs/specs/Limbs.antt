-- The number that four limbs stand for, and what is done with the limbs. Limbs need not be in any range but that of
-- what is done: sums of limbs within 2^60, multiples of limbs within 2^40.
--   value                              the number
--   LimbsWithin, StandsFor, Carried    how large limbs are; what they stand for; below 2^32 but for the highest
--   zero_wide, plus_of, less_of, scaled_of, of_number      limb by limb
--   settled_of                          after carries, toward 0
--   sign_of, pick                       a sign, and the first that is not 0
use Rattle.std.specs.Prelude.{◌≡◌, ℕ, zero, suc, ℤ, pos, negsuc, ◌+ℤ◌, ◌-ℤ◌, ◌*ℤ◌}
use Rattle.std.specs.Int.Signed.{quot_z, rem_z}
use Rattle.whole.specs.Numbers.{Within}
use Rattle.rules.specs.Sizes.{largest_limb, limb_turn}
use Rattle.rules.specs.Wide.{wide_number}
use Rattle.limbs.specs.declared.Wide.{Wide}

-- 2^60, of sums, and 2^40, of what is multiplied
abbrev pub most_sum : ℕ
most_sum = 1152921504606846976

abbrev pub most_factor : ℕ
most_factor = 1099511627776

abbrev pub value : Wide → ℤ
value w = wide_number w.a w.b w.c w.d

pub record LimbsWithin (w : Wide) (n : ℕ) : Type 0 where
  pub size-a : Within w.a n
  pub size-b : Within w.b n
  pub size-c : Within w.c n
  pub size-d : Within w.d n

-- limbs within n that stand for a number
pub record StandsFor (w : Wide) (z : ℤ) (n : ℕ) : Type 0 where
  pub number : value w ≡ z
  pub size : LimbsWithin w n

-- after carries
pub record Carried (w : Wide) : Type 0 where
  pub under-a : Within w.a largest_limb
  pub under-b : Within w.b largest_limb
  pub under-c : Within w.c largest_limb

abbrev pub zero_wide : Wide
zero_wide = record { a = pos 0; b = pos 0; c = pos 0; d = pos 0 }

abbrev pub plus_of : Wide → Wide → Wide
plus_of v w = record { a = v.a +ℤ w.a; b = v.b +ℤ w.b; c = v.c +ℤ w.c; d = v.d +ℤ w.d }

abbrev pub less_of : Wide → Wide → Wide
less_of v w = record { a = v.a -ℤ w.a; b = v.b -ℤ w.b; c = v.c -ℤ w.c; d = v.d -ℤ w.d }

abbrev pub scaled_of : ℤ → Wide → Wide
scaled_of k w = record { a = k *ℤ w.a; b = k *ℤ w.b; c = k *ℤ w.c; d = k *ℤ w.d }

-- a number of one word
abbrev pub of_number : ℤ → Wide
of_number z = record { a = rem_z z (pos limb_turn); b = quot_z z (pos limb_turn); c = pos 0; d = pos 0 }

-- a limb with what is carried to it
abbrev pub second_of : Wide → ℤ
second_of w = w.b +ℤ quot_z w.a (pos limb_turn)

abbrev pub third_of : Wide → ℤ
third_of w = w.c +ℤ quot_z (second_of w) (pos limb_turn)

abbrev pub settled_of : Wide → Wide
settled_of w = record {
  a = rem_z w.a (pos limb_turn);
  b = rem_z (second_of w) (pos limb_turn);
  c = rem_z (third_of w) (pos limb_turn);
  d = w.d +ℤ quot_z (third_of w) (pos limb_turn);
}

unfoldable pub sign_of : ℤ → ℤ
sign_of (pos zero) = pos 0
sign_of (pos (suc n)) = pos 1
sign_of (negsuc n) = negsuc 0

unfoldable pub pick : ℤ → ℤ → ℤ
pick (pos zero) rest = rest
pick (pos (suc n)) rest = pos (suc n)
pick (negsuc n) rest = negsuc n

-- a fact of the limbs of two numbers, place by place
abbrev pub AtEachLimb : (ℤ → ℤ → Type 0) → Wide → Wide → Type 0
AtEachLimb fact v w = fact v.a w.a × fact v.b w.b × fact v.c w.c × fact v.d w.d
