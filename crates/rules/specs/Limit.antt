-- docs/RULES.md, "The limit problem as words": what a kind says of the two limits of a variable, and the pair that a
-- limit stands for in the run. A missing limit is `none`, never a number.
use Rattle.std.specs.Prelude.{Bool, true, false, not, ◌&&◌, ◌||◌, ℕ, ◌/◌, ◌%◌, ◌^◌, eqb, ℤ, pos, nat_abs, neg_ℤ}
use Rattle.std.proofs.Math.Option.{Option, none, some}
use Rattle.whole.specs.Numbers.{within, outside, eq_z}
use Rattle.rules.specs.Sizes.{largest_limit}

-- ---- kinds

-- bit b of a kind: 0 tells of the lower limit, 1 of the upper; 2 marks the lower one strict, 3 the upper
unfoldable pub bit : ℕ → ℤ → Bool
bit b kind = eqb (nat_abs kind / 2 ^ b % 2) 1

abbrev pub has_lower : ℤ → Bool
has_lower kind = bit 0 kind

abbrev pub has_upper : ℤ → Bool
has_upper kind = bit 1 kind

abbrev pub strict_lower : ℤ → Bool
strict_lower kind = bit 2 kind

abbrev pub strict_upper : ℤ → Bool
strict_upper kind = bit 3 kind

-- outside 0 to 15, or a strict mark on a missing limit: of 0 to 15 that leaves 0, 1, 2, 3, 5, 7, 10, 11, 15
unfoldable pub bad_kind_word : ℤ → Bool
bad_kind_word kind =
    outside 0 15 kind || ((strict_lower kind && not (has_lower kind)) || (strict_upper kind && not (has_upper kind)))

-- ---- a limit's word

-- out of range, or not 0 where the limit is missing
unfoldable pub bad_limit_word : Bool → ℤ → Bool
bad_limit_word true z = not (within largest_limit z)
bad_limit_word false z = not (eq_z z (pos 0))

-- what stands there, where the limit is present
unfoldable pub present : {X : Type 0} → Bool → X → Option X
present true x = some x
present false x = none

-- ---- limits

-- its number, and whether it is strict
pub record Limit : Type 0 where
  pub plain : ℤ
  pub strict : Bool

-- how many small amounts inside
abbrev pub inset : Bool → ℤ
inset true = pos 1
inset false = pos 0

-- the pair that a limit stands for in the run
abbrev pub lower_pair : Limit → ℤ × ℤ
lower_pair l = (l.plain, inset l.strict)

abbrev pub upper_pair : Limit → ℤ × ℤ
upper_pair u = (u.plain, neg_ℤ (inset u.strict))
