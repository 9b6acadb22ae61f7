-- Limbs that stand for a number.
--   stands-zero, stands-plus, stands-less, stands-times     limb by limb is number by number, and how large limbs are
--   stands-le, stands-is, stands-for                        larger sizes, equal limbs, equal numbers
--   stands_of                                               a number of 64 bits
use mathlib.Core.Path.{◌≡◌, ap, ap₂, refl, subst, sym, ◌∙◌}
use Prim.Native.Nat.{ℕ, ◌*◌, ◌+◌, ◌/◌, ◌<◌, ◌≤◌}
use native.Mathlib.Omega.{arith}
use lib.Dec.{lit≤}
use lib.IntN.{nat_abs, negsuc, pos, ℤ, ◌*ℤ◌, ◌+ℤ◌, ◌-ℤ◌}
use lib.Signed.{quot_z}
use mir.Syntax.{w64}
use mir.Val.{SFits}
use Rattle.whole.proofs.Numbers.Division.{size-quot}
use Rattle.whole.proofs.Numbers.Halves.{rem-most}
use Rattle.whole.proofs.Numbers.Sizes.{within-le}
use Rattle.whole.specs.Numbers.{Within}
use Rattle.rules.specs.Sizes.{limb_turn}
use Rattle.limbs.proofs.Laws.Numbers.{value-less, value_of_lem, value-plus, value-times}
use Rattle.limbs.proofs.Laws.Sizes.{sized-le, sized-less, sized-plus, sized-times, sized-zero}
use Rattle.limbs.specs.Limbs.{StandsFor, less_of, of_number, plus_of, scaled_of, zero_wide}
use Rattle.limbs.specs.declared.Wide.{Wide}

pub stands-le : {w : Wide} {z : ℤ} {m n : ℕ} → StandsFor w z m → m ≤ n → StandsFor w z n
stands-le S h = record { number = S.number; size = sized-le S.size h }

-- limbs that are others
pub stands-is : {v w : Wide} {z : ℤ} {n : ℕ} → v ≡ w → StandsFor w z n → StandsFor v z n
stands-is {z = z} {n = n} e S = subst (λ u. StandsFor u z n) (sym e) S

-- a sum that is another
pub stands-for : {w : Wide} {y z : ℤ} {n : ℕ} → y ≡ z → StandsFor w y n → StandsFor w z n
stands-for e S = record { number = S.number ∙ e; size = S.size }

pub stands-zero : (n : ℕ) → StandsFor zero_wide (pos 0) n
stands-zero n = record { number = refl; size = sized-zero n }

module _ {v w : Wide} {x y : ℤ} {m n : ℕ} (F : StandsFor v x m) (G : StandsFor w y n) where
  pub stands-plus : StandsFor (plus_of v w) (x +ℤ y) (m + n)
  stands-plus = record {
    number = value-plus v w ∙ ap₂ ◌+ℤ◌ F.number G.number;
    size = sized-plus F.size G.size;
  }

  pub stands-less : StandsFor (less_of v w) (x -ℤ y) (m + n)
  stands-less = record {
    number = value-less v w ∙ ap₂ ◌-ℤ◌ F.number G.number;
    size = sized-less F.size G.size;
  }

pub stands-times : {k x : ℤ} {w : Wide} {m n : ℕ} → Within k m → StandsFor w x n →
    StandsFor (scaled_of k w) (k *ℤ x) (m * n)
stands-times {k} {w = w} h G = record {
  number = value-times k w ∙ ap (λ z. k *ℤ z) G.number;
  size = sized-times h G.size;
}

-- ---- a number of 64 bits

most-at : (z : ℤ) → SFits w64 z → nat_abs z ≤ 9223372036854775808
most-at (pos a) f = let h : a < 9223372036854775808 = f.sfits in omega arith
most-at (negsuc a) f = let h : a < 9223372036854775808 = f.sfits in omega arith

high-within : (z : ℤ) → SFits w64 z → Within (quot_z z (pos limb_turn)) limb_turn
high-within z f = record { within = rw (size-quot z (pos limb_turn)) (few (nat_abs z) (most-at z f)) }
  where
    few : (n : ℕ) → n ≤ 9223372036854775808 → n / limb_turn ≤ limb_turn
    few n h = omega arith

pub stands_of : (z : ℤ) → SFits w64 z → StandsFor (of_number z) z limb_turn
stands_of z f = record {
  number = value_of_lem z;
  size = record {
    size-a = within-le (rem-most z) (lit≤ tt);
    size-b = high-within z f;
    size-c = record { within = lit≤ tt };
    size-d = record { within = lit≤ tt };
  };
}
