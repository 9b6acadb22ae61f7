-- What a pivot needs of its numbers.
--   mixed-of-within, mixed-within   the entries before reduction have sizes: one product, or the difference of two
use Prim.Native.Nat.{ℕ}
use mathlib.Core.Bool.{Bool, true, false}
use mathlib.Core.List.{List}
use lib.Dec.{eqb, lit≤}
use lib.IntN.{ℤ}
use Rattle.whole.specs.Numbers.{Within, AllWithin}
use Rattle.whole.proofs.Numbers.Sizes.{within-*, within--, within-neg, within-le}
use Rattle.divisor.specs.Cells.{largest_size}
use Rattle.rules.specs.Sizes.{largest_number}
use Rattle.layout.specs.Layout.{flat}
use Rattle.pivot.specs.Pivot.{mixed_of, mixed_cell, mixed_laid, Mixable}

mixed-of-within : (a b : Bool) (common pivot own beside above : ℤ) → Mixable common pivot own beside above →
    Within (mixed_of a b common pivot own beside above) largest_size
mixed-of-within true true common pivot own beside above m =
    within-le (within-* m.common-within m.common-within) (lit≤ tt)
mixed-of-within true false common pivot own beside above m =
    within-le (within-neg (within-* m.common-within m.above_within)) (lit≤ tt)
mixed-of-within false true common pivot own beside above m =
    within-le (within-* m.beside-within m.common-within) (lit≤ tt)
mixed-of-within false false common pivot own beside above m =
    within-le (within-- (within-* m.pivot-within m.own-within) (within-* m.beside-within m.above_within))
    (lit≤ tt)

module _ {common : ℤ} {l : List ℤ} (c : Within common largest_number) (s : AllWithin l largest_number)
    (m n p q i j : ℕ) where
  pub mixed-within : Within (mixed_cell m n common l p q i j) largest_size
  unfolding mixed_laid
  mixed-within = mixed-of-within (eqb i p) (eqb j q) _ _ _ _ _ (record {
    common-within = c;
    pivot-within = s.each (flat m n p q);
    own-within = s.each (flat m n i j);
    beside-within = s.each (flat m n i q);
    above_within = s.each (flat m n p j);
  })
