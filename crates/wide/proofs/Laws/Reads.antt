-- Limbs that stand for a number.
--   sized-in, stands-in        a number of an answer whose words are in their ranges
--   formed-less                fewer numbers
use mathlib.Core.List.{List, [], ◌∷◌}
use mathlib.Core.Path.{refl}
use Prim.Native.Nat.{ℕ, ◌<◌, ◌≤◌}
use native.Mathlib.Omega.{arith}
use lib.Dec.{lit≤}
use lib.IntN.{ℤ}
use Rattle.whole.proofs.Numbers.Sizes.{within-le, within_of}
use Rattle.whole.proofs.Numbers.Tests.{under-size}
use Rattle.whole.proofs.Ring.Nonneg.{of_le, slk}
use Rattle.whole.proofs.Ring.Reify.{reify}
use Rattle.whole.proofs.Ring.Tools.{le-at}
use Rattle.whole.specs.Numbers.{Within}
use Rattle.rules.specs.Facts.Wide.{HeadIn, LimbIn}
use Rattle.rules.specs.Sizes.{largest_limb, limb_turn}
use Rattle.rules.specs.Wide.{wide_at}
use Rattle.limbs.specs.Limbs.{LimbsWithin}
use Rattle.wide.specs.Reads.{AllFormed, wide_in}
use Rattle.limbs.specs.Limbs.{StandsFor}

limb-within : (z : ℤ) → LimbIn z → Within z limb_turn
limb-within z (l, m) = within-le (record { within = under-size largest_limb 0 z l m }) (lit≤ tt)

head-within : (z : ℤ) → HeadIn z → Within z limb_turn
head-within z (l, m) = within_of
    (le-at (z ∷ []) (of_le l) (search reify depth 30) slk)
    (le-at (z ∷ []) (of_le m) (search reify depth 30) slk)

module _ {a : List ℤ} {numbers : ℕ} (A : AllFormed a numbers) where
  sized-in : (slot : ℕ) → slot < numbers → LimbsWithin (wide_in a slot) limb_turn
  sized-in slot h = let F = A.each slot h in record {
    size-a = limb-within _ F.limb-0;
    size-b = limb-within _ F.limb-1;
    size-c = limb-within _ F.limb-2;
    size-d = head-within _ F.head;
  }

  pub stands-in : (slot : ℕ) → slot < numbers → StandsFor (wide_in a slot) (wide_at a slot) limb_turn
  stands-in slot h = record { number = refl; size = sized-in slot h }

  pub formed-less : (fewer : ℕ) → fewer ≤ numbers → AllFormed a fewer
  formed-less fewer h = record { each = λ slot l. A.each slot (omega arith) }
