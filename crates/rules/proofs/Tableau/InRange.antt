-- What the range test of a tableau says: D and every entry are within the largest number, or one of them is beyond it.
--   small-tells    `Small` and `Beyond` of specs/Facts/Range
use Prim.Native.Nat.{ℕ}
use Rattle.whole.proofs.Tells.{tells_all, tells-and, tells-within}
use Rattle.whole.specs.Tells.{Tells}
use Rattle.rules.specs.Facts.Range.{Beyond, Small}
use Rattle.rules.specs.Sizes.{largest_number}
use Rattle.rules.specs.Tableau.{Tableau, entry, small}

pub small-tells : (N : ℕ) (t : Tableau) → Tells (small N t) (Small N t) (Beyond N t)
unfolding small
small-tells N t = tells-and (tells-within largest_number t.common)
    (tells_all N _ (λ v h. tells_all N _ (λ u k. tells-within largest_number (entry t v u))))
