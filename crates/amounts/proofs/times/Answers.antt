-- `amounts::times` meets its contract: each product fits 64 bits. Assumes nothing.
use Rattle.std.proofs.Common.{rules, ◌≡◌, ℤ, ◌*ℤ◌, to_z, of_z, w32, w64, SFits}
use Rattle.std.proofs.Math.Facts.{to_z-of_z}
use Rattle.whole.proofs.Numbers.Halves.{half_product, wide}
use Rattle.amounts.proofs.times.Goals as goal

-- D times one part
part : (d x : ℤ) → {a b : ℤ} → SFits w32 d → SFits w32 x → a ≡ to_z w32 (of_z w32 d) → b ≡ to_z w32 (of_z w32 x) →
    to_z w64 (of_z w64 (to_z w64 (of_z w64 a) *ℤ to_z w64 (of_z w64 b))) ≡ d *ℤ x
part d x f g e q = simp (
  e,
  q,
  to_z-of_z f,
  to_z-of_z g,
  to_z-of_z (wide f),
  to_z-of_z (wide g),
  to_z-of_z (half_product f g),
)

pub returns : goal.returns
returns c = let f : SFits w32 c.args.value.plain = search rules in let g : SFits w32 c.args.value.small =
    search rules in
    simp (
      part c.args.common _ c.ranges.common f c.from.ensures c.from-2.ensures,
      part c.args.common _ c.ranges.common g c.from-3.ensures c.from-4.ensures,
    )
