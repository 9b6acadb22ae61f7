-- Two results that the promise of `cross` allows are equal. The contract itself is compared.
use mathlib.Core.Path.{◌≡◌, sym, ◌∙◌}
use Rattle.samples.proofs.cross.Reads as cross

pub cross-only : (κs : _) (x : _) (a b : _) (e : _) → cross.Post κs x a e → cross.Post κs x b e → a ≡ b
cross-only κs x a b e h k = h ∙ sym k
