-- Two results that the promise of `is_told` allows are equal. The contract itself is compared: κs are lifetimes, x the
-- arguments, e what lent words hold at the exit. What the other public functions read or print, no contract can say.
use mathlib.Core.Path.{◌≡◌, sym, ◌∙◌}
use Rattle.vectors.proofs.cycle.is_told.Reads as is-told

pub is-told-only : (κs : _) (x : _) (a b : _) (e : _) → is-told.Post κs x a e → is-told.Post κs x b e → a ≡ b
is-told-only κs x a b e h k = h.0 ∙ sym k.0
