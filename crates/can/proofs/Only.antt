-- Two results that the promise of `shows_can` allows are equal. The contract itself is compared.
use mathlib.Core.Path.{◌≡◌, sym, ◌∙◌}
use Rattle.can.proofs.shows_can.Reads as shows-can

pub shows-can-only : (κs : _) (x : _) (a b : _) (e : _) → shows-can.Post κs x a e → shows-can.Post κs x b e → a ≡ b
shows-can-only κs x a b e h k = h ∙ sym k
