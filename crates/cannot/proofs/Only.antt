-- Two results that the promise of `shows_cannot` allows are equal. The contract itself is compared.
use mathlib.Core.Path.{◌≡◌, sym, ◌∙◌}
use Rattle.cannot.proofs.shows_cannot.Reads as shows-cannot

pub shows-cannot-only : (κs : _) (x : _) (a b : _) (e : _) → shows-cannot.Post κs x a e →
    shows-cannot.Post κs x b e → a ≡ b
shows-cannot-only κs x a b e h k = h ∙ sym k
