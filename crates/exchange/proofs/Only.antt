-- Two results that a promise of this crate's public function allows are equal: NAME-only.
-- The contracts themselves are compared: κs are lifetimes, x the arguments, e what lent words hold at the exit.
-- It is of the answer and of every byte of the slice.
use mathlib.Core.Path.{◌≡◌, sym, ◌∙◌}
use Rattle.exchange.proofs.write.Reads as write

pub write-only : (κs : _) (x : _) (a b : _) (e f : _) → write.Post κs x a e → write.Post κs x b f →
    (e.1.0.now ≡ f.1.0.now) × (a ≡ b)
write-only κs x a b e f h k = (h.1 ∙ sym k.1, h.0 ∙ sym k.0)
