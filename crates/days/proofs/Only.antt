-- Two results that a promise of this crate's public functions allows are equal: NAME-only for each.
-- The contracts themselves are compared: κs are lifetimes, x the arguments, e what lent words hold at the exit.
--   day-only    the length of the text, and every byte of the slice
use mathlib.Core.Path.{◌≡◌, sym, ◌∙◌}
use Rattle.days.proofs.day.Reads as day

pub day-only : (κs : _) (x : _) (a b : _) (e f : _) → day.Post κs x a e → day.Post κs x b f →
    (a ≡ b) × (e.1.0.now ≡ f.1.0.now)
day-only κs x a b e f h k = (h.0 ∙ sym k.0, h.1.1 ∙ sym k.1.1)
