-- Two results that a promise of this crate's functions allows are equal: NAME-only for each.
-- The contracts themselves are compared: κs are lifetimes, x the arguments, e what lent words hold at the exit.
--   start-only       the number and the state
--   go-on-only       the number, whether there is an answer, the state, and every word of the output
use mathlib.Core.Path.{◌≡◌, sym, ◌∙◌}
use Rattle.slices.proofs.start.Reads as start
use Rattle.slices.proofs.Slice.go_on.Reads as go_on

pub start-only : (κs : _) (x : _) (a b : _) (e f : _) → start.Post κs x a e → start.Post κs x b f → a ≡ b
start-only κs x a b e f h k = h.0 ∙ sym k.0

pub go-on-only : (κs : _) (x : _) (a b : _) (e f : _) → go_on.Post κs x a e → go_on.Post κs x b f →
    (a ≡ b) × (e.1.1.0.now ≡ f.1.1.0.now)
go-on-only κs x a b e f h k = (h.0 ∙ sym k.0, h.1.0 ∙ sym k.1.0)
