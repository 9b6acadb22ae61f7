-- Two results that a promise of this crate's functions allows are equal: NAME-only for each.
-- The contracts themselves are compared: κs are lifetimes, x the arguments, e what lent words hold at the exit.
--   first-only       what is shown of words
--   standing-only    of a session
use mathlib.Core.Path.{◌≡◌, sym, ◌∙◌}
use Rattle.violations.proofs.first.Reads as first
use Rattle.violations.proofs.standing.Reads as standing

pub first-only : (κs : _) (x : _) (a b : _) (e f : _) → first.Post κs x a e → first.Post κs x b f → a ≡ b
first-only κs x a b e f h k = h ∙ sym k

pub standing-only : (κs : _) (x : _) (a b : _) (e f : _) → standing.Post κs x a e → standing.Post κs x b f → a ≡ b
standing-only κs x a b e f h k = h.0 ∙ sym k.0
