-- Two results that a promise of this crate's public functions allows are equal: NAME-only for each.
-- The contracts themselves are compared: κs are lifetimes, x the arguments, e what lent words hold at the exit.
use mathlib.Core.Path.{◌≡◌, sym, ◌∙◌}
use Rattle.tally.proofs.counted.Reads as counted
use Rattle.tally.proofs.nothing.Reads as nothing
use Rattle.tally.proofs.refused.Reads as refused

pub counted-only : (κs : _) (x : _) (a b : _) (e f : _) → counted.Post κs x a e → counted.Post κs x b f → a ≡ b
counted-only κs x a b e f h k = h ∙ sym k

pub nothing-only : (κs : _) (x : _) (a b : _) (e : _) → nothing.Post κs x a e → nothing.Post κs x b e → a ≡ b
nothing-only κs x a b e h k = h ∙ sym k

pub refused-only : (κs : _) (x : _) (a b : _) (e : _) → refused.Post κs x a e → refused.Post κs x b e → a ≡ b
refused-only κs x a b e h k = h ∙ sym k
