-- Two results that a promise of this crate's public functions allows are equal: NAME-only for each.
-- The contracts themselves are compared: κs are lifetimes, x the arguments, e what lent words hold at the exit.
use mathlib.Core.Path.{◌≡◌, sym, ◌∙◌}
use Rattle.editions.proofs.bodies_in.Reads as bodies-in
use Rattle.editions.proofs.is_unknown.Reads as is-unknown
use Rattle.editions.proofs.rows_in.Reads as rows_in

pub bodies-in-only : (κs : _) (x : _) (a b : _) (e : _) → bodies-in.Post κs x a e → bodies-in.Post κs x b e → a ≡ b
bodies-in-only κs x a b e h k = h ∙ sym k

pub is-unknown-only : (κs : _) (x : _) (a b : _) (e : _) → is-unknown.Post κs x a e → is-unknown.Post κs x b e → a ≡ b
is-unknown-only κs x a b e h k = h ∙ sym k

pub rows-in-only : (κs : _) (x : _) (a b : _) (e : _) → rows_in.Post κs x a e → rows_in.Post κs x b e → a ≡ b
rows-in-only κs x a b e h k = h ∙ sym k
