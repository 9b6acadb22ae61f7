-- Two results that a promise of this crate's public functions allows are equal: NAME-only for each.
-- The contracts themselves are compared: κs are lifetimes, x the arguments, e what lent words hold at the exit.
use mathlib.Core.Path.{◌≡◌, sym, ◌∙◌}
use Rattle.amounts.proofs.lower_value.Reads as lower-value
use Rattle.amounts.proofs.upper_value.Reads as upper-value
use Rattle.amounts.proofs.times.Reads as times
use Rattle.amounts.proofs.put_inside.Reads as put-inside

pub lower-value-only : (κs : _) (x : _) (a b : _) (e : _) → lower-value.Post κs x a e →
    lower-value.Post κs x b e → a ≡ b
lower-value-only κs x a b e h k = h ∙ sym k

pub upper-value-only : (κs : _) (x : _) (a b : _) (e : _) → upper-value.Post κs x a e →
    upper-value.Post κs x b e → a ≡ b
upper-value-only κs x a b e h k = h ∙ sym k

pub times-only : (κs : _) (x : _) (a b : _) (e : _) → times.Post κs x a e → times.Post κs x b e → a ≡ b
times-only κs x a b e h k = h ∙ sym k

pub put-inside-only : (κs : _) (x : _) (a b : _) (e : _) → put-inside.Post κs x a e → put-inside.Post κs x b e → a ≡ b
put-inside-only κs x a b e h k = h ∙ sym k
