-- Two results that a promise of this crate's public functions allows are equal: NAME-only for each.
-- The contracts themselves are compared: κs are lifetimes, x the arguments, e what lent words hold at the exit.
use mathlib.Core.Path.{◌≡◌, sym, ◌∙◌}
use Rattle.tableau.proofs.Tableau.start_entries.Reads as start-entries
use Rattle.tableau.proofs.Tableau.limits_of.Reads as Limits-of
use Rattle.tableau.proofs.Tableau.new.Reads as new

pub start-entries-only : (κs : _) (x : _) (a b : _) (e : _) → start-entries.Post κs x a e →
    start-entries.Post κs x b e → a ≡ b
start-entries-only κs x a b e h k = h ∙ sym k

pub limits-of-only : (κs : _) (x : _) (a b : _) (e : _) → Limits-of.Post κs x a e → Limits-of.Post κs x b e → a ≡ b
limits-of-only κs x a b e h k = h ∙ sym k

pub new-only : (κs : _) (x : _) (a b : _) (e : _) → new.Post κs x a e → new.Post κs x b e → a ≡ b
new-only κs x a b e h k = h ∙ sym k
