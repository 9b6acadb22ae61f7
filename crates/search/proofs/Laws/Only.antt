-- Two results that a promise of this crate's public functions allows are equal: NAME-only for each.
-- The contracts themselves are compared: κs are lifetimes, x the arguments, e what lent words hold at the exit.
use mathlib.Core.Path.{◌≡◌, sym, ◌∙◌}
use Rattle.search.proofs.entry_at.Reads as entry_at
use Rattle.search.proofs.View.of.Reads as view-of
use Rattle.search.proofs.row_value.Reads as row-value
use Rattle.search.proofs.next_step.Reads as next-step

pub entry-at-only : (κs : _) (x : _) (a b : _) (e : _) → entry_at.Post κs x a e → entry_at.Post κs x b e → a ≡ b
entry-at-only κs x a b e h k = h ∙ sym k

pub row-value-only : (κs : _) (x : _) (a b : _) (e : _) → row-value.Post κs x a e → row-value.Post κs x b e → a ≡ b
row-value-only κs x a b e h k = h ∙ sym k

pub next-step-only : (κs : _) (x : _) (a b : _) (e : _) → next-step.Post κs x a e → next-step.Post κs x b e → a ≡ b
next-step-only κs x a b e h k = h ∙ sym k

pub view-of-only : (κs : _) (x : _) (a b : _) (e : _) → view-of.Post κs x a e → view-of.Post κs x b e → a ≡ b
view-of-only κs x a b e h k = h ∙ sym k
