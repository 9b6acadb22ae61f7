-- Two results that a promise of this crate's functions allows are equal: NAME-only for each.
-- The contracts themselves are compared: κs are lifetimes, x the arguments, e what lent words hold at the exit.
--   mask-of-only    the mask
--   went-only       whether a variable went
--   gone-only       the lowest that did
use mathlib.Core.Path.{◌≡◌, sym, ◌∙◌}
use Rattle.masks.proofs.gone.Reads as gone
use Rattle.masks.proofs.mask_of.Reads as mask-of
use Rattle.masks.proofs.went.Reads as went

pub mask-of-only : (κs : _) (x : _) (a b : _) (e f : _) → mask-of.Post κs x a e → mask-of.Post κs x b f → a ≡ b
mask-of-only κs x a b e f h k = h ∙ sym k

pub went-only : (κs : _) (x : _) (a b : _) (e f : _) → went.Post κs x a e → went.Post κs x b f → a ≡ b
went-only κs x a b e f h k = h ∙ sym k

pub gone-only : (κs : _) (x : _) (a b : _) (e f : _) → gone.Post κs x a e → gone.Post κs x b f → a ≡ b
gone-only κs x a b e f h k = h ∙ sym k
