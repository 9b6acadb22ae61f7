-- Two results that a promise of this crate's functions allows are equal: NAME-only for each.
-- The contracts themselves are compared: κs are lifetimes, x the arguments, e what lent words hold at the exit.
--   open-only, switch-only    the number and the session
--   check-only                the number, the session, and every word of the output
use mathlib.Core.Path.{◌≡◌, sym, ◌∙◌}
use Rattle.session.proofs.open.Reads as open-reads
use Rattle.session.proofs.Session.switch.Reads as switch-reads
use Rattle.session.proofs.Session.check.Reads as check-reads

pub open-only : (κs : _) (x : _) (a b : _) (e f : _) → open-reads.Post κs x a e → open-reads.Post κs x b f → a ≡ b
open-only κs x a b e f h k = h.0 ∙ sym k.0

pub switch-only : (κs : _) (x : _) (a b : _) (e f : _) → switch-reads.Post κs x a e → switch-reads.Post κs x b f → a ≡ b
switch-only κs x a b e f h k = h.0 ∙ sym k.0

pub check-only : (κs : _) (x : _) (a b : _) (e f : _) → check-reads.Post κs x a e → check-reads.Post κs x b f →
    (a ≡ b) × (e.1.0.now ≡ f.1.0.now)
check-only κs x a b e f h k = (h.0 ∙ sym k.0, h.1.0 ∙ sym k.1.0)
