-- Two results that a promise of this crate's public functions allows are equal: NAME-only for each.
-- The contracts themselves are compared: κs are lifetimes, x the arguments, e what lent words hold at the exit.
use mathlib.Core.Path.{◌≡◌, sym, ◌∙◌}
use Rattle.divisor.proofs.signed.Reads as signed
use Rattle.divisor.proofs.common_of.Reads as common-of
use Rattle.divisor.proofs.divisor_of.Reads as divisor-of
use Rattle.divisor.proofs.divide.Reads as divide

pub signed-only : (κs : _) (x : _) (a b : _) (e : _) → signed.Post κs x a e → signed.Post κs x b e → a ≡ b
signed-only κs x a b e h k = h ∙ sym k

pub common-of-only : (κs : _) (x : _) (a b : _) (e : _) → common-of.Post κs x a e → common-of.Post κs x b e → a ≡ b
common-of-only κs x a b e h k = h ∙ sym k

pub divisor-of-only : (κs : _) (x : _) (a b : _) (e : _) → divisor-of.Post κs x a e → divisor-of.Post κs x b e → a ≡ b
divisor-of-only κs x a b e h k = h ∙ sym k

pub divide-only : (κs : _) (x : _) (a b : _) (e f : _) → divide.Post κs x a e →
    divide.Post κs x b f → e.0.now ≡ f.0.now
divide-only κs x a b e f h k = h ∙ sym k
