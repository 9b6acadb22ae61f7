-- Two results that a promise of this crate's public functions allows are equal: NAME-only for each.
-- The contracts themselves are compared: κs are lifetimes, x the arguments, e what lent words hold at the exit.
--   refusal-number-only         of `Refusal::number`
--   number-told-only, verdict-told-only    of `number` and `verdict`
use mathlib.Core.Path.{◌≡◌, sym, ◌∙◌}
use Rattle.refusals.proofs.Refusal.number.Reads as refusal-number
use Rattle.refusals.proofs.number.Reads as number-told
use Rattle.refusals.proofs.verdict.Reads as verdict-told

pub refusal-number-only : (κs : _) (x : _) (a b : _) (e : _) → refusal-number.Post κs x a e →
    refusal-number.Post κs x b e → a ≡ b
refusal-number-only κs x a b e h k = h ∙ sym k

pub number-told-only : (κs : _) (x : _) (a b : _) (e : _) → number-told.Post κs x a e →
    number-told.Post κs x b e → a ≡ b
number-told-only κs x a b e h k = h ∙ sym k

pub verdict-told-only : (κs : _) (x : _) (a b : _) (e : _) → verdict-told.Post κs x a e →
    verdict-told.Post κs x b e → a ≡ b
verdict-told-only κs x a b e h k = h ∙ sym k
