-- Two results that a promise of this crate's public functions allows are equal: NAME-only for each.
-- The contracts themselves are compared: κs are lifetimes, x the arguments, e what lent words hold at the exit.
--   write-only    every word of the output
use mathlib.Core.Path.{◌≡◌, sym, ◌∙◌}
use Rattle.answers.proofs.is_short.Reads as is-short
use Rattle.answers.proofs.I64FromVerdict.from.Reads as verdict-from
use Rattle.answers.proofs.numerators_of.Reads as numerators-of
use Rattle.answers.proofs.write.Reads as write
use Rattle.answers.proofs.conflict.is_crossed.Reads as is-crossed
use Rattle.answers.proofs.conflict.conflict_of.Reads as conflict-of
use Rattle.answers.proofs.multipliers.multipliers_of.Reads as multipliers-of
use Rattle.answers.proofs.multipliers.unit.Reads as unit

pub is-short-only : (κs : _) (x : _) (a b : _) (e : _) → is-short.Post κs x a e → is-short.Post κs x b e → a ≡ b
is-short-only κs x a b e h k = h ∙ sym k

pub is-crossed-only : (κs : _) (x : _) (a b : _) (e : _) → is-crossed.Post κs x a e → is-crossed.Post κs x b e → a ≡ b
is-crossed-only κs x a b e h k = h ∙ sym k

pub conflict-of-only : (κs : _) (x : _) (a b : _) (e : _) → conflict-of.Post κs x a e →
    conflict-of.Post κs x b e → a ≡ b
conflict-of-only κs x a b e h k = h ∙ sym k

pub unit-only : (κs : _) (x : _) (a b : _) (e : _) → unit.Post κs x a e → unit.Post κs x b e → a ≡ b
unit-only κs x a b e h k = h ∙ sym k

pub multipliers-of-only : (κs : _) (x : _) (a b : _) (e : _) → multipliers-of.Post κs x a e →
    multipliers-of.Post κs x b e → a ≡ b
multipliers-of-only κs x a b e h k = h ∙ sym k

pub numerators-of-only : (κs : _) (x : _) (a b : _) (e : _) → numerators-of.Post κs x a e →
    numerators-of.Post κs x b e → a ≡ b
numerators-of-only κs x a b e h k = h ∙ sym k

pub write-only : (κs : _) (x : _) (a b : _) (e f : _) → write.Post κs x a e →
    write.Post κs x b f → e.0.now ≡ f.0.now
write-only κs x a b e f h k = h ∙ sym k

pub verdict-from-only : (κs : _) (x : _) (a b : _) (e : _) → verdict-from.Post κs x a e →
    verdict-from.Post κs x b e → a ≡ b
verdict-from-only κs x a b e h k = h ∙ sym k
