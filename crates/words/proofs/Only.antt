-- Two results that a promise of this crate's public functions allows are equal: NAME-only for each.
-- The contracts themselves are compared: κs are lifetimes, x the arguments, e what lent words hold at the exit.
use mathlib.Core.Path.{◌≡◌, sym, ◌∙◌}
use Rattle.words.proofs.is_outside.Reads as is-outside
use Rattle.words.proofs.is_within.Reads as is_Within
use Rattle.words.proofs.count_at.Reads as count_at
use Rattle.words.proofs.is_bad_size.Reads as is-bad-size

pub is-outside-only : (κs : _) (x : _) (a b : _) (e : _) → is-outside.Post κs x a e → is-outside.Post κs x b e → a ≡ b
is-outside-only κs x a b e h k = h ∙ sym k

pub is-within-only : (κs : _) (x : _) (a b : _) (e : _) → is_Within.Post κs x a e → is_Within.Post κs x b e → a ≡ b
is-within-only κs x a b e h k = h ∙ sym k

pub count-at-only : (κs : _) (x : _) (a b : _) (e : _) → count_at.Post κs x a e → count_at.Post κs x b e → a ≡ b
count-at-only κs x a b e h k = h ∙ sym k

pub is-bad-size-only : (κs : _) (x : _) (a b : _) (e : _) → is-bad-size.Post κs x a e → is-bad-size.Post κs x b e →
    a ≡ b
is-bad-size-only κs x a b e h k = h ∙ sym k
