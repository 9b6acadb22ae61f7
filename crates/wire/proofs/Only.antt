-- Two results that a promise of this crate's public functions allows are equal: NAME-only for each.
-- The contracts themselves are compared: κs are lifetimes, x the arguments, e what lent words hold at the exit.
--   words-of-only    the count, and every word of the output
--   bytes-of-only    every byte of the output
use mathlib.Core.List.{◌++◌}
use mathlib.Core.Path.{◌≡◌, ap, sym, ◌∙◌}
use lib.ListN.{drop}
use Rattle.rules.specs.Program.Bytes.{words_from}
use Rattle.refusals.proofs.Refused.{told-only}
use Rattle.wire.proofs.judge.Reads as judge
use Rattle.wire.proofs.words_of.Reads as words_of
use Rattle.wire.proofs.join.Reads as join
use Rattle.wire.proofs.word_at.Reads as word_at
use Rattle.wire.proofs.bytes_of.Reads as bytes_of

pub judge-only : (κs : _) (x : _) (a b : _) (e : _) → judge.Post κs x a e →
    judge.Post κs x b e → a ≡ b
judge-only κs x a b e h k = told-only a b (h ∙ sym k)

pub words-of-only : (κs : _) (x : _) (a b : _) (e f : _) → words_of.Post κs x a e → words_of.Post κs x b f →
    (a ≡ b) × (e.1.0.now ≡ f.1.0.now)
words-of-only κs x a b e f h k =
    let n : a ≡ b = h.0 ∙ sym k.0 in
    (n, h.1 ∙ ap (λ j. words_from x.0.now ++ drop j x.1.0.now) n ∙ sym k.1)

pub join-only : (κs : _) (x : _) (a b : _) (e : _) → join.Post κs x a e → join.Post κs x b e → a ≡ b
join-only κs x a b e h k = h.0 ∙ sym k.0

pub word-at-only : (κs : _) (x : _) (a b : _) (e f : _) → word_at.Post κs x a e → word_at.Post κs x b f → a ≡ b
word-at-only κs x a b e f h k = h ∙ sym k

pub bytes-of-only : (κs : _) (x : _) (a b : _) (e f : _) → bytes_of.Post κs x a e → bytes_of.Post κs x b f →
    e.1.0.now ≡ f.1.0.now
bytes-of-only κs x a b e f h k = h ∙ sym k
