-- Two results that a promise of this crate's public functions allows are equal: NAME-only for each.
-- The contracts themselves are compared: κs are lifetimes, x the arguments, e what lent words hold at the exit.
use mathlib.Core.Path.{◌≡◌, sym, ◌∙◌, ap, ap₂}
use Rattle.lengths.specs.declared.Length.{Length}
use Rattle.lengths.specs.declared.answer.Halves.{Halves}
use Rattle.lengths.proofs.Length.of.Reads as of
use Rattle.lengths.proofs.LengthAdd.add.Reads as add
use Rattle.lengths.proofs.answer.times_of.Reads as times-of
use Rattle.lengths.proofs.answer.gathered.Reads as gathered
use Rattle.lengths.proofs.answer.write.Reads as write

-- a length is its number, and two halves are their words
length-only : {a b : Length} → a.0 ≡ b.0 → a ≡ b
length-only e = ap (λ z. record { 0 = z }) e

halves-only : {a b : Halves} → a.plain ≡ b.plain → a.small ≡ b.small → a ≡ b
halves-only e f = ap₂ (λ p s. record { plain = p; small = s }) e f

pub of-only : (κs : _) (x : _) (a b : _) (e : _) → of.Post κs x a e → of.Post κs x b e → a ≡ b
of-only κs x a b e h k = length-only (h ∙ sym k)

pub add-only : (κs : _) (x : _) (a b : _) (e : _) → add.Post κs x a e → add.Post κs x b e → a ≡ b
add-only κs x a b e h k = length-only (h ∙ sym k)

pub times-of-only : (κs : _) (x : _) (a b : _) (e : _) → times-of.Post κs x a e → times-of.Post κs x b e → a ≡ b
times-of-only κs x a b e h k = halves-only (h.0 ∙ sym k.0) (h.1 ∙ sym k.1)

pub gathered-only : (κs : _) (x : _) (a b : _) (e : _) → gathered.Post κs x a e → gathered.Post κs x b e → a ≡ b
gathered-only κs x a b e h k = halves-only (h.0 ∙ sym k.0) (h.1 ∙ sym k.1)

pub write-only : (κs : _) (x : _) (a b : _) (e f : _) → write.Post κs x a e → write.Post κs x b f →
    e.1.1.1.1.0.now ≡ f.1.1.1.1.0.now
write-only κs x a b e f h k = h ∙ sym k
