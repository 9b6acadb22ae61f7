-- Two results that a promise of this crate's public functions allows are equal: NAME-only for each.
-- The contracts themselves are compared: κs are lifetimes, x the arguments, e what lent words hold at the exit.
-- Each is of every byte of the slice and of the place behind the text.
use mathlib.Core.Path.{◌≡◌, sym, ◌∙◌}
use Rattle.put.proofs.Texts.{put_only}
use Rattle.put.proofs.Writer.new.Reads as new
use Rattle.put.proofs.Writer.at.Reads as at
use Rattle.put.proofs.Writer.place.Reads as place
use Rattle.put.proofs.Writer.byte.Reads as byte
use Rattle.put.proofs.Writer.text.Reads as text
use Rattle.put.proofs.Writer.digits.Reads as digits
use Rattle.put.proofs.Writer.number.Reads as number

pub new-only : (κs : _) (x : _) (a b : _) (e f : _) → new.Post κs x a e → new.Post κs x b f →
    (a.out.now ≡ b.out.now) × (a.at ≡ b.at)
new-only κs x a b e f h k = (h.1.0 ∙ sym k.1.0, h.1.1 ∙ sym k.1.1)

pub at-only : (κs : _) (x : _) (a b : _) (e f : _) → at.Post κs x a e → at.Post κs x b f →
    (a.out.now ≡ b.out.now) × (a.at ≡ b.at)
at-only κs x a b e f h k = (h.1.0 ∙ sym k.1.0, h.1.1 ∙ sym k.1.1)

pub place-only : (κs : _) (x : _) (a b : _) (e f : _) → place.Post κs x a e → place.Post κs x b f → a ≡ b
place-only κs x a b e f h k = h ∙ sym k

pub byte-only : (κs : _) (x : _) (a b : _) (e f : _) → byte.Post κs x a e → byte.Post κs x b f →
    (e.0.now.out.now ≡ f.0.now.out.now) × (e.0.now.at ≡ f.0.now.at)
byte-only κs x a b e f h k = put_only h k

pub text-only : (κs : _) (x : _) (a b : _) (e f : _) → text.Post κs x a e → text.Post κs x b f →
    (e.0.now.out.now ≡ f.0.now.out.now) × (e.0.now.at ≡ f.0.now.at)
text-only κs x a b e f h k = put_only h k

pub digits-only : (κs : _) (x : _) (a b : _) (e f : _) → digits.Post κs x a e → digits.Post κs x b f →
    (e.0.now.out.now ≡ f.0.now.out.now) × (e.0.now.at ≡ f.0.now.at)
digits-only κs x a b e f h k = put_only h k

pub number-only : (κs : _) (x : _) (a b : _) (e f : _) → number.Post κs x a e → number.Post κs x b f →
    (e.0.now.out.now ≡ f.0.now.out.now) × (e.0.now.at ≡ f.0.now.at)
number-only κs x a b e f h k = put_only h k
