-- Two results that a promise of this crate's public functions allows are equal: NAME-only for each.
-- The contracts themselves are compared: κs are lifetimes, x the arguments, e what lent words hold at the exit.
-- Each is of the answer, or the place behind the text, and of every byte of the slice.
use mathlib.Core.Path.{◌≡◌}
use Rattle.put.proofs.Texts.{put_only}
use Rattle.lines.proofs.Texts.{printed-only}
use Rattle.lines.proofs.respond.put_refusal.Reads as put-refusal
use Rattle.lines.proofs.write_text.Reads as write-text
use Rattle.lines.proofs.respond.put_reply.Reads as put-reply
use Rattle.lines.proofs.respond.respond.Reads as respond

pub respond-only : (κs : _) (x : _) (a b : _) (e f : _) → respond.Post κs x a e → respond.Post κs x b f →
    (e.1.0.now ≡ f.1.0.now) × (a ≡ b)
respond-only κs x a b e f h k = printed-only h k

pub write-text-only : (κs : _) (x : _) (a b : _) (e f : _) → write-text.Post κs x a e → write-text.Post κs x b f →
    (e.1.0.now ≡ f.1.0.now) × (a ≡ b)
write-text-only κs x a b e f h k = printed-only h k

pub put-reply-only : (κs : _) (x : _) (a b : _) (e f : _) → put-reply.Post κs x a e → put-reply.Post κs x b f →
    (e.0.now.out.now ≡ f.0.now.out.now) × (e.0.now.at ≡ f.0.now.at)
put-reply-only κs x a b e f h k = put_only h.put k.put

pub put-refusal-only : (κs : _) (x : _) (a b : _) (e f : _) → put-refusal.Post κs x a e → put-refusal.Post κs x b f →
    (e.0.now.out.now ≡ f.0.now.out.now) × (e.0.now.at ≡ f.0.now.at)
put-refusal-only κs x a b e f h k = put_only h.put k.put
