-- Two results that a promise of this crate's public functions allows are equal.
-- The contracts themselves are compared: κs are lifetimes, x the arguments, e what lent words hold at the exit.
--   replay-answer-only    what a trace comes to
--   in-numbers-only       .. in numbers
--   word-from-only        the number of a word
use mathlib.Core.Path.{◌≡◌, ap, sym, ◌∙◌}
use Rattle.std.proofs.Common.{Result, Ok, Err, IfOk}
use Rattle.refusals.specs.declared.Refusal.{Refusal}
use Rattle.refusals.specs.Numbers.{told_by}
use Rattle.refusals.proofs.Refused.{number-only, number-some}
use Rattle.replay.specs.declared.Replayed.{Replayed}
use Rattle.replay.proofs.in_numbers.Reads as in-numbers
use Rattle.replay.proofs.U32FromWord.from.Reads as word-from
use Rattle.replay.proofs.replay.Reads as replay

-- one number, and one answer where there is one
answer-only : (r : Replayed) (a b : Result Replayed Refusal) → told_by a ≡ told_by b → IfOk a (λ x. x ≡ r) →
    IfOk b (λ x. x ≡ r) → a ≡ b
answer-only r (Ok x) (Ok y) e h k = ap Ok (h ∙ sym k)
answer-only r (Ok x) (Err s) e h k = absurd (number-some s (sym e))
answer-only z (Err r) (Ok y) e h k = absurd (number-some r e)
answer-only z (Err r) (Err s) e h k = ap Err (number-only r s e)

pub replay-answer-only : (κs : _) (x : _) (a b : _) (e f : _) → replay.Post κs x a e → replay.Post κs x b f → a ≡ b
replay-answer-only κs x a b e f h k = answer-only _ a b (h.0 ∙ sym k.0) h.1 k.1

pub in-numbers-only : (κs : _) (x : _) (a b : _) (e f : _) → in-numbers.Post κs x a e → in-numbers.Post κs x b f → a ≡ b
in-numbers-only κs x a b e f h k = h ∙ sym k

pub word-from-only : (κs : _) (x : _) (a b : _) (e : _) → word-from.Post κs x a e → word-from.Post κs x b e → a ≡ b
word-from-only κs x a b e h k = h ∙ sym k
