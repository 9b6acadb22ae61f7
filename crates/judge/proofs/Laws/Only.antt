-- Two results that a promise of this crate's public functions allows are equal: NAME-only for each.
-- The contracts themselves are compared: κs are lifetimes, x the arguments, e what lent words hold at the exit.
use mathlib.Core.Path.{◌≡◌, sym, ◌∙◌}
use Rattle.refusals.proofs.Refused.{told-only}
use Rattle.judge.proofs.has_lower.Reads as has-lower
use Rattle.judge.proofs.has_upper.Reads as has-upper
use Rattle.judge.proofs.strict_lower.Reads as strict-lower
use Rattle.judge.proofs.strict_upper.Reads as strict-upper
use Rattle.judge.proofs.judge.Reads as judge
use Rattle.judge.proofs.judge_within.Reads as judge-within

pub has-lower-only : (κs : _) (x : _) (a b : _) (e : _) → has-lower.Post κs x a e → has-lower.Post κs x b e → a ≡ b
has-lower-only κs x a b e h k = h ∙ sym k

pub has-upper-only : (κs : _) (x : _) (a b : _) (e : _) → has-upper.Post κs x a e → has-upper.Post κs x b e → a ≡ b
has-upper-only κs x a b e h k = h ∙ sym k

pub judge-only : (κs : _) (x : _) (a b : _) (e : _) → judge.Post κs x a e → judge.Post κs x b e → a ≡ b
judge-only κs x a b e h k = told-only a b (h ∙ sym k)

pub judge-within-only : (κs : _) (x : _) (a b : _) (e : _) → judge-within.Post κs x a e → judge-within.Post κs x b e →
    a ≡ b
judge-within-only κs x a b e h k = told-only a b (h ∙ sym k)

pub strict-lower-only : (κs : _) (x : _) (a b : _) (e : _) → strict-lower.Post κs x a e → strict-lower.Post κs x b e →
    a ≡ b
strict-lower-only κs x a b e h k = h ∙ sym k

pub strict-upper-only : (κs : _) (x : _) (a b : _) (e : _) → strict-upper.Post κs x a e → strict-upper.Post κs x b e →
    a ≡ b
strict-upper-only κs x a b e h k = h ∙ sym k
