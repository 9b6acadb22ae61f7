-- Two results that the promise of `check` allows are equal. The contract itself is compared.
use mathlib.Core.Path.{◌≡◌, sym, ◌∙◌}
use Rattle.refusals.proofs.Refused.{verdict-only}
use Rattle.timecheck.proofs.check.Reads as check

pub check-only : (κs : _) (x : _) (a b : _) (e : _) → check.Post κs x a e → check.Post κs x b e → a ≡ b
check-only κs x a b e h k = verdict-only a b (h ∙ sym k)
