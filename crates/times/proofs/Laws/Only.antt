-- Two results that the promise of `times` allows are equal, or both name a bad cycle. The contract itself is compared:
-- κs are lifetimes, x the arguments, e what lent words hold at the exit.
use mathlib.Core.Logic.{◌⊎◌}
use mathlib.Core.Path.{◌≡◌}
use Rattle.refusals.specs.Numbers.{number_told}
use Rattle.refusals.proofs.Refused as refused
use Rattle.rules.specs.Times.Answer.{BothNamed}
use Rattle.rules.proofs.Times.Told.{told-only}
use Rattle.times.proofs.times.Reads as times

pub times-only : (κs : _) (x : _) (a b : _) (e f : _) → times.Post κs x a e → times.Post κs x b f →
    (a ≡ b) × ((e.1.0.now ≡ f.1.0.now) ⊎ BothNamed x.0.now (number_told a) e.1.0.now f.1.0.now)
times-only κs x a b e f h k =
    let both = told-only x.0.now x.1.0.now (number_told a) (number_told b) e.1.0.now f.1.0.now h k in
    (refused.told-only a b both.0, both.1)
