-- After which pass the way back is due: k passes are done.
--   Due                               it is due after a later one, not before the second, and among the first 64
--   due-start, due-first, due-next    at the start; past the first pass; past one after which it is not due
--   due-again                         after a way back that closed nothing: it has some places left, and no more than
--                                     are left of n passes
--   pass_on                           the next pass begins
use mathlib.Core.Path.{◌≡◌}
use mathlib.Core.List.{List}
use mathlib.Core.Logic.{◌≢◌}
use Prim.Native.Nat.{ℕ, ◌+◌, ◌≤◌, ◌<◌, min}
use native.Mathlib.Numerals.{add-one}
use native.Mathlib.Omega.{arith}
use lib.IntN.{ℤ}
use Rattle.rules.specs.Sizes.{most_vertices}
use Rattle.rules.specs.Problem.{m_of}
use Rattle.rules.proofs.Times.Refused.{vertices-few}
use Rattle.lengths.specs.declared.Length.{Length}
use Rattle.timerows.specs.Judged.{Fine}
use Rattle.times.specs.Steps.{Looked, Pass, Spare}
use Rattle.times.proofs.Laws.Passing.{looked-more}

pub record Due (k due : ℕ) : Type 0 where
  pub early : k < due
  pub late : 2 ≤ due
  pub few : due ≤ most_vertices

pub due-start : Due 0 2
due-start = record { early = omega arith; late = omega arith; few = omega arith }

module _ {k due : ℕ} (D : Due k due) where
  pub due-first : k + 1 ≡ 1 → Due (k + 1) due
  due-first e = record { early = omega arith; late = D.late; few = D.few }

  pub due-next : k + 1 ≢ due → Due (k + 1) due
  due-next n = record { early = omega arith; late = D.late; few = D.few }

pub due-again : {ws : List ℤ} {k left : ℕ} → Fine ws → Spare ws k left → Due (k + 1) (k + 1 + min left (k + 1))
due-again f s = let c = vertices-few f in record { early = omega arith; late = omega arith; few = omega arith }

pub pass_on : {ws : List ℤ} {k due : ℕ} {best : List Length} {last : List ℕ} {row : ℕ} →
    Pass ws k (m_of ws) best last row → Due (k + 1) due → Due (k + 1) due × Looked ws (k + 1) 0 best last
pass_on p D = (D, rw add-one (looked-more p (omega arith)))
