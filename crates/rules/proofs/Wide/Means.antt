-- What the number 8 of the checker of wide evidence means. With verdict 1, put any fraction e / k above 0 and up to
-- 1 / (2^127 + 1) for the small amount: the answer's pairs are then fractions that meet every row and limit, a strict
-- one strictly. With verdict 2 no fractions do.
--   wide-means      `MeantWide` of specs/Facts/Wide
use mathlib.Core.List.{List}
use mathlib.Core.Logic.{inl, inr}
use mathlib.Core.Path.{◌≡◌}
use Prim.Native.Nat.{◌+◌}
use native.Mathlib.Omega.{arith}
use Rattle.rules.proofs.Evidence.Farkas.{farkas}
use Rattle.rules.proofs.Evidence.Satisfied.{solution-satisfied}
use Rattle.rules.proofs.Wide.Checked.{wide-accepted}
use Rattle.rules.proofs.Wide.Numbers.{wide-within}
use Rattle.rules.specs.Facts.Wide.{MeantWide, RightWide, ShownWide, can-be-met, cannot-be-met}
use Rattle.rules.specs.Problem.{problem, vars}
use Rattle.rules.specs.Sizes.{largest_wide}
use Rattle.rules.specs.Wide.{checked_wide, wide_denominator, wide_lower, wide_upper}

pub wide-means : (ws a : List _) → checked_wide ws a ≡ 8 → MeantWide (problem ws) a
wide-means ws a c = let S = ((wide-accepted ws a).0 c).2 in go S S.shown
  where
    go : ShownWide (problem ws) a → RightWide (problem ws) a → MeantWide (problem ws) a
    go S (inl (v, R)) = can-be-met v
        (solution-satisfied (problem ws) (wide_denominator a) (wide_lower a) (wide_upper (vars (problem ws)) a)
        largest_wide
        R (λ v h. wide-within a (1 + vars (problem ws) + v) (S.formed (1 + vars (problem ws) + v) (omega arith))))
    go S (inr (v, R)) = cannot-be-met v
        (farkas (problem ws) (wide_denominator a) (wide_lower a) (wide_upper (vars (problem ws)) a) R)
