-- docs/RULES.md, "The first violation", in plain words and with no search inside.
--   Names    what is shown names this variable, this side and this shortfall
--   Shows    nothing where every basic variable is within its limits, else the lowest one that is outside
use Rattle.std.specs.Prelude.{false, true, ◌≡◌, ℕ, ◌<◌, pos, ℤ}
use Rattle.std.proofs.Math.Option.{none}
use Rattle.whole.specs.Values.{Lt, pairs}
use Rattle.rules.specs.Facts.Rule.{Inside, Left}
use Rattle.rules.specs.Problem.{Problem, vars}
use Rattle.rules.specs.Runs.Violation.{Violation, nothing_shown}
use Rattle.rules.specs.Step.{Leaving, State, above, below, common, seat}

-- `Left` has what a leaving variable and its shortfall are
pub record Names (s : State (ℤ × ℤ)) (r : Leaving (ℤ × ℤ)) (f : Violation) : Type 0 where
  pub not-refused : f.refused ≡ 0
  pub some-violated : f.violated ≡ true
  pub variable-is : f.variable ≡ r.variable
  pub rises-below : r.side ≡ below → f.rises ≡ true
  pub falls-above : r.side ≡ above → f.rises ≡ false
  pub over-common : f.denominator ≡ common s
  pub short-by : (f.shortfall, f.small) ≡ r.shortfall

pub data Shows (P : Problem (ℤ × ℤ)) (s : State (ℤ × ℤ)) (f : Violation) : Type 0 where
  none-outside : f ≡ nothing_shown 0 → ((v : ℕ) → v < vars P → seat s v ≡ none → Inside pairs P s v) → Shows P s f
  one_outside : (r : Leaving (ℤ × ℤ)) → Left pairs P s r → Lt pairs (pos 0, pos 0) r.shortfall → Names s r f →
      Shows P s f
