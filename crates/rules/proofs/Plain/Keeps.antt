-- A map of values that keeps 0, sums, multiples and the order, and what it makes of things.
use mathlib.Core.List.{map}
use mathlib.Core.Path.{◌≡◌}
use lib.IntN.{ℤ}
use Rattle.whole.specs.Values.{Values}
use Rattle.rules.specs.Problem.{Problem, mapped}
use Rattle.rules.specs.Run.{Ending}
use Rattle.rules.specs.Step.{Leaving, Outcome, State, can, cannot, goes, leaves, range}

pub record Keeps {X Y : Type 0} (𝓧 : Values X) (𝓨 : Values Y) (h : X → Y) : Type 0 where
  pub keeps-nil : h 𝓧.nil ≡ 𝓨.nil
  pub keeps-plus : (x y : X) → h (𝓧.plus x y) ≡ 𝓨.plus (h x) (h y)
  pub keeps-scale : (a : ℤ) (x : X) → h (𝓧.scale a x) ≡ 𝓨.scale a (h x)
  pub keeps-less : (x y : X) → 𝓨.less (h x) (h y) ≡ 𝓧.less x y

-- ---- what it makes of things

module _ {X Y : Type 0} (h : X → Y) where
  abbrev pub problem_through : Problem X → Problem Y
  problem_through P = record {
    n = P.n;
    m = P.m;
    coefficient = P.coefficient;
    lower = λ v. mapped h (P.lower v);
    upper = λ v. mapped h (P.upper v);
  }

  abbrev pub state_through : State X → State Y
  state_through s = record { tableau = s.tableau; seats = map (mapped h) s.seats }

  abbrev pub leaving_through : Leaving X → Leaving Y
  leaving_through r = leaves r.variable r.side (h r.shortfall)

  unfoldable pub outcome_through : Outcome X → Outcome Y
  outcome_through can = can
  outcome_through (cannot ls us) = cannot ls us
  outcome_through range = range
  outcome_through (goes t) = goes (state_through t)

  abbrev pub ending_through : Ending X → Ending Y
  ending_through e = record { how = outcome_through e.how; pivots = e.pivots; last = state_through e.last }
