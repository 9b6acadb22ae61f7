-- A problem with those of its limits that are kept. The others are dropped, mark and number together; the rows stay.
use Rattle.std.specs.Prelude.{Bool, true, false, ℕ}
use Rattle.std.proofs.Math.Option.{Option, none}
use Rattle.rules.specs.Problem.{Problem}
use Rattle.rules.specs.Step.{Side, below, above}

-- the limit of a variable on a side: below, the lower one
abbrev pub limit_of : {X : Type 0} → Problem X → Side → ℕ → Option X
limit_of P below v = P.lower v
limit_of P above v = P.upper v

-- a limit that is kept, or dropped
unfoldable pub kept : {X : Type 0} → Bool → Option X → Option X
kept true o = o
kept false o = none

abbrev pub keeping : {X : Type 0} → (Side → ℕ → Bool) → Problem X → Problem X
keeping on P = record {
  n = P.n;
  m = P.m;
  coefficient = P.coefficient;
  lower = λ v. kept (on below v) (P.lower v);
  upper = λ v. kept (on above v) (P.upper v);
}
