-- docs/RULES.md, "The first violation": what a desk is shown of a state, before any step from there. It is what the
-- search for the leaving variable finds. Whether limits cross is not asked.
use Rattle.std.specs.Prelude.{Bool, false, true, List, ℕ, suc, zero, ℤ, pos}
use Rattle.std.proofs.Math.Option.{Option, none, some}
use Rattle.whole.specs.Values.{pairs}
use Rattle.rules.specs.Problem.{Problem, inner, problem}
use Rattle.rules.specs.Refusal.{problem_refusal}
use Rattle.rules.specs.Runs.Session.{Session, live_of}
use Rattle.rules.specs.Step.{Leaving, Side, State, above, below, common, leaving, start}

-- a refusal, or 0; whether some basic variable is outside its limits; then which one, whether it has to rise, D, and
-- the two parts of its shortfall over D
pub record Violation : Type 0 where
  pub refused : ℕ
  pub variable : ℕ
  pub violated : Bool
  pub rises : Bool
  pub denominator : ℤ
  pub shortfall : ℤ
  pub small : ℤ

-- refused, or nothing outside: all else is 0
abbrev pub nothing_shown : ℕ → Violation
nothing_shown k = record {
  refused = k;
  variable = 0;
  violated = false;
  rises = false;
  denominator = pos 0;
  shortfall = pos 0;
  small = pos 0;
}

abbrev pub has_to_rise : Side → Bool
has_to_rise below = true
has_to_rise above = false

-- by D and the leaving variable, if there is one
unfoldable pub shown_by : ℤ → Option (Leaving (ℤ × ℤ)) → Violation
shown_by d none = nothing_shown 0
shown_by d (some r) = record {
  refused = 0;
  variable = r.variable;
  violated = true;
  rises = has_to_rise r.side;
  denominator = d;
  shortfall = r.shortfall.0;
  small = r.shortfall.1;
}

-- of a state
unfoldable pub violation_of : Problem (ℤ × ℤ) → State (ℤ × ℤ) → Violation
violation_of P s = shown_by (common s) (leaving pairs P s)

-- of words, by their refusal: at the start of the problem that they are
abbrev pub start_shown : ℕ → List ℤ → Violation
start_shown zero ws = violation_of (inner (problem ws)) (start pairs (inner (problem ws)))
start_shown (suc k) ws = nothing_shown (suc k)

unfoldable pub first_violation : List ℤ → Violation
first_violation ws = start_shown (problem_refusal ws) ws

-- of a session as it stands: by the limits that are on, where its next check would start
abbrev pub session_violation : Session (ℤ × ℤ) → Violation
session_violation A = violation_of (live_of A) A.state
