-- docs/RULES.md, "Switching limits", over the structs: what is handed back, by an equation, and what it means for every
-- session of the rules that a struct stands for.
use Rattle.std.specs.Prelude.{Bool, true, false, List, ◌≡◌, ℕ, zero, suc, ◌<◌, ℤ, get_or, length}
use Rattle.whole.specs.Values.{pairs}
use Rattle.rules.specs.Facts.Runs.Session.{Fair}
use Rattle.rules.specs.Limit.{lower_pair, upper_pair}
use Rattle.rules.specs.Problem.{Problem, inner, mapped, vars}
use Rattle.rules.specs.Refusal.{problem_refusal}
use Rattle.rules.specs.Runs.Session.{check_output, check_refusal, live_of, opened, rested_by, switch_refusal, switched}
use Rattle.rules.specs.Sizes.{most_variables}
use Rattle.rules.specs.Runs.Session as rules
use Rattle.tableau.specs.declared.Limits.{Limits}
use Rattle.tableau.specs.Parts.{lower_given, upper_given}
use Rattle.tableau.specs.Stands.{Ranged, Stands}
use Rattle.tableau.specs.Start.{start_tableau}
use Rattle.answers.specs.Answer.{is_short}
use Rattle.solver.specs.Spend.{many_of, out_at, spent_at}
use Rattle.slices.specs.Slices.{started_problem}
use Rattle.session.specs.declared.Checked.{Checked}
use Rattle.session.specs.declared.Opened.{Opened}
use Rattle.session.specs.declared.Session.{Session}
use Rattle.session.specs.declared.Switched.{Switched}
use Rattle.session.specs.Switching.{handed_in, quiet_at, refusal_at, side_told, turned_at}

-- ---- what a struct stands for

-- the limits are those that were handed in; one that is on is one of them
pub record Offers (P : Problem (ℤ × ℤ)) (l : Limits) : Type 0 where
  pub lower-given : (v : ℕ) → v < vars P → P.lower v ≡ mapped lower_pair (handed_in (lower_given l v))
  pub upper-given : (v : ℕ) → v < vars P → P.upper v ≡ mapped upper_pair (handed_in (upper_given l v))
  pub lowers-sworn : (v : ℕ) → (lower_given l v).on ≡ true → (lower_given l v).given ≡ true
  pub uppers-sworn : (v : ℕ) → (upper_given l v).on ≡ true → (upper_given l v).given ≡ true
  pub lowers-long : length l.lower ≡ most_variables
  pub uppers-long : length l.upper ≡ most_variables

-- of N variables the limits of the two lists are on
pub record Flags (N : ℕ) (lowers uppers : List Bool) (l : Limits) : Type 0 where
  pub lowers-are : (v : ℕ) → v < N → get_or lowers v false ≡ (lower_given l v).on
  pub uppers-are : (v : ℕ) → v < N → get_or uppers v false ≡ (upper_given l v).on
  pub lowers-many : length lowers ≡ N
  pub uppers-many : length uppers ≡ N

-- the limits that are on, the state, and every limit handed in
pub record SessionHolds (A : rules.Session (ℤ × ℤ)) (s : Session) : Type 0 where
  pub stands : Stands (live_of A) s.tableau A.state
  pub ranged : Ranged s.tableau
  pub offers : Offers A.given s.tableau.limits
  pub flags : Flags (vars A.given) A.lowers_on A.uppers_on s.tableau.limits
  pub fair : Fair pairs A

-- .. some such session
pub record SessionStanding (s : Session) : Type 0 where
  pub session : rules.Session (ℤ × ℤ)
  pub holds : SessionHolds session s

-- ---- opening

unfoldable pub opened_at : List ℤ → Opened
opened_at ws = record {
  refused = problem_refusal ws;
  session = record { tableau = quiet_at (start_tableau (started_problem ws)) };
}

pub record OpensAs (ws : List ℤ) (r : Opened) : Type 0 where
  pub number : r.refused ≡ problem_refusal ws
  pub state : SessionHolds (opened pairs (inner (started_problem ws))) r.session
  pub standing : SessionStanding r.session

-- ---- a switch

-- by its number: refused, the session stays
abbrev pub switched_by : ℕ → Session → ℕ → Bool → Bool → Switched
switched_by zero s v upper on = record { refused = 0; session = record { tableau = turned_at s.tableau v upper on } }
switched_by (suc k) s v upper on = record { refused = suc k; session = s }

unfoldable pub switched_at : Session → ℕ → Bool → Bool → Switched
switched_at s v upper on = switched_by (refusal_at s.tableau v upper on) s v upper on

-- what a switch means for a session that the struct stands for
pub record SwitchMeans (A : rules.Session (ℤ × ℤ)) (v : ℕ) (upper on : Bool) (r : Switched) : Type 0 where
  pub number : r.refused ≡ switch_refusal A v (side_told upper) on
  pub state : SessionHolds (switched pairs A v (side_told upper) on) r.session

-- .. for every such session; and what comes back stands for one
pub record SwitchesAs (s : Session) (v : ℕ) (upper on : Bool) (r : Switched) : Type 0 where
  pub means : (A : rules.Session (ℤ × ℤ)) → SessionHolds A s → SwitchMeans A v upper on r
  pub standing : SessionStanding r.session

-- ---- a check

-- as many pivots to spend as the code can count, more than any run has
abbrev pub unlimited : ℕ
unlimited = 18446744073709551615

abbrev pub checked_where : Bool → Session → Checked
checked_where true s = record { refused = 7; session = s }
checked_where false s = record { refused = 0; session = record { tableau = (spent_at s.tableau 0 unlimited).tableau } }

abbrev pub check_output_where : Bool → Session → List ℤ → List ℤ
check_output_where true s before = before
check_output_where false s before = out_at s.tableau 0 unlimited before

-- with no room for an answer nothing is done
unfoldable pub checked_at : Session → ℕ → Checked
checked_at s room = checked_where (is_short room (many_of s.tableau)) s

unfoldable pub check_output_at : Session → List ℤ → List ℤ
check_output_at s before = check_output_where (is_short (length before) (many_of s.tableau)) s before

-- what a check means for a session that the struct stands for
pub record CheckMeans (A : rules.Session (ℤ × ℤ)) (before : List ℤ) (r : Checked) (after : List ℤ) : Type 0 where
  pub number : r.refused ≡ check_refusal A (length before)
  pub output : after ≡ check_output r.refused A before
  pub state : SessionHolds (rested_by pairs r.refused A) r.session

-- .. for every such session; and what comes back stands for one
pub record ChecksAs (s : Session) (before : List ℤ) (r : Checked) (after : List ℤ) : Type 0 where
  pub means : (A : rules.Session (ℤ × ℤ)) → SessionHolds A s → CheckMeans A before r after
  pub standing : SessionStanding r.session
