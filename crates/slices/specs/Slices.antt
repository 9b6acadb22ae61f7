-- docs/RULES.md, "The run in slices", over the structs: what is handed back, by an equation, and what it means for
-- every state of the rules' run that a struct stands for.
use Rattle.std.specs.Prelude.{Bool, true, false, List, [], ◌∷◌, ◌≡◌, ℕ, zero, suc, ◌<◌, ℤ, pos, length}
use Rattle.std.proofs.Math.Option.{Option, none}
use Rattle.whole.specs.Values.{pairs}
use Rattle.rules.specs.Limit.{Limit}
use Rattle.rules.specs.Problem.{Problem, inner, problem, vars}
use Rattle.rules.specs.Refusal.{problem_refusal}
use Rattle.rules.specs.Runs.Slices.{begun, continued, is_answer, slice_answer, slice_length, slice_output}
use Rattle.rules.specs.Runs.Slices.{slice_refusal}
use Rattle.rules.specs.Runs.Slices as rules
use Rattle.tableau.specs.Start.{start_tableau}
use Rattle.answers.specs.Answer.{is_short}
use Rattle.solver.specs.declared.spend.Spent.{Spent}
use Rattle.solver.specs.Spend.{many_of, out_at, spent_at}
use Rattle.solver.specs.Spend as solver
use Rattle.slices.specs.declared.Begun.{Begun}
use Rattle.slices.specs.declared.Continued.{Continued}
use Rattle.slices.specs.declared.Slice.{Slice}

-- ---- what a struct stands for

abbrev pub SliceHolds : rules.Slice (ℤ × ℤ) → Slice → Type 0
SliceHolds S s = solver.Holds S s.tableau s.count

abbrev pub SliceStanding : Slice → Type 0
SliceStanding s = solver.Standing s.tableau s.count

-- one problem, up to what its sizes leave open
pub record SameProblem (P Q : Problem (ℤ × ℤ)) : Type 0 where
  pub columns-same : P.n ≡ Q.n
  pub rows_same : P.m ≡ Q.m
  pub coefficients : (i j : ℕ) → i < P.m → j < P.n → P.coefficient i j ≡ Q.coefficient i j
  pub lowers : (v : ℕ) → v < vars P → P.lower v ≡ Q.lower v
  pub uppers : (v : ℕ) → v < vars P → P.upper v ≡ Q.upper v

-- ---- a start

-- the words of one variable without rows and limits, case H: a refused start hands back their state
abbrev pub idle : List ℤ
idle = pos 1 ∷ pos 0 ∷ pos 0 ∷ pos 0 ∷ pos 0 ∷ []

abbrev pub started_words : ℕ → List ℤ → List ℤ
started_words zero ws = ws
started_words (suc k) ws = idle

abbrev pub started_problem : List ℤ → Problem Limit
started_problem ws = problem (started_words (problem_refusal ws) ws)

unfoldable pub begun_at : List ℤ → Begun
begun_at ws = record {
  refused = problem_refusal ws;
  slice = record { count = 0; tableau = start_tableau (started_problem ws) };
}

pub record StartsAs (ws : List ℤ) (r : Begun) : Type 0 where
  pub number : r.refused ≡ problem_refusal ws
  pub state : SliceHolds (begun pairs (inner (started_problem ws))) r.slice
  pub standing : SliceStanding r.slice

-- ---- a continue

abbrev pub went_on_by : Spent → Continued
went_on_by p = record { refused = 0; answered = p.answered; slice = record { count = p.count; tableau = p.tableau } }

abbrev pub went_on_where : Bool → Slice → ℕ → Continued
went_on_where true s b = record { refused = 7; answered = false; slice = s }
went_on_where false s b = went_on_by (spent_at s.tableau s.count b)

abbrev pub slice_output_where : Bool → Slice → ℕ → List ℤ → List ℤ
slice_output_where true s b before = before
slice_output_where false s b before = out_at s.tableau s.count b before

-- with no room for an answer nothing is done
unfoldable pub went_on_at : Slice → ℕ → ℕ → Continued
went_on_at s b room = went_on_where (is_short room (many_of s.tableau)) s b

unfoldable pub slice_output_at : Slice → ℕ → List ℤ → List ℤ
slice_output_at s b before = slice_output_where (is_short (length before) (many_of s.tableau)) s b before

-- .. by the rules: refused, the state stays and there is no answer
abbrev pub state_by : ℕ → rules.Slice (ℤ × ℤ) → ℕ → rules.Slice (ℤ × ℤ)
state_by zero S b = continued pairs S b
state_by (suc k) S b = S

abbrev pub answer_ruled : ℕ → rules.Slice (ℤ × ℤ) → ℕ → Option (List ℤ)
answer_ruled zero S b = slice_answer S b
answer_ruled (suc k) S b = none

-- what a continue means for a state that the struct stands for
pub record Means (S : rules.Slice (ℤ × ℤ)) (b : ℕ) (before : List ℤ) (r : Continued) (after : List ℤ) : Type 0 where
  pub number : r.refused ≡ slice_refusal S (length before)
  pub answered : r.answered ≡ is_answer (answer_ruled r.refused S b)
  pub output : after ≡ slice_output (answer_ruled r.refused S b) (slice_length S) before
  pub state : SliceHolds (state_by r.refused S b) r.slice

-- .. for every such state; and what comes back stands for one
pub record GoesOnAs (s : Slice) (b : ℕ) (before : List ℤ) (r : Continued) (after : List ℤ) : Type 0 where
  pub means : (S : rules.Slice (ℤ × ℤ)) → SliceHolds S s → Means S b before r after
  pub standing : SliceStanding r.slice
