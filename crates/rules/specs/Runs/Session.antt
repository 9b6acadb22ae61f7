-- docs/RULES.md, "Switching limits": a session holds a problem with every limit that was handed in, which of them are
-- on, and the state that its next check starts from. Demands 2 and 3 of a check speak of `live_of`, the problem with
-- the
-- limits that are on.
use Rattle.std.specs.Prelude.{Bool, true, false, cond, not, ◌&&◌, List, [], ◌∷◌, ◌++◌, ℕ, zero, suc, ◌+◌, ◌*◌, ltb, ℤ}
use Rattle.std.specs.Prelude.{drop, get_or, replicate, set}
use Rattle.std.proofs.Math.Option.{Option, none, some}
use Rattle.whole.specs.Tables.{table}
use Rattle.whole.specs.Values.{Values}
use Rattle.rules.specs.Answer.{answer_from}
use Rattle.rules.specs.Keeping.Limits.{keeping, limit_of}
use Rattle.rules.specs.Problem.{Problem, vars}
use Rattle.rules.specs.Refusal.{first}
use Rattle.rules.specs.Run.{ending}
use Rattle.rules.specs.Step.{Side, State, above, below, seat, start}

pub record Session (X : Type 0) : Type 0 where
  pub given : Problem X
  pub lowers_on : List Bool
  pub uppers_on : List Bool
  pub state : State X

-- which limits of a side are on
abbrev pub by_side : Side → (lowers_on uppers_on : List Bool) → List Bool
by_side below ls us = ls
by_side above ls us = us

abbrev pub is_on : {X : Type 0} → Session X → Side → ℕ → Bool
is_on A σ v = get_or (by_side σ A.lowers_on A.uppers_on) v false

-- the limits that are on, and no others
abbrev pub live_of : {X : Type 0} → Session X → Problem X
live_of A = keeping (is_on A) A.given

-- every limit is off
abbrev pub none_on : Side → ℕ → Bool
none_on σ v = false

-- the session at another state
abbrev pub with_state : {X : Type 0} → Session X → State X → Session X
with_state A s = record { given = A.given; lowers_on = A.lowers_on; uppers_on = A.uppers_on; state = s }

-- ---- what is refused

abbrev pub is_missing : {X : Type 0} → Option X → Bool
is_missing none = true
is_missing (some l) = false

-- no such variable, no such limit, on already, off already
unfoldable pub switch_tests : {X : Type 0} → Session X → ℕ → Side → Bool → List (Bool × ℕ)
switch_tests A v σ on =
    (not (ltb v (vars A.given)), 41) ∷ (is_missing (limit_of A.given σ v), 42)
    ∷ (on && is_on A σ v, 43) ∷ (not on && not (is_on A σ v), 44) ∷ []

unfoldable pub switch_refusal : {X : Type 0} → Session X → ℕ → Side → Bool → ℕ
switch_refusal A v σ on = first (switch_tests A v σ on)

-- how many words the answer of a check has: by the variables handed in, whatever is on
abbrev pub check_length : {X : Type 0} → Session X → ℕ
check_length A = 3 + 2 * vars A.given

-- room is the length of the output
unfoldable pub check_refusal : {X : Type 0} → Session X → ℕ → ℕ
check_refusal A room = first ((ltb room (check_length A), 7) ∷ [])

-- ---- what a switch changes

unfoldable pub flagged : {X : Type 0} → Session X → ℕ → Side → Bool → Session X
flagged A v below on =
    record { given = A.given; lowers_on = set A.lowers_on v on; uppers_on = A.uppers_on; state = A.state }
flagged A v above on =
    record { given = A.given; lowers_on = A.lowers_on; uppers_on = set A.uppers_on v on; state = A.state }

module _ {X : Type 0} (𝓥 : Values X) where
  open 𝓥 use {less}

  -- a value outside one of two limits that do not conflict moves to that one
  unfoldable pub inside : Option X → Option X → X → X
  inside none none x = x
  inside (some l) none x = cond (less x l) l x
  inside none (some u) x = cond (less u x) u x
  inside (some l) (some u) x = cond (less u l) x (cond (less x l) l (cond (less u x) u x))

  -- .. of a nonbasic variable; a basic one has no value of its own
  unfoldable pub inside_seat : Option X → Option X → Option X → Option X
  inside_seat l u none = none
  inside_seat l u (some x) = some (inside l u x)

  -- every nonbasic variable, by the limits that are on
  unfoldable pub all_inside : Session X → Session X
  all_inside A = with_state A (record {
    tableau = A.state.tableau;
    seats = table (vars A.given) (λ v. inside_seat ((live_of A).lower v) ((live_of A).upper v) (seat A.state v));
  })

  -- ---- opening, and the two operations

  -- the start of a problem without limits: every problem variable is 0
  unfoldable pub opened : Problem X → Session X
  opened P = record {
    given = P;
    lowers_on = replicate (vars P) false;
    uppers_on = replicate (vars P) false;
    state = start 𝓥 (keeping none_on P);
  }

  -- a switch that is refused leaves the session as it was
  unfoldable pub switched : Session X → ℕ → Side → Bool → Session X
  switched A v σ on = elim (switch_refusal A v σ on) [ zero ↦ all_inside (flagged A v σ on) | suc k ↦ A ]

  -- after a check: the last completed tableau and values, whatever the verdict
  unfoldable pub rested : Session X → Session X
  rested A = with_state A (ending 𝓥 (live_of A) A.state).last

  -- .. and after one that is refused with this number, or not
  abbrev pub rested_by : ℕ → Session X → Session X
  rested_by zero A = rested A
  rested_by (suc k) A = A

  -- a session that opening or an operation handed back
  pub data Handed (P : Problem X) : Session X → Type 0 where
    from-opening : Handed P (opened P)
    from-switch : {A : Session X} (v : ℕ) (σ : Side) (on : Bool) → Handed P A → Handed P (switched A v σ on)
    from-check : {A : Session X} → Handed P A → Handed P (rested A)

-- ---- what a check writes

-- over the limits that are on, its own pivots counted from 0
unfoldable pub check_answer : Session (ℤ × ℤ) → List ℤ
check_answer A = answer_from (live_of A) A.state

-- what stands in the output afterwards: refused, what stood there
abbrev pub check_output : ℕ → Session (ℤ × ℤ) → List ℤ → List ℤ
check_output zero A before = check_answer A ++ drop (check_length A) before
check_output (suc k) A before = before
