-- docs/RULES.md, "The three demands", 3, and "The run": that the answer is the run. From a state that is ready, where
-- no limits cross, the run ends once, after fewer pivots than the bound, and the words are those of its last state.
--   StartsAt, Starts     where a variable starts, by its limits; and the whole start of a problem
--   Crosses, LimitsCross    the lower limit of a variable exceeds its upper one, by values; and by numbers and marks
--   ended      the run at k pivots
--   begin      where the run of a problem's words starts
--   TheRun     its one count, and the words
use Rattle.std.specs.Prelude.{true, List, ◌⊎◌, ◌≡◌, ℕ, ◌+◌, ◌<◌, ◌≤◌, pos, ℤ, ◌<ℤ◌}
use Rattle.std.proofs.Math.Option.{Option, none, some}
use Rattle.whole.specs.Values.{Le, Lt, Values, pairs}
use Rattle.rules.specs.Answer.{answer_from, words_of}
use Rattle.rules.specs.Evidence.{Clears}
use Rattle.rules.specs.Limit.{Limit, lower_pair, upper_pair}
use Rattle.rules.specs.Problem.{Problem, inner, problem, vars, word}
use Rattle.rules.specs.Run.{Ending, Ends, after, bound, conflict}
use Rattle.rules.specs.Facts.State.{Sound}
use Rattle.rules.specs.Step.{State, common, seat, start, step}
use Rattle.rules.specs.Tableau.{entry}

-- ---- the start

module _ {X : Type 0} (𝓥 : Values X) where
  -- x, by limits o and p that may be missing: 0 where 0 is outside of neither; else the lower one where that is above
  -- 0; else the upper one
  pub data StartsAt (o p : Option X) (x : X) : Type 0 where
    at-nil : ((l : X) → o ≡ some l → Le 𝓥 l 𝓥.nil) → ((u : X) → p ≡ some u → Le 𝓥 𝓥.nil u) → x ≡ 𝓥.nil →
        StartsAt o p x
    at_low : (l : X) → o ≡ some l → Lt 𝓥 𝓥.nil l → x ≡ l → StartsAt o p x
    at_high : (u : X) → p ≡ some u → Lt 𝓥 u 𝓥.nil → ((l : X) → o ≡ some l → Le 𝓥 l 𝓥.nil) → x ≡ u →
        StartsAt o p x

-- 0 meets a lower limit, and an upper one, if there is one; a strict one strictly
abbrev pub ZeroAbove : Option Limit → Type 0
ZeroAbove none = Unit {0}
ZeroAbove (some l) = Clears l.strict l.plain (pos 0)

abbrev pub ZeroBelow : Option Limit → Type 0
ZeroBelow none = Unit {0}
ZeroBelow (some u) = Clears u.strict (pos 0) u.plain

-- the problem's variables are nonbasic: at 0 where 0 meets both limits, marks included; else at the lower limit where 0
-- does not meet that; else at the upper one. The rows' are basic; D is 1, and their entries are the coefficients
pub record Starts (P : Problem Limit) (s : State (ℤ × ℤ)) : Type 0 where
  pub problem-seated : (v : ℕ) → v < P.n → (x : ℤ × ℤ) × (seat s v ≡ some x)
  pub rows-basic : (v : ℕ) → P.n ≤ v → v < vars P → seat s v ≡ none
  pub at_zero : (v : ℕ) → v < P.n → ZeroAbove (P.lower v) → ZeroBelow (P.upper v) → seat s v ≡ some (pos 0, pos 0)
  pub at-lower : (v : ℕ) (l : Limit) → v < P.n → P.lower v ≡ some l → ¬ ZeroAbove (some l) →
      seat s v ≡ some (lower_pair l)
  pub at-upper : (v : ℕ) (u : Limit) → v < P.n → ZeroAbove (P.lower v) → P.upper v ≡ some u →
      ¬ ZeroBelow (some u) → seat s v ≡ some (upper_pair u)
  pub over-one : common s ≡ pos 1
  pub coefficients : (i j : ℕ) → i < P.m → j < P.n → entry s.tableau (P.n + i) j ≡ P.coefficient i j

-- ---- crossed limits

-- a variable's lower limit has the greater number; or both have the same, and either is strict
abbrev pub LimitsCross : Problem Limit → ℕ → Type 0
LimitsCross P v = (l : Limit) × (u : Limit) × (P.lower v ≡ some l) × (P.upper v ≡ some u)
    × ((u.plain <ℤ l.plain) ⊎ ((u.plain ≡ l.plain) × ((l.strict ≡ true) ⊎ (u.strict ≡ true))))

module _ {X : Type 0} (𝓥 : Values X) where
  -- its lower limit exceeds its upper
  abbrev pub Crosses : Problem X → ℕ → Type 0
  Crosses P v = (l : X) × (u : X) × (P.lower v ≡ some l) × (P.upper v ≡ some u) × Lt 𝓥 u l

  -- the run at k pivots
  abbrev pub ended : Problem X → State X → ℕ → Ending X
  ended P s k = record { how = step 𝓥 P (after 𝓥 P s k); pivots = k; last = after 𝓥 P s k }

-- where the run of a problem's words starts
abbrev pub begin : List ℤ → State (ℤ × ℤ)
begin ws = start pairs (inner (problem ws))

-- the one count of pivots, and the words of the state that the run ends at
pub record TheRun (P : Problem (ℤ × ℤ)) (s : State (ℤ × ℤ)) : Type 0 where
  pub uncrossed : conflict pairs P ≡ none
  pub count : ℕ
  pub ends : Ends pairs P s count
  pub sound : Sound pairs P (after pairs P s count)
  pub only : (k : ℕ) → Ends pairs P s k → k ≡ count
  pub below : count < bound P
  pub words : answer_from P s ≡ words_of P (ended pairs P s count)
  pub word-1 : word (answer_from P s) 1 ≡ pos count
