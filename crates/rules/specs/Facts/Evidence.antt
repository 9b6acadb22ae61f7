-- docs/RULES.md, "The evidence checker", sentence by sentence in plain facts, with no test inside; and what an accepted
-- answer means.
--   Solution, Numerators, ShowsCan            verdict 1: denominator, numerators and small parts that are right; that
--                                             are within the ranges too; in the words of an answer
--   Refutation, Multipliers, ShowsCannot      verdict 2: the multipliers, likewise
--   Shown                        the verdict with its evidence
--   checker_table                 the checker's number, line by line (specs/Facts/Refusal)
--   MetSmall, MetActually, Meant     what the number 8 means
-- The records are over the numbers that the words stand for, so that they speak of numbers that stand in no list too.
-- `checked` of specs/Evidence gives what the table says (`checked-exactly`).
use Rattle.std.specs.Prelude.{Bool, false, true, List, [], ◌++◌, ◌∷◌, ◌≢◌, ◌⊎◌, ◌≡◌, suc, ℕ, ◌<◌, pos, ℤ, ◌*ℤ◌, ◌-ℤ◌}
use Rattle.std.specs.Prelude.{length, ◌<ℤ◌, ◌≤ℤ◌}
use Rattle.std.proofs.Math.Option.{Option, none, some}
use Rattle.whole.specs.Numbers.{Within}
use Rattle.whole.specs.Values.{Le, Lt, mixed, pairs, whole}
use Rattle.rules.specs.Evidence.{Rows, Satisfies, Unsatisfied, column, denominator_of, lower_part, pair_part}
use Rattle.rules.specs.Evidence.{surplus, upper_part, verdict_of}
use Rattle.rules.specs.Limit.{Limit}
use Rattle.rules.specs.Facts.Refusal.{Line, line_of, problem_table, room_line}
use Rattle.rules.specs.Problem.{Problem, problem, vars}
use Rattle.rules.specs.Sizes.{largest_number, largest_numerator, largest_small, most_rows}

-- ---- verdict 1

-- one pair is at most another, or strictly below it
abbrev pub Passes : Bool → ℤ × ℤ → ℤ × ℤ → Type 0
Passes true x y = Lt pairs x y
Passes false x y = Le pairs x y

-- right: d is the denominator, x and y are the numerators and their small parts
pub record Solution (P : Problem Limit) (d : ℤ) (x y : ℕ → ℤ) : Type 0 where
  pub least : pos 1 ≤ℤ d
  pub rows : Rows whole P x
  pub small-rows : Rows whole P y
  pub lowers : (v : ℕ) → v < vars P → (l : Limit) → P.lower v ≡ some l →
      Passes l.strict (d *ℤ l.plain, pos 0) (x v, y v)
  pub uppers : (v : ℕ) → v < vars P → (u : Limit) → P.upper v ≡ some u →
      Passes u.strict (x v, y v) (d *ℤ u.plain, pos 0)

-- .. and within the ranges
pub record Numerators (P : Problem Limit) (d : ℤ) (x y : ℕ → ℤ) : Type 0 where
  pub right : Solution P d x y
  pub most : d ≤ℤ pos largest_number
  pub numerators : (v : ℕ) → v < vars P → Within (x v) largest_numerator
  pub smalls : (v : ℕ) → v < vars P → Within (y v) largest_small

-- ---- verdict 2

-- k is a multiplier of a limit that may be missing
pub record Multiplier (limit : Option Limit) (k : ℤ) : Type 0 where
  pub least : pos 0 ≤ℤ k
  pub missing : limit ≡ none → k ≡ pos 0

-- a strict limit with a multiplier other than 0
abbrev pub StrictNamed : Option Limit → ℤ → Type 0
StrictNamed o k = (l : Limit) × (o ≡ some l) × (l.strict ≡ true) × (k ≢ pos 0)

-- lo and up are the multipliers of the lower and upper limits: what they give in all is above 0; or it comes to 0, and
-- of the limits that they name one is strict
abbrev pub Contradiction : Problem Limit → (lo up : ℕ → ℤ) → Type 0
Contradiction P lo up = (pos 0 <ℤ surplus P lo up)
    ⊎ ((surplus P lo up ≡ pos 0)
    × ((v : ℕ) × (v < vars P) × (StrictNamed (P.lower v) (lo v) ⊎ StrictNamed (P.upper v) (up v))))

-- right: d stands where the denominator does
pub record Refutation (P : Problem Limit) (d : ℤ) (lo up : ℕ → ℤ) : Type 0 where
  pub no-denominator : d ≡ pos 0
  pub lowers : (v : ℕ) → v < vars P → Multiplier (P.lower v) (lo v)
  pub uppers : (v : ℕ) → v < vars P → Multiplier (P.upper v) (up v)
  pub cancels : (j : ℕ) → j < P.n → column P (λ v. lo v -ℤ up v) j ≡ pos 0
  pub contradiction : Contradiction P lo up

-- .. and within the ranges
pub record Multipliers (P : Problem Limit) (d : ℤ) (lo up : ℕ → ℤ) : Type 0 where
  pub right : Refutation P d lo up
  pub lowers-most : (v : ℕ) → v < vars P → lo v ≤ℤ pos largest_number
  pub uppers-most : (v : ℕ) → v < vars P → up v ≤ℤ pos largest_number

-- ---- the words of an answer

abbrev pub ShowsCan : Problem Limit → List ℤ → Type 0
ShowsCan P a = Numerators P (denominator_of a) (lower_part a) (upper_part (vars P) a)

abbrev pub ShowsCannot : Problem Limit → List ℤ → Type 0
ShowsCannot P a = Multipliers P (denominator_of a) (lower_part a) (upper_part (vars P) a)

-- the verdict is 1 or 2, with its evidence
abbrev pub Shown : Problem Limit → List ℤ → Type 0
Shown P a = ((verdict_of a ≡ pos 1) × ShowsCan P a) ⊎ ((verdict_of a ≡ pos 2) × ShowsCannot P a)

-- ---- the checker's number

-- refusals 1 to 6 and 10, an answer too short, evidence, and nothing else
abbrev pub checker_table : List ℤ → List ℤ → List Line
checker_table ws a = problem_table most_rows ws
    ++ (room_line ws (length a) ∷ line_of 8 (Shown (problem ws) a) (¬ Shown (problem ws) a) ∷ line_of 9 (Unit {0}) ⊥ ∷
    [])

-- ---- what the number 8 means

-- each positive fraction e / k up to 1 / 17,179,869,177, put for the small amount, makes of the answer's pairs
-- fractions that meet every row and limit, a strict one strictly
abbrev pub MetSmall : Problem Limit → List ℤ → Type 0
MetSmall P a = (e k : ℤ) → pos 0 <ℤ e → (e *ℤ pos (suc largest_small)) ≤ℤ k →
    Satisfies P (k *ℤ denominator_of a) (λ v. mixed e k (pair_part (vars P) a v))

-- .. one of them, 1 / 17,179,869,177 itself
abbrev pub MetActually : Problem Limit → List ℤ → Type 0
MetActually P a = Satisfies P (pos (suc largest_small) *ℤ denominator_of a)
    (λ v. mixed (pos 1) (pos (suc largest_small)) (pair_part (vars P) a v))

pub data Meant (P : Problem Limit) (a : List ℤ) : Type 0 where
  can-be-met : verdict_of a ≡ pos 1 → MetSmall P a → MetActually P a → Meant P a
  cannot-be-met : verdict_of a ≡ pos 2 → Unsatisfied P → Meant P a
