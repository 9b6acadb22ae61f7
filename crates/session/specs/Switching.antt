-- docs/RULES.md, "Switching limits", over the tableau by place: every limit off, one limit on or off, and the value of
-- its variable by the limits that are on.
use Rattle.std.specs.Prelude.{Bool, true, false, not, ◌&&◌, List, [], ◌∷◌, ◌≡◌, ℕ, ◌<◌, ltb, ℤ, pos, get_or, replicate}
use Rattle.std.specs.Prelude.{set}
use Rattle.std.proofs.Math.Option.{Option}
use Rattle.whole.specs.Tables.{filled}
use Rattle.whole.specs.Values.{pairs}
use Rattle.rules.specs.Limit.{Limit, present}
use Rattle.rules.specs.Refusal.{first}
use Rattle.rules.specs.Runs.Session.{inside}
use Rattle.rules.specs.Sizes.{most_columns, most_variables}
use Rattle.rules.specs.Step.{Side, above, below}
use Rattle.amounts.specs.declared.Given.{Given}
use Rattle.amounts.specs.Amounts.{absent}
use Rattle.tableau.specs.declared.Limits.{Limits}
use Rattle.tableau.specs.declared.Tableau.{Tableau}
use Rattle.tableau.specs.Parts.{column_of, highest_of, lower_given, lowest_of, seat_at, upper_given, value_at}
use Rattle.solver.specs.Spend.{many_of}

-- ---- limits

abbrev pub side_told : Bool → Side
side_told true = above
side_told false = below

-- the limit as it was given, on or off
abbrev pub handed_in : Given → Option Limit
handed_in g = present g.given (record { plain = g.plain; strict = g.strict })

abbrev pub switched_to : Given → Bool → Given
switched_to g on = record { given = g.given; on = on; strict = g.strict; plain = g.plain }

-- the limit of a variable on a side
abbrev pub given_at : Bool → Limits → ℕ → Given
given_at true l v = upper_given l v
given_at false l v = lower_given l v

-- the limits with that one on or off
unfoldable pub flagged_at : Bool → Limits → ℕ → Bool → Limits
flagged_at true l v on =
    record { lower = l.lower; upper = set l.upper v (switched_to (upper_given l v) on); strict = l.strict }
flagged_at false l v on =
    record { lower = set l.lower v (switched_to (lower_given l v) on); upper = l.upper; strict = l.strict }

abbrev pub all_off : List Given → List Given
all_off l = filled most_variables absent most_variables (λ v. switched_to (get_or l v absent) false)

abbrev pub off_limits : Limits → Limits
off_limits l = record { lower = all_off l.lower; upper = all_off l.upper; strict = l.strict }

-- ---- the tableau with other values and limits

abbrev pub furnished : Tableau → List ℤ → List ℤ → Limits → Tableau
furnished t values smalls l = record {
  rows = t.rows;
  columns = t.columns;
  common = t.common;
  entries = t.entries;
  basic = t.basic;
  nonbasic = t.nonbasic;
  values = values;
  smalls = smalls;
  seats = t.seats;
  limits = l;
}

abbrev pub zero_values : List ℤ
zero_values = replicate most_columns (pos 0)

-- every limit off, every value 0
unfoldable pub quiet_at : Tableau → Tableau
quiet_at t = furnished t zero_values zero_values (off_limits t.limits)

-- where a value goes, by the limits of a variable that are on
abbrev pub inside_at : Limits → ℕ → ℤ × ℤ → ℤ × ℤ
inside_at l v x = inside pairs (lowest_of l v) (highest_of l v) x

-- .. of a variable that is basic, or in a column place
abbrev pub settled_by : Bool → Tableau → ℕ → Tableau
settled_by true t v = t
settled_by false t v = let j : ℕ = column_of t v in let x : ℤ × ℤ = inside_at t.limits v (value_at t j) in
    furnished t (set t.values j x.0) (set t.smalls j x.1) t.limits

unfoldable pub settled_at : Tableau → ℕ → Tableau
settled_at t v = settled_by (seat_at t v).basic t v

unfoldable pub turned_at : Tableau → ℕ → Bool → Bool → Tableau
turned_at t v upper on = settled_at (furnished t t.values t.smalls (flagged_at upper t.limits v on)) v

-- a variable that has a seat, and a column place where it is not basic
pub record Settleable (t : Tableau) (v : ℕ) : Type 0 where
  pub has-seat : v < most_variables
  pub in-columns : (seat_at t v).basic ≡ false → column_of t v < most_columns

-- ---- what is refused

-- no such limit, on already, off already
unfoldable pub limit_tests : Given → Bool → List (Bool × ℕ)
limit_tests g on = (not g.given, 42) ∷ (on && g.on, 43) ∷ (not on && not g.on, 44) ∷ []

abbrev pub limit_refusal : Given → Bool → ℕ
limit_refusal g on = first (limit_tests g on)

-- .. and before these, no such variable
unfoldable pub refusal_at : Tableau → ℕ → Bool → Bool → ℕ
refusal_at t v upper on = first ((not (ltb v (many_of t)), 41) ∷ limit_tests (given_at upper t.limits v) on)
