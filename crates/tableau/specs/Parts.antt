-- The parts of the struct by place and by variable.
use Rattle.std.specs.Prelude.{ℕ, false, ℤ, pos, get_or}
use Rattle.std.proofs.Math.Option.{Option}
use Rattle.rules.specs.Limit.{Limit, lower_pair, upper_pair}
use Rattle.rules.specs.Problem.{mapped}
use Rattle.layout.specs.Layout.{Order, in_use, row_place, column_place, entry_laid}
use Rattle.amounts.specs.declared.Given.{Given}
use Rattle.amounts.specs.Amounts.{absent, limit_in}
use Rattle.tableau.specs.declared.Variable.{Variable}
use Rattle.tableau.specs.declared.Seat.{Seat}
use Rattle.tableau.specs.declared.Limits.{Limits}
use Rattle.tableau.specs.declared.Tableau.{Tableau}

abbrev pub variable : ℕ → Variable
variable v = record { 0 = v }

abbrev pub nowhere : Seat
nowhere = record { basic = false; row = row_place 0; column = column_place 0 }

-- the number at a row place and a column place of a tableau
abbrev pub cell_laid : Order → Tableau → ℕ → ℕ → ℤ
cell_laid o t i j = entry_laid o t.rows t.columns t.entries i j

-- .. in the order in use, and the number at flat place k
abbrev pub cell_at : Tableau → ℕ → ℕ → ℤ
cell_at = cell_laid in_use

abbrev pub cell : Tableau → ℕ → ℤ
cell t k = get_or t.entries k (pos 0)

-- the variable in a row place and in a column place, and the value there: its plain part and its small part
abbrev pub basic_at : Tableau → ℕ → ℕ
basic_at t i = (get_or t.basic i (variable 0)).0

abbrev pub nonbasic_at : Tableau → ℕ → ℕ
nonbasic_at t j = (get_or t.nonbasic j (variable 0)).0

abbrev pub plain_at : Tableau → ℕ → ℤ
plain_at t j = get_or t.values j (pos 0)

abbrev pub small_at : Tableau → ℕ → ℤ
small_at t j = get_or t.smalls j (pos 0)

abbrev pub value_at : Tableau → ℕ → ℤ × ℤ
value_at t j = (plain_at t j, small_at t j)

-- the seat of a variable
abbrev pub seat_at : Tableau → ℕ → Seat
seat_at t v = get_or t.seats v nowhere

abbrev pub row_of : Tableau → ℕ → ℕ
row_of t v = (seat_at t v).row.0

abbrev pub column_of : Tableau → ℕ → ℕ
column_of t v = (seat_at t v).column.0

-- the limits of a variable, which may be missing
abbrev pub lower_given : Limits → ℕ → Given
lower_given l v = get_or l.lower v absent

abbrev pub upper_given : Limits → ℕ → Given
upper_given l v = get_or l.upper v absent

abbrev pub lower_of : Limits → ℕ → Option Limit
lower_of l v = limit_in (lower_given l v)

abbrev pub upper_of : Limits → ℕ → Option Limit
upper_of l v = limit_in (upper_given l v)

-- .. and the pairs that they stand for in the run
abbrev pub lowest_of : Limits → ℕ → Option (ℤ × ℤ)
lowest_of l v = mapped lower_pair (lower_of l v)

abbrev pub highest_of : Limits → ℕ → Option (ℤ × ℤ)
highest_of l v = mapped upper_pair (upper_of l v)
