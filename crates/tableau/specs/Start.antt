-- The tableau by place at the start of a run: docs/RULES.md, "The run". Problem variable j sits in column place j, row
-- i's variable in row place i.
use Rattle.std.specs.Prelude.{ℕ, ◌+◌, ◌-◌, Bool, true, false, not, ◌||◌, List, ltb, ℤ, pos}
use Rattle.std.proofs.Math.Option.{Option, none, some}
use Rattle.whole.specs.Tables.{table, filled}
use Rattle.whole.specs.Below.{some_below}
use Rattle.whole.specs.Values.{pairs}
use Rattle.rules.specs.Sizes.{most_columns, most_rows, most_variables}
use Rattle.rules.specs.Limit.{Limit}
use Rattle.rules.specs.Problem.{Problem, inner, vars}
use Rattle.rules.specs.Step.{start_value}
use Rattle.layout.specs.Layout.{Order, in_use, most_entries, row_laid, column_laid, row_at, column_at, live, row_place}
use Rattle.layout.specs.Layout.{column_place}
use Rattle.amounts.specs.declared.Given.{Given}
use Rattle.amounts.specs.Amounts.{absent}
use Rattle.tableau.specs.declared.Variable.{Variable}
use Rattle.tableau.specs.declared.Seat.{Seat}
use Rattle.tableau.specs.declared.Limits.{Limits}
use Rattle.tableau.specs.declared.Tableau.{Tableau}
use Rattle.tableau.specs.declared.read.Starts.{Starts}
use Rattle.tableau.specs.Parts.{variable, nowhere, lowest_of, highest_of}

abbrev start_entries_laid : {X : Type 0} → Order → Problem X → List ℤ
start_entries_laid o P = filled most_entries (pos 0) (live P.m P.n)
    (λ k. P.coefficient (row_laid o P.m P.n k) (column_laid o P.m P.n k))

abbrev pub start_entries : {X : Type 0} → Problem X → List ℤ
start_entries = start_entries_laid in_use

-- .. the first k cells alone, for m rows and n columns; the others are 0
abbrev pub start_up_to : {X : Type 0} → Problem X → ℕ → ℕ → ℕ → List ℤ
start_up_to P m n k = filled most_entries (pos 0) k (λ k. P.coefficient (row_at m n k) (column_at m n k))

-- ---- places, for n columns in use

abbrev pub start_basic : ℕ → List Variable
start_basic n = table most_rows (λ i. variable (n + i))

abbrev pub start_nonbasic : List Variable
start_nonbasic = table most_columns variable

abbrev pub seat_for : ℕ → ℕ → Seat
seat_for n v = record { basic = not (ltb v n); row = row_place (v - n); column = column_place v }

-- .. of the first k variables; the others sit nowhere
abbrev pub start_seats : ℕ → ℕ → List Seat
start_seats n k = filled most_variables nowhere k (seat_for n)

-- ---- limits and values

-- a limit as the code holds it: on
abbrev pub given_of : Option Limit → Given
given_of none = absent
given_of (some l) = record { given = true; on = true; strict = l.strict; plain = l.plain }

abbrev pub is_strict : Option Limit → Bool
is_strict none = false
is_strict (some l) = l.strict

-- whether one of a variable's limits is strict
abbrev pub strict_at : Problem Limit → ℕ → Bool
strict_at P v = is_strict (P.lower v) || is_strict (P.upper v)

unfoldable pub limits_for : Problem Limit → Limits
limits_for P = record {
  lower = filled most_variables absent (vars P) (λ v. given_of (P.lower v));
  upper = filled most_variables absent (vars P) (λ v. given_of (P.upper v));
  strict = some_below (vars P) (strict_at P);
}

-- the value of problem variable j
abbrev pub start_of : Problem Limit → ℕ → ℤ × ℤ
start_of P j = start_value pairs ((inner P).lower j) ((inner P).upper j)

abbrev pub start_values : Problem Limit → List ℤ
start_values P = filled most_columns (pos 0) P.n (λ j. (start_of P j).0)

abbrev pub start_smalls : Problem Limit → List ℤ
start_smalls P = filled most_columns (pos 0) P.n (λ j. (start_of P j).1)

-- the same from limits at hand
abbrev pub start_from : Limits → ℕ → ℤ × ℤ
start_from l j = start_value pairs (lowest_of l j) (highest_of l j)

abbrev pub starts_for : Limits → ℕ → Starts
starts_for l n = record {
  values = filled most_columns (pos 0) n (λ j. (start_from l j).0);
  smalls = filled most_columns (pos 0) n (λ j. (start_from l j).1);
}

-- ---- the whole

unfoldable pub start_laid : Order → Problem Limit → Tableau
start_laid o P = record {
  rows = P.m;
  columns = P.n;
  common = pos 1;
  entries = start_entries_laid o P;
  basic = start_basic P.n;
  nonbasic = start_nonbasic;
  values = start_values P;
  smalls = start_smalls P;
  seats = start_seats P.n (vars P);
  limits = limits_for P;
}

abbrev pub start_tableau : Problem Limit → Tableau
start_tableau = start_laid in_use
