-- The tableau by place at the start of a run stands for the start of the rules.
--   stands-start    sizes, places, numbers and limits
use mathlib.Core.Bool.{cond, not}
use mathlib.Core.Option.{none, some}
use mathlib.Core.Path.{ap, ap₂, refl, sym, ◌∙◌, ◌≡◌}
use Prim.Native.Nat.{ℕ, ◌+◌, ◌-◌, ◌<◌, ◌≤◌}
use native.Mathlib.Omega.{arith}
use borrow.Author.Tests.{le-ltb, lt-ltb}
use lib.IntN.{pos, ℤ}
use Rattle.whole.proofs.Lists.Tables.{filled_in, filled-length, filled-out, table_at, table-length}
use Rattle.whole.specs.Values.{pairs}
use Rattle.rules.proofs.Run.Start.{at-start, basic-row, common-one, seat-start, seated-problem}
use Rattle.rules.specs.Limit.{Limit}
use Rattle.rules.specs.Problem.{Problem, inner, vars}
use Rattle.rules.specs.Sizes.{most_columns, most_rows, most_variables}
use Rattle.rules.specs.Step.{same, seat, start, start_entry, start_seat}
use Rattle.rules.specs.Tableau.{entry}
use Rattle.layout.specs.Layout.{live, most_entries}
use Rattle.layout.proofs.Laws.Layout.{live-most}
use Rattle.tableau.proofs.Laws.Fits.{Fitting, coefficient-start, serves-start}
use Rattle.tableau.specs.Parts.{basic_at, cell, cell_at, column_of, nonbasic_at, nowhere}
use Rattle.tableau.specs.Parts.{row_of, seat_at, value_at, variable}
use Rattle.tableau.specs.Stands.{HasColumn, HasRow, InColumn, InRow, Stands}
use Rattle.tableau.specs.Start.{seat_for, start_laid, start_of, start_tableau}
use Rattle.tableau.specs.declared.Seat.{Seat}
use Rattle.tableau.specs.declared.Tableau.{Tableau}
use Rattle.tableau.specs.declared.Variable.{Variable}

module _ (P : Problem Limit) (F : Fitting P) where
  abbrev I : Problem (ℤ × ℤ)
  I = inner P

  abbrev t : Tableau
  t = start_tableau P

  -- ---- places

  basic-is : (i : ℕ) → i < most_rows → basic_at t i ≡ P.n + i
  unfolding start_laid
  basic-is i h = ap (λ (v : Variable). v.0) (table_at most_rows (λ i. variable (P.n + i)) (variable 0) i h)

  nonbasic-is : (j : ℕ) → j < most_columns → nonbasic_at t j ≡ j
  unfolding start_laid
  nonbasic-is j h = ap (λ (v : Variable). v.0) (table_at most_columns variable (variable 0) j h)

  value-is : (j : ℕ) → j < P.n → value_at t j ≡ start_of P j
  unfolding start_laid
  value-is j h = ap₂ (λ a b. (a, b)) (filled_in most_columns (pos 0) P.n (λ j. (start_of P j).0) j h)
      (filled_in most_columns (pos 0) P.n (λ j. (start_of P j).1) j h)

  seat-is : (v : ℕ) → v < vars P → seat_at t v ≡ seat_for P.n v
  unfolding start_laid
  seat-is v h = filled_in most_variables nowhere (vars P) (seat_for P.n) v h

  seat-basic : (v : ℕ) → P.n ≤ v → start_seat pairs I v ≡ none
  unfolding start_seat
  seat-basic v h = ap (λ b. cond b (some (start_of P v)) none) (le-ltb v P.n h)

  seat-nonbasic : (v : ℕ) → v < P.n → start_seat pairs I v ≡ some (start_of P v)
  unfolding start_seat
  seat-nonbasic v h = ap (λ b. cond b (some (start_of P v)) none) (lt-ltb v P.n h)

  take-off : (i : ℕ) → P.n + i - P.n ≡ i
  take-off i = omega arith

  rows_start : (i : ℕ) → i < P.m → InRow I t (start pairs I) i
  rows_start i h = let q = F.few-rows in let p = F.few-columns in
      let b : basic_at t i ≡ P.n + i = basic-is i (omega arith) in
      record {
        variable-in = rw b (omega arith);
        is-basic = rw b (seat-start pairs I (P.n + i) (omega arith) ∙ seat-basic (P.n + i) (omega arith));
        back = rw b (ap (λ (s : Seat). s.row.0) (seat-is (P.n + i) (omega arith)) ∙ take-off i);
      }

  columns-start : (j : ℕ) → j < P.n → InColumn I t (start pairs I) j
  columns-start j h = let p = F.few-columns in
      let b : nonbasic_at t j ≡ j = nonbasic-is j (omega arith) in
      record {
        variable-in = rw b (omega arith);
        is-seated = ap (seat (start pairs I)) b ∙ seat-start pairs I j (omega arith) ∙ seat-nonbasic j h
            ∙ ap some (sym (value-is j h));
        back = ap (column_of t) b ∙ ap (λ (s : Seat). s.column.0) (seat-is j (omega arith));
      }

  has-row-start : (v : ℕ) → v < vars P → seat (start pairs I) v ≡ none → HasRow I t v
  has-row-start v h e = let q = F.few-rows in let p = F.few-columns in
      let k : P.n ≤ v = basic-row pairs I v (sym (seat-start pairs I v h) ∙ e) in
      let a : seat_at t v ≡ seat_for P.n v = seat-is v (omega arith) in
      let b : row_of t v ≡ v - P.n = ap (λ (s : Seat). s.row.0) a in
      record {
        flag = ap (λ (s : Seat). s.basic) a ∙ ap not (le-ltb v P.n k);
        in_rows = rw b (omega arith);
        holds = ap (basic_at t) b ∙ basic-is (v - P.n) (omega arith)
            ∙ (let z : P.n + (v - P.n) ≡ v = omega arith in z);
      }

  has-column-start : (v : ℕ) (x : ℤ × ℤ) → v < vars P → seat (start pairs I) v ≡ some x → HasColumn I t v
  has-column-start v x h e = let q = F.few-rows in let p = F.few-columns in
      let k : v < P.n = (seated-problem pairs I v x (sym (seat-start pairs I v h) ∙ e)).0 in
      let a : seat_at t v ≡ seat_for P.n v = seat-is v (omega arith) in
      let b : column_of t v ≡ v = ap (λ (s : Seat). s.column.0) a in
      record {
        flag = ap (λ (s : Seat). s.basic) a ∙ ap not (lt-ltb v P.n k);
        in-columns = rw b k;
        holds = ap (nonbasic_at t) b ∙ nonbasic-is v (omega arith);
      }

  -- ---- entries

  entry-start : (i j : ℕ) → i < P.m → j < P.n → entry (start pairs I).tableau (P.n + i) j ≡ P.coefficient i j
  unfolding start_entry
  entry-start i j h k = at-start pairs I (P.n + i) j (omega arith) (omega arith)
      ∙ ap₂ (λ a b. cond a (same (P.n + i) j) (cond b (P.coefficient (P.n + i - P.n) j) (pos 0)))
      (le-ltb (P.n + i) P.n (omega arith)) (lt-ltb j P.n k)
      ∙ ap (λ r. P.coefficient r j) (take-off i)

  cell-is-start : (i j : ℕ) → i < P.m → j < P.n →
      cell_at t i j ≡ entry (start pairs I).tableau (basic_at t i) (nonbasic_at t j)
  cell-is-start i j h k = let q = F.few-rows in let p = F.few-columns in
      coefficient-start P F i j h k ∙ sym (entry-start i j h k)
      ∙ sym (ap₂ (entry (start pairs I).tableau) (basic-is i (omega arith)) (nonbasic-is j (omega arith)))

  unused-start : (k : ℕ) → live P.m P.n ≤ k → cell t k ≡ pos 0
  unfolding start_laid
  unused-start k h = filled-out most_entries (pos 0) (live P.m P.n) _ k h

  -- ---- the whole

  pub stands-start : Stands I t (start pairs I)
  unfolding start_laid
  stands-start = record {
    sized = record {
      rows_is = refl;
      columns-is = refl;
      few-rows = F.few-rows;
      few-columns = F.few-columns;
      entries-long = filled-length most_entries (pos 0) (live P.m P.n) _
          (live-most P.m P.n F.few-rows F.few-columns);
      basic-long = table-length most_rows (λ i. variable (P.n + i));
      nonbasic-long = table-length most_columns variable;
      values-long = filled-length most_columns (pos 0) P.n _ F.few-columns;
      smalls-long = filled-length most_columns (pos 0) P.n _ F.few-columns;
      seats-long = filled-length most_variables nowhere (vars P) (seat_for P.n) (omega arith);
    };
    placed = record {
      in_row = rows_start;
      in-column = columns-start;
      has-row = has-row-start;
      has-column = has-column-start;
    };
    numbers = record { common-is = sym (common-one pairs I); cell-is = cell-is-start; unused = unused-start };
    serves = serves-start P F;
  }
