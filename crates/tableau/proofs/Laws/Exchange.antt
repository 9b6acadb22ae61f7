-- The variables of a row and of a column change places: what stood for a state stands for the next.
--   basic-here, -other, nonbasic-here, -other, value-here, -other    what the exchange leaves in each place
--   placed-after, sized-after                                        places and sizes afterwards
--   placed-with, sized-with                                          other numbers in the same places
use Prim.Native.Nat.{ℕ, ◌<◌}
use native.Mathlib.Omega.{arith}
use native.Mathlib.Decide.{ℕ_discrete}
use mathlib.Core.Path.{◌≡◌, refl, ap, ap₂, sym, ◌∙◌}
use mathlib.Core.Logic.{◌≢◌}
use mathlib.Core.Bool.{Bool, true, false}
use mathlib.Core.Option.{none, some}
use mathlib.Core.List.{List}
use lib.IntN.{ℤ, pos}
use lib.ListN.{length, get_or, set, length-set}
use lib.Seq.{get_or-set_same, get_or-set_other}
use Rattle.rules.specs.Problem.{Problem, vars}
use Rattle.rules.specs.Step.{State, seat}
use Rattle.rules.specs.Facts.Rule.{Swap}
use Rattle.rules.proofs.Termination.Return.{none-some}
use Rattle.layout.specs.Layout.{most_entries, row_place, column_place}
use Rattle.tableau.specs.declared.Variable.{Variable}
use Rattle.tableau.specs.declared.Seat.{Seat}
use Rattle.tableau.specs.declared.Tableau.{Tableau}
use Rattle.tableau.specs.Parts.{nowhere, basic_at, nonbasic_at, value_at, seat_at, row_of, column_of}
use Rattle.tableau.specs.Pivot.{swapped_at, with_numbers}
use Rattle.tableau.specs.Stands.{InRow, InColumn, HasRow, HasColumn, Sized, Placed}

-- ---- other numbers in the same places

module _ (P : Problem (ℤ × ℤ)) (t : Tableau) (c : ℤ) (l : List ℤ) where
  pub placed-with : (s : State (ℤ × ℤ)) → Placed P t s → Placed P (with_numbers t c l) s
  placed-with s Q = record {
    in_row = λ i h. let a = Q.in_row i h in
        record { variable-in = a.variable-in; is-basic = a.is-basic; back = a.back };
    in-column = λ j h. let a = Q.in-column j h in
        record { variable-in = a.variable-in; is-seated = a.is-seated; back = a.back };
    has-row = λ v h e. let a = Q.has-row v h e in record { flag = a.flag; in_rows = a.in_rows; holds = a.holds };
    has-column = λ v x h e. let a = Q.has-column v x h e in
        record { flag = a.flag; in-columns = a.in-columns; holds = a.holds };
  }

  pub sized-with : length l ≡ most_entries → Sized P t → Sized P (with_numbers t c l)
  sized-with e Z = record {
    rows_is = Z.rows_is;
    columns-is = Z.columns-is;
    few-rows = Z.few-rows;
    few-columns = Z.few-columns;
    entries-long = e;
    basic-long = Z.basic-long;
    nonbasic-long = Z.nonbasic-long;
    values-long = Z.values-long;
    smalls-long = Z.smalls-long;
    seats-long = Z.seats-long;
  }

-- ---- the exchange

module _ (t : Tableau) (p q : ℕ) (x : ℤ × ℤ) where
  pub value-here : q < length t.values → q < length t.smalls → value_at (swapped_at t p q x) q ≡ x
  unfolding swapped_at
  value-here h k = ap₂ (λ a b. (a, b)) (get_or-set_same t.values q x.0 (pos 0) h)
      (get_or-set_same t.smalls q x.1 (pos 0) k)

  pub value-other : (j : ℕ) → j ≢ q → value_at (swapped_at t p q x) j ≡ value_at t j
  unfolding swapped_at
  value-other j n = ap₂ (λ a b. (a, b)) (get_or-set_other t.values q j x.0 (pos 0) n)
      (get_or-set_other t.smalls q j x.1 (pos 0) n)

-- the places after the swap of row place p, which holds r, and column place q, which holds w
module _ (t : Tableau) (p q r w : ℕ) (x : ℤ × ℤ) (r-there : basic_at t p ≡ r) (w-there : nonbasic_at t q ≡ w) where
  abbrev next : Tableau
  next = swapped_at t p q x

  pub basic-here : p < length t.basic → basic_at next p ≡ w
  unfolding swapped_at
  basic-here h = ap (λ (v : Variable). v.0) (get_or-set_same t.basic p _ _ h) ∙ w-there

  pub basic-other : (i : ℕ) → i ≢ p → basic_at next i ≡ basic_at t i
  unfolding swapped_at
  basic-other i n = ap (λ (v : Variable). v.0) (get_or-set_other t.basic p i _ _ n)

  pub nonbasic-here : q < length t.nonbasic → nonbasic_at next q ≡ r
  unfolding swapped_at
  nonbasic-here h = ap (λ (v : Variable). v.0) (get_or-set_same t.nonbasic q _ _ h) ∙ r-there

  pub nonbasic-other : (j : ℕ) → j ≢ q → nonbasic_at next j ≡ nonbasic_at t j
  unfolding swapped_at
  nonbasic-other j n = ap (λ (v : Variable). v.0) (get_or-set_other t.nonbasic q j _ _ n)

  abbrev sits : Bool → Seat
  sits b = record { basic = b; row = row_place p; column = column_place q }

  seats-are : next.seats ≡ set (set t.seats w (sits true)) r (sits false)
  unfolding swapped_at
  seats-are = rw (r-there, w-there) refl

  seat-left : r < length t.seats → seat_at next r ≡ sits false
  seat-left h = ap (λ (l : List Seat). get_or l r nowhere) seats-are
      ∙ get_or-set_same (set t.seats w (sits true)) r (sits false) nowhere (rw length-set h)

  seat-entered : w < length t.seats → w ≢ r → seat_at next w ≡ sits true
  seat-entered h n = ap (λ (l : List Seat). get_or l w nowhere) seats-are
      ∙ get_or-set_other (set t.seats w (sits true)) r w (sits false) nowhere n
      ∙ get_or-set_same t.seats w (sits true) nowhere h

  seat-other : (v : ℕ) → v ≢ r → v ≢ w → seat_at next v ≡ seat_at t v
  seat-other v m n = ap (λ (l : List Seat). get_or l v nowhere) seats-are
      ∙ get_or-set_other (set t.seats w (sits true)) r v (sits false) nowhere m
      ∙ get_or-set_other t.seats w v (sits true) nowhere n

  module _ (P : Problem (ℤ × ℤ)) (s s' : State (ℤ × ℤ)) (Z : Sized P t) (Q : Placed P t s)
      (W : Swap (seat s) (seat s') r w x) (p-row : p < P.m) (q-column : q < P.n) where
    r-var : r < vars P
    r-var = rw r-there at (Q.in_row p p-row).variable-in

    w-var : w < vars P
    w-var = rw w-there at (Q.in-column q q-column).variable-in

    apart : w ≢ r
    apart e = none-some W.was-basic (rw e at W.was-seated.1)

    p-long : p < length t.basic
    p-long = rw Z.basic-long (let h = Z.few-rows in omega arith)

    q-long : q < length t.nonbasic
    q-long = rw Z.nonbasic-long (let h = Z.few-columns in omega arith)

    q-value : q < length t.values
    q-value = rw Z.values-long (let h = Z.few-columns in omega arith)

    q-small : q < length t.smalls
    q-small = rw Z.smalls-long (let h = Z.few-columns in omega arith)

    r-seat : r < length t.seats
    r-seat = rw Z.seats-long (let h = Z.few-columns in let k = Z.few-rows in let l = r-var in omega arith)

    w-seat : w < length t.seats
    w-seat = rw Z.seats-long (let h = Z.few-columns in let k = Z.few-rows in let l = w-var in omega arith)

    -- r is in no other row, w in no other column
    r-alone : (i : ℕ) → i < P.m → i ≢ p → basic_at t i ≢ r
    r-alone i h n e = n (sym (Q.in_row i h).back ∙ ap (row_of t) (e ∙ sym r-there) ∙ (Q.in_row p p-row).back)

    w-alone : (j : ℕ) → j < P.n → j ≢ q → nonbasic_at t j ≢ w
    w-alone j h n e = n (sym (Q.in-column j h).back ∙ ap (column_of t) (e ∙ sym w-there)
        ∙ (Q.in-column q q-column).back)

    rows-after : (i : ℕ) → i < P.m → Dec (i ≡ p) → InRow P next s' i
    rows-after i h (yes e) =
        let b : basic_at next i ≡ w = rw e (basic-here p-long) in
        record {
          variable-in = rw b w-var;
          is-basic = rw b W.now-basic;
          back = rw b (ap (λ (a : Seat). a.row.0) (seat-entered w-seat apart) ∙ sym e);
        }
    rows-after i h (no n) =
        let b : basic_at next i ≡ basic_at t i = basic-other i n in
        let m : basic_at t i ≢ r = r-alone i h n in
        let k : basic_at t i ≢ w = λ e. none-some (Q.in_row i h).is-basic (rw (sym e) at W.was-seated.1) in
        record {
          variable-in = rw b (Q.in_row i h).variable-in;
          is-basic = rw b (W.others (basic_at t i) m k ∙ (Q.in_row i h).is-basic);
          back = rw b (ap (λ (a : Seat). a.row.0) (seat-other (basic_at t i) m k) ∙ (Q.in_row i h).back);
        }

    columns-after : (j : ℕ) → j < P.n → Dec (j ≡ q) → InColumn P next s' j
    columns-after j h (yes e) =
        let b : nonbasic_at next j ≡ r = rw e (nonbasic-here q-long) in
        record {
          variable-in = rw b r-var;
          is-seated = rw b (W.set_to ∙ ap some (sym (rw e (value-here t p q x q-value q-small))));
          back = rw b (ap (λ (a : Seat). a.column.0) (seat-left r-seat) ∙ sym e);
        }
    columns-after j h (no n) =
        let b : nonbasic_at next j ≡ nonbasic_at t j = nonbasic-other j n in
        let m : nonbasic_at t j ≢ w = w-alone j h n in
        let k : nonbasic_at t j ≢ r = λ e. none-some (rw (sym e) at W.was-basic) (Q.in-column j h).is-seated in
        record {
          variable-in = rw b (Q.in-column j h).variable-in;
          is-seated = rw b (W.others (nonbasic_at t j) k m ∙ (Q.in-column j h).is-seated
              ∙ ap some (sym (value-other t p q x j n)));
          back = rw b (ap (λ (a : Seat). a.column.0) (seat-other (nonbasic_at t j) k m) ∙ (Q.in-column j h).back);
        }

    has-row-after : (v : ℕ) → v < vars P → seat s' v ≡ none → Dec (v ≡ r) → Dec (v ≡ w) → HasRow P next v
    has-row-after v h e (yes z) d = absurd (none-some (rw z at e) W.set_to)
    has-row-after v h e (no n) (yes z) =
        let a : seat_at next v ≡ sits true = rw z (seat-entered w-seat apart) in
        let b : row_of next v ≡ p = ap (λ (a : Seat). a.row.0) a in
        record { flag = rw a refl; in_rows = rw b p-row; holds = rw b (basic-here p-long ∙ sym z) }
    has-row-after v h e (no n) (no m) =
        let a : seat_at next v ≡ seat_at t v = seat-other v n m in
        let b : row_of next v ≡ row_of t v = ap (λ (a : Seat). a.row.0) a in
        let o : HasRow P t v = Q.has-row v h (sym (W.others v n m) ∙ e) in
        record {
          flag = rw a o.flag;
          in_rows = rw b o.in_rows;
          holds = rw b (basic-other (row_of t v) (λ y. n (sym o.holds ∙ ap (basic_at t) y ∙ r-there)) ∙ o.holds);
        }

    has-column-after : (v : ℕ) (y : ℤ × ℤ) → v < vars P → seat s' v ≡ some y →
        Dec (v ≡ r) → Dec (v ≡ w) → HasColumn P next v
    has-column-after v y h e (yes z) d =
        let a : seat_at next v ≡ sits false = rw z (seat-left r-seat) in
        let b : column_of next v ≡ q = ap (λ (a : Seat). a.column.0) a in
        record { flag = rw a refl; in-columns = rw b q-column; holds = rw b (nonbasic-here q-long ∙ sym z) }
    has-column-after v y h e (no n) (yes z) = absurd (none-some W.now-basic (rw z at e))
    has-column-after v y h e (no n) (no m) =
        let a : seat_at next v ≡ seat_at t v = seat-other v n m in
        let b : column_of next v ≡ column_of t v = ap (λ (a : Seat). a.column.0) a in
        let o : HasColumn P t v = Q.has-column v y h (sym (W.others v n m) ∙ e) in
        record {
          flag = rw a o.flag;
          in-columns = rw b o.in-columns;
          holds = rw b (nonbasic-other (column_of t v) (λ z. m (sym o.holds ∙ ap (nonbasic_at t) z ∙ w-there))
              ∙ o.holds);
        }

    pub placed-after : Placed P next s'
    placed-after = record {
      in_row = λ i h. rows-after i h (ℕ_discrete i p);
      in-column = λ j h. columns-after j h (ℕ_discrete j q);
      has-row = λ v h e. has-row-after v h e (ℕ_discrete v r) (ℕ_discrete v w);
      has-column = λ v y h e. has-column-after v y h e (ℕ_discrete v r) (ℕ_discrete v w);
    }

    pub sized-after : Sized P next
    unfolding swapped_at
    sized-after = record {
      rows_is = Z.rows_is;
      columns-is = Z.columns-is;
      few-rows = Z.few-rows;
      few-columns = Z.few-columns;
      entries-long = Z.entries-long;
      basic-long = simp length-set Z.basic-long;
      nonbasic-long = simp length-set Z.nonbasic-long;
      values-long = simp length-set Z.values-long;
      smalls-long = simp length-set Z.smalls-long;
      seats-long = simp length-set Z.seats-long;
    }
