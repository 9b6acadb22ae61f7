-- A pivot that the rules choose, by place: where the leaving and the entering variable sit, and who sits where then.
--   Turn                                     a tableau, the state it stands for, and what leaves and enters there
--   p, q, x                                  the row and the column of the pivot, and the value that leaves
--   at_turn, after_turn                             the tableau by place after the pivot, and after the exchange
--   leaving-row, entering-column, pivot-is   the places of the pivot, and its entry
--   turn-nonzero, common-nonzero            neither is 0
--   placed-next, sized-next                  the places afterwards
--   basic-left, basic-stays, nonbasic-entered, nonbasic-stays    each place afterwards
use Prim.Native.Nat.{ℕ, ◌<◌, ◌≤◌}
use native.Mathlib.Nat.{lt_of_lt_of_le}
use mathlib.Core.Path.{◌≡◌, sym, ap₂, ◌∙◌}
use mathlib.Core.Logic.{◌≢◌}
use lib.IntN.{ℤ, pos}
use lib.Signed.{<ℤ_irrefl}
use Rattle.whole.specs.Values.{pairs}
use Rattle.whole.proofs.Lists.Tables.{filled-length}
use Rattle.whole.proofs.Numbers.Order.{nonzero-ne}
use Rattle.rules.specs.Problem.{Problem}
use Rattle.rules.specs.Sizes.{most_rows, most_columns}
use Rattle.rules.specs.Tableau.{entry}
use Rattle.rules.specs.Step.{State, Leaving, seat, moved, limit_at}
use Rattle.rules.specs.Facts.Rule.{Entered, Left, Swap}
use Rattle.rules.proofs.Step.Entering.{swap}
use Rattle.rules.proofs.Tableau.Pivot as pivoted
use Rattle.rules.specs.Facts.State.{Rowed}
use Rattle.layout.specs.Layout.{live, most_entries}
use Rattle.layout.proofs.Laws.Layout.{live-most}
use Rattle.tableau.specs.declared.Tableau.{Tableau}
use Rattle.tableau.specs.Parts.{cell_at, basic_at, nonbasic_at, row_of, column_of}
use Rattle.tableau.specs.Pivot.{pivoted_at, pivoted_laid, swapped_at}
use Rattle.tableau.specs.Stands.{HasRow, HasColumn, Sized, Placed, Stands}
use Rattle.tableau.proofs.Laws.Exchange.{basic-here, basic-other, nonbasic-here, nonbasic-other, placed-after}
use Rattle.tableau.proofs.Laws.Exchange.{sized-after, placed-with, sized-with}

-- t stands for s, whose rows hold; r leaves there and w enters
pub record Turn (P : Problem (ℤ × ℤ)) (t : Tableau) (s : State (ℤ × ℤ)) (r : Leaving (ℤ × ℤ)) (w : ℕ) : Type 0 where
  pub stands : Stands P t s
  pub rowed : Rowed pairs P s
  pub left : Left pairs P s r
  pub entered : Entered pairs P s r w

module _ {P : Problem (ℤ × ℤ)} {t : Tableau} {s : State (ℤ × ℤ)} {r : Leaving (ℤ × ℤ)} {w : ℕ}
    (M : Turn P t s r w) where
  -- the places of the leaving and the entering variable, and the limit that the leaving one violates
  abbrev pub p : ℕ
  p = row_of t r.variable

  abbrev pub q : ℕ
  q = column_of t w

  abbrev pub x : ℤ × ℤ
  x = limit_at pairs P r

  -- after the pivot the two variables change places, and the leaving one gets that limit
  abbrev pub at_turn : Tableau
  at_turn = pivoted_at t p q

  abbrev pub after_turn : Tableau
  after_turn = swapped_at at_turn p q x

  pub leaving-row : HasRow P t r.variable
  leaving-row = M.stands.placed.has-row r.variable M.left.variable M.left.was-basic

  pub entering-column : HasColumn P t w
  entering-column = M.stands.placed.has-column w M.entered.value M.entered.variable M.entered.was-seated

  pub row-in-range : p < most_rows
  row-in-range = lt_of_lt_of_le leaving-row.in_rows M.stands.sized.few-rows

  pub column-in-range : q < most_columns
  column-in-range = lt_of_lt_of_le entering-column.in-columns M.stands.sized.few-columns

  pub pivot-is : cell_at t p q ≡ entry s.tableau r.variable w
  pivot-is = M.stands.numbers.cell-is p q leaving-row.in_rows entering-column.in-columns
      ∙ ap₂ (entry s.tableau) leaving-row.holds entering-column.holds

  pub turn-nonzero : cell_at t p q ≢ pos 0
  turn-nonzero e = nonzero-ne (entry s.tableau r.variable w)
      (pivoted.pivot-nonzero pairs P r.side w (entry s.tableau r.variable w) M.entered.value
      M.entered.suits) (sym pivot-is ∙ e)

  pub common-nonzero : t.common ≢ pos 0
  common-nonzero e = <ℤ_irrefl (rw (sym M.stands.numbers.common-is ∙ e) at M.rowed.positive)

  -- ---- the places after the pivot, and after the exchange

  placed-turned : Placed P at_turn s
  unfolding pivoted_laid
  placed-turned = placed-with P t _ _ s M.stands.placed

  sized-turned : Sized P at_turn
  unfolding pivoted_laid
  sized-turned = let Z = M.stands.sized in
      let m : t.rows ≤ most_rows = rw Z.rows_is Z.few-rows in
      let n : t.columns ≤ most_columns = rw Z.columns-is Z.few-columns in
      sized-with P t _ _ (filled-length most_entries (pos 0) (live t.rows t.columns) _
      (live-most t.rows t.columns m n)) Z

  r-there : basic_at at_turn p ≡ r.variable
  unfolding pivoted_laid
  r-there = leaving-row.holds

  w-there : nonbasic_at at_turn q ≡ w
  unfolding pivoted_laid
  w-there = entering-column.holds

  exchange : Swap (seat s) (seat (moved pairs P s r w)) r.variable w x
  exchange = swap pairs P s r w M.rowed.seats-many M.left M.entered

  pub placed-next : Placed P after_turn (moved pairs P s r w)
  placed-next = placed-after at_turn p q r.variable w x r-there w-there P s (moved pairs P s r w)
      sized-turned placed-turned exchange leaving-row.in_rows entering-column.in-columns

  pub sized-next : Sized P after_turn
  sized-next = sized-after at_turn p q r.variable w x r-there w-there P s (moved pairs P s r w)
      sized-turned placed-turned exchange leaving-row.in_rows entering-column.in-columns

  pub basic-left : basic_at after_turn p ≡ w
  basic-left = basic-here at_turn p q r.variable w x r-there w-there (rw sized-turned.basic-long row-in-range)

  pub basic-stays : (i : ℕ) → i ≢ p → basic_at after_turn i ≡ basic_at t i
  unfolding pivoted_laid
  basic-stays i n = basic-other at_turn p q r.variable w x r-there w-there i n

  pub nonbasic-entered : nonbasic_at after_turn q ≡ r.variable
  nonbasic-entered = nonbasic-here at_turn p q r.variable w x r-there w-there
      (rw sized-turned.nonbasic-long column-in-range)

  pub nonbasic-stays : (j : ℕ) → j ≢ q → nonbasic_at after_turn j ≡ nonbasic_at t j
  unfolding pivoted_laid
  nonbasic-stays j n = nonbasic-other at_turn p q r.variable w x r-there w-there j n
