-- The search does not read which variable is at which place: with other lists of variables it finds the same.
--   seated_as, next-as, searchable-as
use mathlib.Core.List.{List}
use mathlib.Core.Option.{Option, none, some}
use mathlib.Core.Path.{◌≡◌, refl}
use Prim.Native.Nat.{ℕ}
use lib.IntN.{ℤ}
use Rattle.rules.specs.Step.{Leaving}
use Rattle.tableau.specs.declared.Tableau.{Tableau}
use Rattle.tableau.specs.declared.Variable.{Variable}
use Rattle.tableau.specs.Parts.{row_of}
use Rattle.search.specs.Search.{Searchable, broken_laid, leaving_at, leaving_laid, enters_laid, entering_at}
use Rattle.search.specs.Search.{entering_laid, move_by, next_by, next_by_laid, next_at, next_laid}

-- a tableau with other variables at its places
abbrev seated_as : Tableau → List Variable → List Variable → Tableau
seated_as t basic nonbasic = record {
  rows = t.rows;
  columns = t.columns;
  common = t.common;
  entries = t.entries;
  basic = basic;
  nonbasic = nonbasic;
  values = t.values;
  smalls = t.smalls;
  seats = t.seats;
  limits = t.limits;
}

module _ (t : Tableau) (basic nonbasic : List Variable) where
  abbrev other : Tableau
  other = seated_as t basic nonbasic

  move-as : (r : Leaving (ℤ × ℤ)) (o : Option ℕ) → move_by other r o ≡ move_by t r o
  unfolding move_by
  move-as r none = refl
  move-as r (some w) = refl

  by_as : (o : Option (Leaving (ℤ × ℤ))) → next_by other o ≡ next_by t o
  unfolding next_by_laid entering_laid enters_laid
  by_as none = refl
  by_as (some r) = move-as r (entering_at t (row_of t r.variable) r.side)

  pub next-as : next_at other ≡ next_at t
  unfolding next_laid leaving_laid broken_laid
  next-as = by_as (leaving_at t)

  pub searchable-as : Searchable t → Searchable other
  searchable-as S = record {
    few-rows = S.few-rows;
    few-columns = S.few-columns;
    cells = record { common-within = S.cells.common-within; cell-within = S.cells.cell-within };
    values-within = S.values-within;
    smalls-within = S.smalls-within;
    smalls-plain = S.smalls-plain;
    lowers-within = S.lowers-within;
    uppers-within = S.uppers-within;
    row-seats = S.row-seats;
    column-seats = S.column-seats;
  }
