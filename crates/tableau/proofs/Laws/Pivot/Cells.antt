-- Every entry of a state whose rows hold is 0, the common number, or a cell of the tableau by place: `Kind`,
-- `entry-kind`.
use Prim.Native.Nat.{ℕ, ◌<◌}
use native.Mathlib.Decide.{ℕ_discrete}
use mathlib.Core.Path.{◌≡◌, refl}
use mathlib.Core.Option.{Option, none, some}
use lib.IntN.{ℤ, pos}
use Rattle.whole.specs.Values.{pairs}
use Rattle.rules.specs.Problem.{Problem, vars}
use Rattle.rules.specs.Tableau.{entry}
use Rattle.rules.specs.Step.{State, seat, common}
use Rattle.rules.specs.Facts.State.{Rowed}
use Rattle.tableau.specs.declared.Tableau.{Tableau}
use Rattle.tableau.specs.Parts.{basic_at, nonbasic_at, row_of, column_of}
use Rattle.tableau.specs.Stands.{Placed}

pub data Kind (P : Problem (ℤ × ℤ)) (t : Tableau) (s : State (ℤ × ℤ)) (v u : ℕ) : Type 0 where
  none-there : entry s.tableau v u ≡ pos 0 → Kind P t s v u
  own : entry s.tableau v u ≡ common s → Kind P t s v u
  cell-there : (i j : ℕ) → i < P.m → j < P.n → basic_at t i ≡ v → nonbasic_at t j ≡ u → Kind P t s v u

pub entry-kind : (P : Problem (ℤ × ℤ)) (t : Tableau) (s : State (ℤ × ℤ)) → Rowed pairs P s → Placed P t s →
    (v u : ℕ) → v < vars P → u < vars P → Kind P t s v u
entry-kind P t s S Q v u h k = by_row (seat s v) refl (seat s u) refl
  where
    by_row : (o : Option (ℤ × ℤ)) → seat s v ≡ o → (o' : Option (ℤ × ℤ)) → seat s u ≡ o' → Kind P t s v u
    by_row none e none e' = none-there (S.basic-zero v u h k e')
    by_row none e (some x) e' =
        let a = Q.has-row v h e in let b = Q.has-column u x k e' in
        cell-there (row_of t v) (column_of t u) a.in_rows b.in-columns a.holds b.holds
    by_row (some x) e o e' = same (ℕ_discrete u v)
      where
        same : Dec (u ≡ v) → Kind P t s v u
        same (yes z) = own (rw z (S.own v x h e))
        same (no n) = none-there (S.own-zero v u x h k e n)
