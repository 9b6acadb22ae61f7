-- The live places of a tableau that is sized.
--   end                        from there on no cell is in use
--   live-place, place-back     the place of a row and a column in use is live; both, back from it
use mathlib.Core.Path.{◌≡◌}
use Prim.Native.Nat.{ℕ, ◌<◌}
use lib.IntN.{ℤ}
use Rattle.rules.specs.Problem.{Problem}
use Rattle.layout.specs.Layout.{flat, row_at, column_at, live}
use Rattle.layout.proofs.Laws.Layout.{flat-live, row-flat, column-flat}
use Rattle.tableau.specs.declared.Tableau.{Tableau}
use Rattle.tableau.specs.Stands.{Sized}

abbrev pub end : Tableau → ℕ
end t = live t.rows t.columns

module _ {P : Problem (ℤ × ℤ)} {t : Tableau} (Z : Sized P t) where
  pub live-place : (i j : ℕ) → i < P.m → j < P.n → flat t.rows t.columns i j < end t
  live-place i j h k = rw (Z.rows_is, Z.columns-is) (flat-live P.m P.n i j h k)

  pub place-back : (i j : ℕ) → i < P.m → j < P.n →
      (row_at t.rows t.columns (flat t.rows t.columns i j) ≡ i)
      × (column_at t.rows t.columns (flat t.rows t.columns i j) ≡ j)
  place-back i j h k =
      let a : i < t.rows = rw Z.rows_is h in let b : j < t.columns = rw Z.columns-is k in
      (row-flat t.rows t.columns i j a b, column-flat t.rows t.columns i j a b)
