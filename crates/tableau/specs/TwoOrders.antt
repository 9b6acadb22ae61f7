-- The same tableau in two orders of its entries, which may be by rows and by columns.
use Rattle.std.specs.Prelude.{◌≡◌}
use Rattle.layout.specs.Layout.{Order}
use Rattle.pivot.specs.TwoOrders.{SameCells}
use Rattle.tableau.specs.declared.Tableau.{Tableau}
use Rattle.tableau.specs.Pivot.{with_numbers}

-- two tableaux are the same but for the order of their entries
pub record SameTableau (o u : Order) (t s : Tableau) : Type 0 where
  pub same_rest : s ≡ with_numbers t t.common s.entries
  pub same-cells : SameCells o u t.rows t.columns t.entries s.entries
