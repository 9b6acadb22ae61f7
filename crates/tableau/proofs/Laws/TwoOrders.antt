-- Both orders of the entries stand for the same tableau at the start: `same_start`.
use mathlib.Core.Path.{refl, sym, ◌∙◌}
use Rattle.rules.specs.Limit.{Limit}
use Rattle.rules.specs.Problem.{Problem}
use Rattle.layout.specs.Layout.{Order}
use Rattle.pivot.proofs.Laws.TwoOrders.{cell-filled}
use Rattle.tableau.specs.Start.{start_laid}
use Rattle.tableau.specs.TwoOrders.{SameTableau}

pub same_start : (o u : Order) (P : Problem Limit) → SameTableau o u (start_laid o P) (start_laid u P)
unfolding start_laid
same_start o u P = record {
  same_rest = refl;
  same-cells = record {
    same-cell = λ i j h k. cell-filled o P.m P.n P.coefficient i j h k
        ∙ sym (cell-filled u P.m P.n P.coefficient i j h k);
  };
}
