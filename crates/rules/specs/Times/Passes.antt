-- docs/RULES.md, "Time rows", last paragraph: the distances, computed. In a pass each row is looked at once, in order;
-- a row that leads to a shorter walk betters the distance of its head. After as many passes as there are vertices the
-- distances are the shortest ones, if no row betters them.
use Rattle.std.specs.Prelude.{Bool, cond, not, List, ℕ, zero, suc, get_or, set, replicate}
use Rattle.whole.specs.Below.{all_below, fold_below}
use Rattle.whole.specs.Values.{Values}
use Rattle.rules.specs.Times.Walks.{Edges}

module _ {X : Type 0} (𝓥 : Values X) (E : Edges X) where
  -- the distance of v in a list; past its end it is that of no rows
  abbrev pub distance : List X → ℕ → X
  distance ds v = get_or ds v 𝓥.nil

  -- the length of row i, taken after a walk to its tail
  abbrev pub through : (ℕ → X) → ℕ → X
  through D i = 𝓥.plus (D (E.tail i)) (E.size i)

  abbrev pub betters : (ℕ → X) → ℕ → Bool
  betters D i = 𝓥.less (through D i) (D (E.head i))

  unfoldable pub look : ℕ → List X → List X
  look i ds = cond (betters (distance ds) i) (set ds (E.head i) (through (distance ds) i)) ds

  -- the rows below i, one after the other
  abbrev pub looks : ℕ → List X → List X
  looks i ds = fold_below i look ds

  unfoldable pub passes : ℕ → List X
  passes zero = replicate E.vertices 𝓥.nil
  passes (suc k) = looks E.count (passes k)

  -- no row betters the distances
  unfoldable pub settled : List X → Bool
  settled ds = all_below E.count (λ i. not (betters (distance ds) i))

  unfoldable pub distances : List X
  distances = passes E.vertices

  -- word 0 of the answer is 1
  unfoldable pub can_meet : Bool
  can_meet = settled distances
