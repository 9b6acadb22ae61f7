-- Distances that no row betters.
--   Still                           that, of distances
--   settled-still, still-settled    the test, and back
--   still_walk, still-least         along a walk; from the added vertex
--   still-shortest, shortest-only   lengths of walks that no row betters are the shortest distances; these are unique
--   still_back                      and so is what a shortest walk has before its last row
--   still_open, bad-closes          they exclude a walk that closes below 0; a bad cycle is such a walk
--   bad-no-still                    and so they exclude a bad cycle
use mathlib.Core.Path.{◌≡◌, refl, sym, ◌∙◌, ap, subst}
use mathlib.Core.Bool.{true, not}
use mathlib.Core.List.{List}
use Prim.Native.Nat.{ℕ, zero, suc, ◌-◌, ◌<◌}
use native.Mathlib.Omega.{arith}
use lib.ListN.{length}
use Rattle.whole.specs.Sums.{sum_by}
use Rattle.whole.specs.Values.{Values, total, Lt, Le, Laws}
use Rattle.whole.proofs.Bools.{true-false, not-true}
use Rattle.whole.proofs.Lists.Below.{all-each, all_of}
use Rattle.whole.proofs.Values.Laws.{same-le, le-le, lt_irrefl, plus-le, nil-plus, gain-le}
use Rattle.rules.specs.Times.Walks.{Edges, Walk, stay, on, Shortest, ClosesBelow}
use Rattle.rules.specs.Times.Passes.{distance, through, betters, settled}
use Rattle.rules.specs.Times.Cycle.{row_told, Cycle, around, BadCycle}

module _ {X : Type 0} (𝓥 : Values X) (E : Edges X) where
  abbrev pub Still : (ℕ → X) → Type 0
  Still D = (i : ℕ) → i < E.count → Le 𝓥 (D (E.head i)) (through 𝓥 E D i)

module _ {X : Type 0} (𝓥 : Values X) (E : Edges X) where
  pub settled-still : (ds : List X) → settled 𝓥 E ds ≡ true → Still 𝓥 E (distance 𝓥 E ds)
  unfolding settled
  settled-still ds e i h = not-true (betters 𝓥 E (distance 𝓥 E ds) i) (all-each E.count _ e i h)

  pub still-settled : (ds : List X) → Still 𝓥 E (distance 𝓥 E ds) → settled 𝓥 E ds ≡ true
  unfolding settled
  still-settled ds s = all_of E.count _ (λ i h. ap not (s i h))

module _ {X : Type 0} {𝓥 : Values X} (L : Laws 𝓥) (E : Edges X) where
  open 𝓥 use {nil, plus}

  module _ (D : ℕ → X) (s : Still 𝓥 E D) where
    still_walk : (u k v : ℕ) (d : X) → Walk 𝓥 E u k v d → Le 𝓥 (D v) (plus (D u) d)
    still_walk u _ _ _ stay = same-le L (sym (L.plus_nil (D u)))
    still_walk u _ _ _ (on {k = k} {d = d} i h w) =
        le-le L (s i h)
        (le-le L (plus-le L (E.size i) (still_walk u k (E.tail i) d w))
        (same-le L (L.plus_assoc (D u) d (E.size i))))

    still-least : ((v : ℕ) → Le 𝓥 (D v) nil) → (u k v : ℕ) (d : X) → Walk 𝓥 E u k v d → Le 𝓥 (D v) d
    still-least low u k v d w =
        le-le L (still_walk u k v d w) (le-le L (plus-le L d (low u)) (same-le L (nil-plus L d)))

    pub still-shortest : ((v : ℕ) → Le 𝓥 (D v) nil) → (v : ℕ) →
        (u : ℕ) × (k : ℕ) × Walk 𝓥 E u k v (D v) → Shortest 𝓥 E v (D v)
    still-shortest low v w = record { walk = w; least = λ u k e x. still-least low u k v e x }

    -- what a shortest walk has before its last row is the shortest distance there
    pub still_back : ((v : ℕ) → Le 𝓥 (D v) nil) → (u k i : ℕ) (d : X) → i < E.count → Walk 𝓥 E u k (E.tail i) d →
        D (E.head i) ≡ plus d (E.size i) → D (E.tail i) ≡ d
    still_back low u k i d h w e =
        L.le_antisym (D (E.tail i)) d (still-least low u k (E.tail i) d w)
        (sym (L.less-plus (D (E.tail i)) d (E.size i)) ∙ ap (λ x. 𝓥.less (through 𝓥 E D i) x) (sym e) ∙ s i h)

    pub still_open : ClosesBelow 𝓥 E → ⊥
    still_open c =
        true-false c.below
        (gain-le L (D c.start) c.sum (still_walk c.start c.rows c.start c.sum c.walk))

  pub shortest-only : (v : ℕ) (d e : X) → Shortest 𝓥 E v d → Shortest 𝓥 E v e → d ≡ e
  shortest-only v d e x y =
      L.le_antisym d e
      (x.least y.walk.0 y.walk.1 e y.walk.2)
      (y.least x.walk.0 x.walk.1 d x.walk.2)

  -- ---- a bad cycle, as a walk

  module _ (rows : List ℕ) (c : Cycle E rows) where
    cycle-walk : (k : ℕ) → k < length rows →
        Walk 𝓥 E (E.tail (row_told rows 0)) (suc k) (E.head (row_told rows k))
        (total 𝓥 (suc k) (λ j. E.size (row_told rows j)))
    unfolding sum_by
    cycle-walk zero h = on (row_told rows 0) (c.listed 0 h) stay
    cycle-walk (suc k) h =
        on (row_told rows (suc k)) (c.listed (suc k) h)
        (subst (λ v. Walk 𝓥 E (E.tail (row_told rows 0)) (suc k) v (total 𝓥 (suc k) (λ j. E.size (row_told rows j))))
        (c.linked k h)
        (cycle-walk k (omega arith)))

    whole-walk : (n : ℕ) → length rows ≡ n → 0 < n →
        Walk 𝓥 E (E.tail (row_told rows 0)) n (E.tail (row_told rows 0)) (around 𝓥 E rows)
    whole-walk zero e h = absurd (omega arith)
    whole-walk (suc k) e h =
        subst (λ m. Walk 𝓥 E (E.tail (row_told rows 0)) (suc k) (E.tail (row_told rows 0))
        (total 𝓥 m (λ j. E.size (row_told rows j)))) (sym e)
        (subst (λ v. Walk 𝓥 E (E.tail (row_told rows 0)) (suc k) v
        (total 𝓥 (suc k) (λ j. E.size (row_told rows j)))) closes
        (cycle-walk k (omega arith)))
      where
        closes : E.head (row_told rows k) ≡ E.tail (row_told rows 0)
        closes = ap (λ j. E.head (row_told rows j)) (let z : k ≡ length rows - 1 = omega arith in z) ∙ c.closed

  bad-some : (rows : List ℕ) → BadCycle 𝓥 E rows → 0 < length rows
  unfolding sum_by
  bad-some rows b = go (length rows) refl
    where
      go : (n : ℕ) → length rows ≡ n → 0 < length rows
      go zero e = absurd (lt_irrefl L (subst (λ n. Lt 𝓥 (total 𝓥 n (λ k. E.size (row_told rows k))) nil) e b.below))
      go (suc n) e = omega arith

  pub bad-closes : (rows : List ℕ) → BadCycle 𝓥 E rows → ClosesBelow 𝓥 E
  bad-closes rows b = record {
    start = E.tail (row_told rows 0);
    rows = length rows;
    sum = around 𝓥 E rows;
    walk = whole-walk rows b.cycle (length rows) refl (bad-some rows b);
    below = b.below;
  }

  pub bad-no-still : (rows : List ℕ) → BadCycle 𝓥 E rows → (D : ℕ → X) → Still 𝓥 E D → ⊥
  bad-no-still rows b D s = still_open D s (bad-closes rows b)
