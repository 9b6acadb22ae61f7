-- The way back from a vertex that the last pass bettered, along the rows that bettered each vertex last. A pass
-- earlier at most, the tail of such a row was bettered too, so the way has at least as many rows as there were passes:
-- of `top` places for rows, `spare` may stay empty. It ends at a vertex that no row has bettered, or meets one again;
-- and it does meet one again if there are no more vertices than passes.
--   Trail                      how far it has come
--   trail-start, trail_more    its start; a vertex is marked and its row put down
--   trail-left                 as long as it has met no vertex again, it has places left
--   trail-ends                 where no row has bettered the vertex, only spare places are left
use mathlib.Core.Path.{◌≡◌, sym, ◌∙◌, ap, subst}
use mathlib.Core.List.{List}
use mathlib.Core.Logic.{◌≢◌}
use Prim.Native.Nat.{ℕ, zero, suc, ◌+◌, ◌*◌, ◌-◌, ◌≤◌, ◌<◌}
use native.Mathlib.Omega.{arith}
use native.Mathlib.Nat.{mul-suc}
use native.Mathlib.Decide.{ℕ_discrete, dec_lt}
use lib.ListN.{length, set, replicate, get_or-replicate, get_or-eq_default, length-replicate}
use lib.Seq.{get_or-set_same, get_or-set_other}
use Rattle.whole.specs.Values.{Values}
use Rattle.whole.proofs.Lists.Pigeons.{pigeons}
use Rattle.rules.specs.Times.Walks.{Edges, EndsIn}
use Rattle.rules.specs.Times.Cycle.{row_told}
use Rattle.rules.specs.Times.Traces.{Bettered, Traced}

module _ {X : Type 0} (𝓥 : Values X) (E : Edges X) (time : ℕ → ℕ) (D : ℕ → X) where
  -- The way has come to `here`, with j places left. `path` holds the rows that it took, from j up to `top`; `seen`
  -- holds 1 + the place of the row that leads to a vertex, for each vertex that it met, and 0 for every other.
  pub record Trail (top spare : ℕ) (path seen : List ℕ) (here j : ℕ) : Type 0 where
    pub most : j ≤ top
    pub vertex : here < E.vertices
    pub late : (q : ℕ) → spare + suc q ≡ j → E.count * q < time here
    pub brings : (q : ℕ) → j ≤ q → q < top → Bettered 𝓥 E time D (E.head (row_told path q)) (row_told path q)
    pub linked : (q : ℕ) → j ≤ q → suc q < top → E.head (row_told path q) ≡ E.tail (row_told path (suc q))
    pub starts : j < top → E.tail (row_told path j) ≡ here
    pub marked : (q : ℕ) → j ≤ q → q < top → row_told seen (E.head (row_told path q)) ≡ suc q
    pub marks : (u q : ℕ) → row_told seen u ≡ suc q → (j ≤ q) × (q < top) × (E.head (row_told path q) ≡ u)

zeros : (n u : ℕ) → row_told (replicate n 0) u ≡ 0
zeros n u = go (dec_lt u n)
  where
    go : Dec (u < n) → row_told (replicate n 0) u ≡ 0
    go (yes h) = get_or-replicate n u 0 0 h
    go (no h) = get_or-eq_default (replicate n 0) 0 (omega (arith, length-replicate {A = ℕ} n 0))

module _ {X : Type 0} {𝓥 : Values X} (E : Edges X) (ends : EndsIn E) (b i : ℕ) (time : ℕ → ℕ) (D : ℕ → X) (last : ℕ → ℕ)
    (t : Traced 𝓥 E b i time D last) (top spare : ℕ) where
  abbrev At : List ℕ → List ℕ → ℕ → ℕ → Type 0
  At path seen here j = Trail 𝓥 E time D top spare path seen here j

  pub trail-start : (path : List ℕ) (v n : ℕ) → v < E.vertices →
      ((q : ℕ) → spare + suc q ≡ top → E.count * q < time v) → At path (replicate n 0) v top
  trail-start path v n h l = record {
    most = omega arith;
    vertex = h;
    late = l;
    brings = λ q l m. let z : ⊥ = omega arith in absurd z;
    linked = λ q l m. let z : ⊥ = omega arith in absurd z;
    starts = λ m. let z : ⊥ = omega arith in absurd z;
    marked = λ q l m. let z : ⊥ = omega arith in absurd z;
    marks = λ u q e. let z : 0 ≡ suc q = sym (zeros n u) ∙ e in let y : ⊥ = omega arith in absurd y;
  }

  pub trail-ends : (path seen : List ℕ) (here j : ℕ) → Trail 𝓥 E time D top spare path seen here j →
      time here ≡ 0 → j ≤ spare
  trail-ends path seen here j r z = go (dec_lt spare j)
    where
      go : Dec (spare < j) → j ≤ spare
      go (yes h) =
          let l : E.count * (j - suc spare) < time here = r.late (j - suc spare) (omega arith) in
          absurd (omega arith)
      go (no h) = omega arith

  module _ (path seen : List ℕ) (here j : ℕ) (r : At path seen here j) (z : row_told seen here ≡ 0) where
    -- a vertex that bears no mark is none of those met
    unmet : (q : ℕ) → j ≤ q → q < top → E.head (row_told path q) ≢ here
    unmet q l m e = let y : suc q ≡ 0 = sym (r.marked q l m) ∙ ap (row_told seen) e ∙ z in omega arith

    met : ℕ → ℕ
    met zero = here
    met (suc s) = E.head (row_told path (j + s))

    pub trail-left : E.vertices ≤ top → 0 < j
    unfolding met
    trail-left h =
        let k : suc (top - j) ≤ E.vertices = pigeons (suc (top - j)) E.vertices met below distinct in
        let l : j ≤ top = r.most in
        omega arith
      where
        below : (s : ℕ) → s < suc (top - j) → met s < E.vertices
        below zero l = r.vertex
        below (suc s) l = let o = r.brings (j + s) (omega arith) (omega arith) in
            ends.head_in (row_told path (j + s)) o.listed

        distinct : (p q : ℕ) → p < q → q < suc (top - j) → met p ≢ met q
        distinct zero zero l m e = absurd (omega arith)
        distinct zero (suc s) l m e = unmet (j + s) (omega arith) (omega arith) (sym e)
        distinct (suc p) zero l m e = absurd (omega arith)
        distinct (suc p) (suc s) l m e =
            let y : suc (j + p) ≡ suc (j + s) =
            sym (r.marked (j + p) (omega arith) (omega arith)) ∙ ap (row_told seen) e
            ∙ r.marked (j + s) (omega arith) (omega arith) in
            omega arith

  module _ (path seen : List ℕ) (here j : ℕ) (r : At path seen here (suc j)) (z : row_told seen here ≡ 0)
      (bettered : 0 < time here) (long : j < length path) (wide : here < length seen) where
    abbrev i' : ℕ
    i' = last here

    abbrev path' : List ℕ
    path' = set path j i'

    abbrev seen' : List ℕ
    seen' = set seen here (suc j)

    o : Bettered 𝓥 E time D here i'
    o = t.bettered here bettered

    at_j : row_told path' j ≡ i'
    at_j = get_or-set_same path j i' 0 long

    past-j : (q : ℕ) → suc j ≤ q → row_told path' q ≡ row_told path q
    past-j q l = get_or-set_other path j q i' 0 (λ e. let y : ⊥ = omega arith in y)

    head-j : E.head (row_told path' j) ≡ here
    head-j = ap E.head at_j ∙ o.leads

    -- a fact of each row from j on: at j, and past it
    each : (P : ℕ → ℕ → Type 0) → P j i' → ((q : ℕ) → suc j ≤ q → q < top → P q (row_told path q)) →
        (q : ℕ) → j ≤ q → q < top → P q (row_told path' q)
    each P p f q l m = go (ℕ_discrete j q)
      where
        go : Dec (j ≡ q) → P q (row_told path' q)
        go (yes e) = subst (λ x. P x (row_told path' x)) e (subst (P j) (sym at_j) p)
        go (no e) = subst (P q) (sym (past-j q (omega arith))) (f q (omega arith) m)

    new-mark : row_told seen' here ≡ suc j
    new-mark = get_or-set_same seen here (suc j) 0 wide

    old-mark : (u : ℕ) → u ≢ here → row_told seen' u ≡ row_told seen u
    old-mark u n = get_or-set_other seen here u (suc j) 0 n

    Brings : ℕ → ℕ → Type 0
    Brings q x = Bettered 𝓥 E time D (E.head x) x

    Marked : ℕ → ℕ → Type 0
    Marked q x = row_told seen' (E.head x) ≡ suc q

    link : (q : ℕ) → j ≤ q → suc q < top → E.head (row_told path' q) ≡ E.tail (row_told path' (suc q))
    link q l m = go (ℕ_discrete j q)
      where
        go : Dec (j ≡ q) → E.head (row_told path' q) ≡ E.tail (row_told path' (suc q))
        go (yes e) =
            ap (λ y. E.head (row_told path' y)) (sym e) ∙ head-j
            ∙ sym (ap E.tail (past-j (suc q) (omega arith))
            ∙ ap (λ y. E.tail (row_told path (suc y))) (sym e) ∙ r.starts (omega arith))
        go (no e) = ap E.head (past-j q (omega arith)) ∙ r.linked q (omega arith) m
            ∙ sym (ap E.tail (past-j (suc q) (omega arith)))

    marks : (u q : ℕ) → row_told seen' u ≡ suc q → (j ≤ q) × (q < top) × (E.head (row_told path' q) ≡ u)
    marks u q e = go (ℕ_discrete u here)
      where
        go : Dec (u ≡ here) → (j ≤ q) × (q < top) × (E.head (row_told path' q) ≡ u)
        go (yes f) =
            let y : suc j ≡ suc q = sym new-mark ∙ ap (row_told seen') (sym f) ∙ e in
            let x : j ≡ q = omega arith in
            (omega arith, omega (arith, r.most), ap (λ y. E.head (row_told path' y)) (sym x) ∙ head-j ∙ sym f)
        go (no f) =
            let m = r.marks u q (sym (old-mark u f) ∙ e) in
            (omega (arith, m.0), m.1, ap E.head (past-j q m.0) ∙ m.2)

    pub trail_more : At path' seen' (E.tail i') j
    unfolding Brings Marked
    trail_more = record {
      most = omega (arith, r.most);
      vertex = ends.tail-in i' o.listed;
      late = λ q e.
          let k : E.count * suc q < time here = r.late (suc q) (omega arith) in
          omega (arith, o.soon, mul-suc E.count q);
      brings = each Brings (subst (λ u. Bettered 𝓥 E time D u i') (sym o.leads) o) r.brings;
      linked = link;
      starts = λ m. ap E.tail at_j;
      marked = each Marked (ap (row_told seen') o.leads ∙ new-mark)
          (λ q l m. old-mark (E.head (row_told path q)) (unmet path seen here (suc j) r z q l m) ∙ r.marked q l m);
      marks = marks;
    }
