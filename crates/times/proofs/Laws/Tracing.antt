-- The way back in arrays.
--   tracing-start, tracing-more      its start; a row more
--   tracing-left                     it has places left until it meets a vertex again
--   tracing-closed                   then it has closed a bad cycle
--   tracing-ended                    at no row it has no more places left than passes can still be made
--   tracing-here, tracing-high       the vertex and the place are small
use mathlib.Core.Path.{◌≡◌, refl, sym, ◌∙◌, subst}
use mathlib.Core.List.{List}
use mathlib.Core.Logic.{◌≢◌}
use Prim.Native.Nat.{ℕ, zero, suc, ◌+◌, ◌*◌, ◌-◌, ◌≤◌, ◌<◌}
use native.Mathlib.Omega.{arith}
use native.Mathlib.Decide.{dec_lt}
use native.Mathlib.Nat.{mul-le-mul_left}
use lib.IntN.{ℤ}
use lib.ListN.{length, set, replicate, length-set, length-replicate}
use Rattle.whole.specs.Values.{pairs}
use Rattle.whole.proofs.Values.Beside.{pairs-laws}
use Rattle.rules.specs.Sizes.{most_vertices}
use Rattle.rules.specs.Problem.{n_of, m_of}
use Rattle.rules.specs.Times.Walks.{EndsIn}
use Rattle.rules.specs.Times.Cycle.{row_told}
use Rattle.rules.specs.Times.Words.{time_edges}
use Rattle.rules.proofs.Times.Passes.Closed.{trail-cycle}
use Rattle.rules.proofs.Times.Refused.{vertices-few, time-rows-few, accepted-ends}
use Rattle.rules.proofs.Times.Passes.Trail.{Trail, trail-start, trail-left, trail-ends, trail_more}
use Rattle.times.specs.Steps.{last_row, no_row, Looked, Closed, Closing, Spare}

module _ {ws : List ℤ} {last : List ℕ} {passes v : ℕ} (c : Closing ws last passes v) where
  abbrev l : Looked ws passes (m_of ws) c.best last
  l = c.looked

  -- the passes that are still to be made
  abbrev spare : ℕ
  spare = n_of ws - suc passes

  pub record Tracing (seen path : List ℕ) (here j : ℕ) : Type 0 where
    pub trail : Trail pairs (time_edges ws) l.time l.far (n_of ws) spare path seen here j
    pub path-long : length path ≡ most_vertices
    pub seen-long : length seen ≡ most_vertices

  ends : EndsIn (time_edges ws)
  ends = accepted-ends l.fine

  few : n_of ws ≤ most_vertices
  few = vertices-few l.fine

  late : (q : ℕ) → spare + suc q ≡ n_of ws → m_of ws * q < l.time v
  late q e = let h : q ≤ passes = omega arith in omega (arith, mul-le-mul_left (m_of ws) h, c.late)

  pub tracing-start : Tracing (replicate most_vertices 0) (replicate most_vertices 0) v (n_of ws)
  tracing-start = record {
    trail = trail-start (time_edges ws) ends _ _ l.time l.far (last_row last) l.traced (n_of ws) spare
        (replicate most_vertices 0) v most_vertices c.vertex late;
    path-long = length-replicate {A = ℕ} most_vertices 0;
    seen-long = length-replicate {A = ℕ} most_vertices 0;
  }

  -- a vertex that no row has bettered
  unbettered : (u : ℕ) → last_row last u ≡ no_row → l.time u ≡ 0
  unbettered u e = go (dec_lt 0 (l.time u))
    where
      go : Dec (0 < l.time u) → l.time u ≡ 0
      go (yes h) = let o : ⊥ = omega (arith, (l.traced.bettered u h).listed, time-rows-few l.fine) in absurd o
      go (no n) = omega arith

  module _ (seen path : List ℕ) (here j : ℕ) (t : Tracing seen path here j) where
    pub tracing-here : here < most_vertices
    tracing-here = omega (arith, t.trail.vertex, few)

    pub tracing-high : j ≤ most_vertices
    tracing-high = omega (arith, t.trail.most, few)

    pub tracing-left : row_told seen here ≡ 0 → 0 < j
    tracing-left z =
        trail-left (time_edges ws) ends _ _ l.time l.far (last_row last) l.traced (n_of ws) spare
        path seen here j t.trail z (omega arith)

    -- a vertex met again, its mark m
    pub tracing-closed : (m : ℕ) → row_told seen here ≡ m → (m ≡ 0 → ⊥) →
        Closed ws (record { from = j; to = m; path = path })
    tracing-closed zero e h = absurd (h refl)
    tracing-closed (suc p) e h = record {
      in_order = omega (arith, (t.trail.marks here p e).0);
      in_path = omega (arith, (t.trail.marks here p e).1, few);
      bad = trail-cycle pairs-laws (time_edges ws) l.time l.far (n_of ws) spare path seen here j t.trail p e
          (omega (arith, t.path-long, few));
    }

    -- no row leads on
    pub tracing-ended : row_told seen here ≡ 0 → last_row last here ≡ no_row → Spare ws passes j
    tracing-ended z e =
        let s : j ≤ spare =
        trail-ends (time_edges ws) ends _ _ l.time l.far (last_row last) l.traced (n_of ws) spare
        path seen here j t.trail (unbettered here e) in
        record { some = tracing-left z; few = omega (arith, tracing-left z) }

  module _ (seen path : List ℕ) (here q : ℕ) (t : Tracing seen path here (suc q)) (z : row_told seen here ≡ 0)
      (n : last_row last here ≢ no_row) where
    more : Tracing (set seen here (suc q)) (set path q (last_row last here))
        ((time_edges ws).tail (last_row last here)) q
    more = record {
      trail = trail_more (time_edges ws) ends _ _ l.time l.far (last_row last) l.traced (n_of ws) spare
          path seen here q t.trail z
          (l.stands here (tracing-here seen path here (suc q) t) n)
          (omega (arith, t.path-long, tracing-high seen path here (suc q) t))
          (omega (arith, t.seen-long, tracing-here seen path here (suc q) t));
      path-long = length-set path q (last_row last here) ∙ t.path-long;
      seen-long = length-set seen here (suc q) ∙ t.seen-long;
    }

  -- by the place that the code has come to
  module _ (seen path : List ℕ) (here j : ℕ) (t : Tracing seen path here j) (z : row_told seen here ≡ 0)
      (n : last_row last here ≢ no_row) where
    abbrev i : ℕ
    i = last_row last here

    one_down : suc (j - 1) ≡ j
    one_down = omega (arith, tracing-left seen path here j t z)

    pub tracing-more : Tracing (set seen here j) (set path (j - 1) i) ((time_edges ws).tail i) (j - 1)
    tracing-more =
        subst (λ k. Tracing (set seen here k) (set path (j - 1) i) ((time_edges ws).tail i) (j - 1)) one_down
        (more seen path here (j - 1) (subst (Tracing seen path here) (sym one_down) t) z n)
