-- The passes decide: after as many as there are vertices the distances are settled, or there is a bad cycle
-- (unsettled-cycle). So each input has one of the two answers, and never both.
--   settled-shortest             settled distances are the shortest ones
--   distances-low                no distance is above 0
--   still-can, still-distance    any walks' lengths that no row betters are those distances
--   bad-cannot                   a bad cycle leaves them unsettled
--   cycle-short                  a cycle has at most as many rows as there are vertices
use mathlib.Core.Path.{◌≡◌, refl, sym, ◌∙◌, subst}
use mathlib.Core.Bool.{Bool, true, false, cond}
use mathlib.Core.List.{List}
use mathlib.Core.Logic.{◌⊎◌, inl, inr}
use Prim.Native.Nat.{ℕ, zero, suc, ◌+◌, ◌*◌, ◌≤◌, ◌<◌}
use native.Mathlib.Omega.{arith}
use native.Mathlib.Nat.{mul-suc, mul-zero}
use native.Mathlib.Decide.{dec_lt}
use borrow.Author.Tests.{ltb-true, ltb-false}
use lib.Dec.{ltb}
use lib.ListN.{length, get_or, set, replicate, length-set, length-replicate}
use lib.Seq.{get_or-set_same, get_or-set_other, slice}
use Rattle.whole.specs.Below.{fold_below, some_below}
use Rattle.whole.specs.Values.{Values, Le, Laws}
use Rattle.whole.proofs.Bools.{either, true-false}
use Rattle.whole.proofs.Lists.Below.{some-none, some_at}
use Rattle.whole.proofs.Lists.Pigeons.{pigeons}
use Rattle.rules.specs.Times.Walks.{Edges, EndsIn, Shortest, ClosesBelow}
use Rattle.rules.specs.Times.Passes.{distance, through, betters, look, looks, passes, settled, distances, can_meet}
use Rattle.rules.specs.Times.Cycle.{row_told, Cycle, BadCycle}
use Rattle.rules.specs.Times.Traces.{Traced}
use Rattle.whole.proofs.Lists.Tables.{replicate-at}
use Rattle.rules.proofs.Times.Passes.Still.{settled-still, still-settled, still-shortest, shortest-only}
use Rattle.rules.proofs.Times.Passes.Still.{Still, still_open}
use Rattle.rules.proofs.Times.Passes.Still.{bad-closes, bad-no-still}
use Rattle.rules.proofs.Times.Passes.Traced.{ButAt, put, put-put, traced-start, traced-kept, traced-taken}
use Rattle.rules.proofs.Times.Passes.Traced.{traced-pass}
use Rattle.rules.proofs.Times.Passes.Traced.{traced-still}
use Rattle.rules.proofs.Times.Passes.Trail.{Trail, trail-start, trail-left, trail_more}
use Rattle.rules.proofs.Times.Passes.Closed.{trail-cycle}

pub cycle-short : {X : Type 0} (E : Edges X) (rows : List ℕ) → EndsIn E → Cycle E rows → length rows ≤ E.vertices
cycle-short E rows ends c =
    pigeons (length rows) E.vertices (λ k. E.tail (row_told rows k))
    (λ k h. ends.tail-in (row_told rows k) (c.listed k h)) c.apart

-- a list written at one place, as a function
pub set-put : {A : Type 0} (l : List A) (y : ℕ) (a d : A) → y < length l →
    ButAt (λ v. get_or l v d) (λ v. get_or (set l y a) v d) y a
set-put l y a d h = record { here = get_or-set_same l y a d h; there = λ v n. get_or-set_other l y v a d n }

module _ {X : Type 0} {𝓥 : Values X} (L : Laws 𝓥) (E : Edges X) (ends : EndsIn E) where
  -- ---- the looks of the definition, with the row that bettered each vertex last

  record Held (b i : ℕ) (ds : List X) : Type 0 where
    time : ℕ → ℕ
    last : ℕ → ℕ
    traced : Traced 𝓥 E b i time (distance 𝓥 E ds) last
    long : length ds ≡ E.vertices

  held-look : (b i : ℕ) (ds : List X) → i < E.count → Held b i ds → Held b (suc i) (look 𝓥 E i ds)
  unfolding look
  held-look b i ds h s = go (betters 𝓥 E (distance 𝓥 E ds) i) refl
    where
      y : ℕ
      y = E.head i

      d : X
      d = through 𝓥 E (distance 𝓥 E ds) i

      go : (c : Bool) → betters 𝓥 E (distance 𝓥 E ds) i ≡ c → Held b (suc i) (cond c (set ds y d) ds)
      go true e = record {
        time = put s.time y (suc (b + i));
        last = put s.last y i;
        traced = traced-taken L E b s.time (distance 𝓥 E ds) s.last i s.traced h e
            (distance 𝓥 E (set ds y d)) (put s.last y i)
            (set-put ds y d 𝓥.nil (omega (arith, ends.head_in i h, s.long))) (put-put s.last y i);
        long = length-set ds y d ∙ s.long;
      }
      go false e =
          record {
            time = s.time;
            last = s.last;
            traced =
                traced-kept L E b s.time (distance 𝓥 E ds) s.last i s.traced h e;
            long = s.long;
          }

  held-looks : (b : ℕ) (ds : List X) → Held b 0 ds → (i : ℕ) → i ≤ E.count → Held b i (looks 𝓥 E i ds)
  unfolding fold_below
  held-looks b ds s zero h = s
  held-looks b ds s (suc i) h = held-look b i (looks 𝓥 E i ds) h (held-looks b ds s i (omega arith))

  -- after k whole passes
  held : (k : ℕ) → Held (E.count * k) 0 (passes 𝓥 E k)
  unfolding passes
  held zero = record {
    time = λ v. 0;
    last = λ v. 0;
    traced = subst (λ b. Traced 𝓥 E b 0 (λ v. 0) (distance 𝓥 E (replicate E.vertices 𝓥.nil)) (λ v. 0))
        (sym (mul-zero E.count))
        (traced-start L E _ _ (λ v. replicate-at E.vertices 𝓥.nil v));
    long = length-replicate E.vertices 𝓥.nil;
  }
  held (suc k) = let s = held-looks (E.count * k) (passes 𝓥 E k) (held k) E.count (omega arith) in
      record {
        time = s.time;
        last = s.last;
        traced = subst (λ b. Traced 𝓥 E b 0 s.time (distance 𝓥 E (passes 𝓥 E (suc k))) s.last)
            (sym (mul-suc E.count k)) (traced-pass L E _ _ _ _ s.traced);
        long = s.long;
      }

  pub distances-long : length (distances 𝓥 E) ≡ E.vertices
  unfolding distances
  distances-long = (held E.vertices).long

  -- ---- settled distances

  settled-shortest : (k : ℕ) → settled 𝓥 E (passes 𝓥 E k) ≡ true → (v : ℕ) →
      Shortest 𝓥 E v (distance 𝓥 E (passes 𝓥 E k) v)
  settled-shortest k e v =
      let t = (held k).traced in
      still-shortest L E (distance 𝓥 E (passes 𝓥 E k)) (settled-still 𝓥 E (passes 𝓥 E k) e) t.low v (t.walk v)

  -- ---- unsettled ones

  module _ (k : ℕ) (high : E.vertices ≤ suc k) where
    -- the last of k + 1 passes
    s : Held (E.count * k) E.count (looks 𝓥 E E.count (passes 𝓥 E k))
    s = held-looks (E.count * k) (passes 𝓥 E k) (held k) E.count (omega arith)

    abbrev D : ℕ → X
    D = distance 𝓥 E (looks 𝓥 E E.count (passes 𝓥 E k))

    Back : ℕ → Type 0
    Back j = (path seen : List ℕ) (here : ℕ) → length path ≡ suc k → length seen ≡ E.vertices →
        Trail 𝓥 E s.time D (suc k) 0 path seen here j → (rows : List ℕ) × BadCycle 𝓥 E rows

    back : (j : ℕ) → Back j
    unfolding Back
    back zero path seen here p w r = go (row_told seen here) refl
      where
        go : (m : ℕ) → row_told seen here ≡ m → (rows : List ℕ) × BadCycle 𝓥 E rows
        go (suc q) e =
            (slice 0 (suc q) path, trail-cycle L E s.time D (suc k) 0 path seen here 0 r q e (omega arith))
        go zero e =
            let z : 0 < 0 =
            trail-left E ends _ _ s.time D s.last s.traced (suc k) 0 path seen here 0 r e high in
            absurd (omega arith)
    back (suc j) path seen here p w r = go (back j) (row_told seen here) refl
      where
        go : Back j → (m : ℕ) → row_told seen here ≡ m → (rows : List ℕ) × BadCycle 𝓥 E rows
        go ih (suc q) e =
            let b = trail-cycle L E s.time D (suc k) 0 path seen here (suc j) r q e (omega arith) in
            (slice (suc j) (suc q) path, b)
        go ih zero e =
            ih (set path j (s.last here)) (set seen here (suc j)) (E.tail (s.last here))
            (length-set path j (s.last here) ∙ p) (length-set seen here (suc j) ∙ w)
            (trail_more E ends _ _ s.time D s.last s.traced (suc k) 0 path seen here j r e
            (omega (arith, r.late j (omega arith))) (omega (arith, r.most)) (omega (arith, r.vertex)))

    late-cycle : (v : ℕ) → v < E.vertices → E.count * k < s.time v → (rows : List ℕ) × BadCycle 𝓥 E rows
    unfolding Back
    late-cycle v h l =
        back (suc k) (replicate (suc k) 0) (replicate E.vertices 0) v (length-replicate {A = ℕ} (suc k) 0)
        (length-replicate {A = ℕ} E.vertices 0)
        (trail-start E ends _ _ s.time D s.last s.traced (suc k) 0 (replicate (suc k) 0) v E.vertices h
        (λ q e. let z : k ≡ q = omega arith in subst (λ x. E.count * x < s.time v) z l))

    late : ℕ → Bool
    late v = ltb (E.count * k) (s.time v)

    early-still : some_below E.vertices late ≡ false → Still 𝓥 E D
    unfolding late
    early-still e = traced-still L E (E.count * k) s.time D s.last s.traced
        (λ v. go v (dec_lt v E.vertices) (dec_lt 0 (s.time v)))
      where
        go : (v : ℕ) → Dec (v < E.vertices) → Dec (0 < s.time v) → s.time v ≤ E.count * k
        go v (yes h) p = ltb-false (E.count * k) (s.time v) (some-none E.vertices late e v h)
        go v (no n) (yes p) =
            let o = s.traced.bettered v p in
            let h : E.head (s.last v) < E.vertices = ends.head_in (s.last v) o.listed in
            absurd (n (subst (λ u. u < E.vertices) o.leads h))
        go v (no n) (no p) = omega arith

    unsettled-cycle : settled 𝓥 E (passes 𝓥 E (suc k)) ≡ false → (rows : List ℕ) × BadCycle 𝓥 E rows
    unfolding passes late
    unsettled-cycle e = go (either (some_below E.vertices late))
      where
        go : (some_below E.vertices late ≡ true) ⊎ (some_below E.vertices late ≡ false) →
            (rows : List ℕ) × BadCycle 𝓥 E rows
        go (inl f) = let w = some_at E.vertices late f in
            late-cycle w.0 w.1 (ltb-true (E.count * k) (s.time w.0) w.2)
        go (inr f) = true-false (still-settled 𝓥 E _ (early-still f)) e

  -- ---- the two answers

  pub cannot-cycle : can_meet 𝓥 E ≡ false → (rows : List ℕ) × BadCycle 𝓥 E rows
  unfolding can_meet distances
  cannot-cycle e = go E.vertices refl e
    where
      go : (n : ℕ) → E.vertices ≡ n → settled 𝓥 E (passes 𝓥 E n) ≡ false → (rows : List ℕ) × BadCycle 𝓥 E rows
      go zero f e =
          true-false
          (still-settled 𝓥 E _
          (λ i h. let k : E.tail i < E.vertices = ends.tail-in i h in let z : ⊥ = omega arith in absurd z)) e
      go (suc k) f e = unsettled-cycle k (omega arith) e

  pub can-still : can_meet 𝓥 E ≡ true → Still 𝓥 E (distance 𝓥 E (distances 𝓥 E))
  unfolding can_meet
  can-still e = settled-still 𝓥 E (distances 𝓥 E) e

  pub distances-low : (v : ℕ) → Le 𝓥 (distance 𝓥 E (distances 𝓥 E) v) 𝓥.nil
  unfolding distances
  distances-low = (held E.vertices).traced.low

  pub can-shortest : can_meet 𝓥 E ≡ true → (v : ℕ) → Shortest 𝓥 E v (distance 𝓥 E (distances 𝓥 E) v)
  unfolding can_meet distances
  can-shortest e = settled-shortest E.vertices e

  pub bad-cannot : (rows : List ℕ) → BadCycle 𝓥 E rows → can_meet 𝓥 E ≡ false
  bad-cannot rows b = go (either (can_meet 𝓥 E))
    where
      go : (can_meet 𝓥 E ≡ true) ⊎ (can_meet 𝓥 E ≡ false) → can_meet 𝓥 E ≡ false
      go (inl e) = absurd (bad-no-still L E rows b (distance 𝓥 E (distances 𝓥 E)) (can-still e))
      go (inr e) = e

  open-can : (ClosesBelow 𝓥 E → ⊥) → can_meet 𝓥 E ≡ true
  open-can n = go (either (can_meet 𝓥 E))
    where
      go : (can_meet 𝓥 E ≡ true) ⊎ (can_meet 𝓥 E ≡ false) → can_meet 𝓥 E ≡ true
      go (inl e) = e
      go (inr e) = let c = cannot-cycle e in absurd (n (bad-closes L E c.0 c.1))

  -- distances that were come by in any other way
  module _ (b i : ℕ) (time : ℕ → ℕ) (D : ℕ → X) (last : ℕ → ℕ) (t : Traced 𝓥 E b i time D last) (s : Still 𝓥 E D) where
    pub still-can : can_meet 𝓥 E ≡ true
    still-can = open-can (still_open L E D s)

    pub still-distance : (v : ℕ) → D v ≡ distance 𝓥 E (distances 𝓥 E) v
    still-distance v =
        shortest-only L E v _ _ (still-shortest L E D s t.low v (t.walk v)) (can-shortest still-can v)
