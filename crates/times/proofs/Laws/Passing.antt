-- A pass, row by row, and the passes one after the other.
--   looked-start                   no pass
--   looked-modest                  distances are modest, so a sum fits
--   pass-start                     no row of a pass
--   pass-taken, pass_kept          a row that betters its head; one that does not
--   looked-more                    the next pass begins
--   pass-settled, settled-quiet   a pass bettered nothing, or a look after it finds nothing to better: the distances
--                                  are right
--   pass-closing                   a pass that bettered a vertex
use mathlib.Core.Path.{◌≡◌, refl, sym, ◌∙◌, ap, ap₂, subst}
use mathlib.Core.Bool.{Bool, true, false}
use mathlib.Core.List.{List}
use mathlib.Core.Logic.{◌≢◌}
use Prim.Native.Nat.{ℕ, suc, ◌+◌, ◌*◌, ◌≤◌, ◌<◌}
use native.Mathlib.Omega.{arith}
use native.Mathlib.Decide.{ℕ_discrete, dec_lt}
use native.Mathlib.Nat.{mul-suc, mul-zero}
use lib.IntN.{ℤ, pos, ◌+ℤ◌}
use lib.ListN.{length, set, replicate, length-set, length-replicate, get_or-replicate, get_or-eq_default}
use lib.Signed.{lt_z, ◌≤ℤ◌}
use Rattle.whole.specs.Numbers.{Within}
use Rattle.whole.specs.Values.{pairs}
use Rattle.whole.proofs.Values.Beside.{pairs-laws}
use Rattle.whole.proofs.Numbers.Sizes.{within-le}
use Rattle.rules.specs.Sizes.{most_vertices, largest_length}
use Rattle.rules.specs.Problem.{n_of, m_of}
use Rattle.rules.specs.Times.Walks.{Edges, EndsIn}
use Rattle.rules.specs.Times.Passes.{through, betters, distance, distances}
use Rattle.rules.specs.Times.Words.{time_edges}
use Rattle.rules.proofs.Times.Decide.{set-put, still-can, still-distance}
use Rattle.rules.proofs.Times.Refused.{vertices-few, time-rows-few, accepted-ends}
use Rattle.rules.specs.Times.Traces.{Traced}
use Rattle.rules.proofs.Times.Passes.Still.{Still}
use Rattle.rules.proofs.Times.Passes.Traced.{ButAt, put, put-put, traced-start, traced-kept, traced-taken, traced-pass}
use Rattle.rules.proofs.Times.Passes.Traced.{traced-still}
use Rattle.lengths.specs.declared.Length.{Length}
use Rattle.lengths.specs.Lengths.{unit, length_of, no_rows, key_of, looks_made, Near, length_at, key_at}
use Rattle.lengths.proofs.Laws.Keys.{key-plus, near_le, near-plus, near_within, size-near, key-less, key-low}
use Rattle.timerows.specs.Judged.{Fine}
use Rattle.times.specs.Steps.{no_row, last_row, AllModest, is_less, Quiet, Looked, Pass, Settled, Closing}

-- ---- no pass

nowhere : (v : ℕ) → length_at (replicate most_vertices no_rows) v ≡ no_rows
nowhere v = go (dec_lt v most_vertices)
  where
    go : Dec (v < most_vertices) → length_at (replicate most_vertices no_rows) v ≡ no_rows
    go (yes h) = get_or-replicate most_vertices v no_rows no_rows h
    go (no n) =
        let h : length (replicate most_vertices no_rows) ≤ v = omega (arith, length-replicate most_vertices no_rows) in
        get_or-eq_default (replicate most_vertices no_rows) no_rows h

pub looked-start : (ws : List ℤ) → Fine ws →
    Looked ws 0 0 (replicate most_vertices no_rows) (replicate most_vertices no_row)
looked-start ws f = record {
  fine = f;
  early = omega arith;
  time = λ v. 0;
  far = λ v. pairs.nil;
  are = λ v. ap length_of (nowhere v);
  near = λ v. record { plain = record { within = omega arith }; small = record { within = omega arith } };
  traced = rw (mul-zero (m_of ws)) (traced-start pairs-laws (time_edges ws) _ _ (λ v. refl));
  stands = λ v h n. absurd (n (get_or-replicate {A = ℕ} most_vertices v no_row 0 h));
  best-long = length-replicate most_vertices no_rows;
  last-long = length-replicate {A = ℕ} most_vertices no_row;
}

-- ---- looks

module _ {ws : List ℤ} {k i : ℕ} {best : List Length} {last : List ℕ} (l : Looked ws k i best last)
    (h : i ≤ m_of ws) where
  -- no more looks than all passes have
  near-all : (v : ℕ) → Near (l.far v) (looks_made most_vertices 0)
  near-all v = near_le (l.near v) (omega (arith, l.early, time-rows-few l.fine))

  pub looked-modest : AllModest best
  looked-modest v =
      subst (λ z. Within z ((unit * largest_length + 1) * looks_made most_vertices 0)) (sym (l.are v))
      (near_within (near-all v))

  -- what a row offers, as a number and as a pair
  looked-offer : (j : ℕ) →
      key_at best ((time_edges ws).tail j) +ℤ key_of ((time_edges ws).size j)
      ≡ key_of (through pairs (time_edges ws) l.far j)
  looked-offer j =
      ap (λ z. z +ℤ key_of ((time_edges ws).size j)) (l.are ((time_edges ws).tail j))
      ∙ sym (key-plus (l.far ((time_edges ws).tail j)) ((time_edges ws).size j))

  -- a look compares numbers as the rules compare pairs
  looked-less : (j : ℕ) → j < m_of ws → is_less ws best j ≡ betters pairs (time_edges ws) l.far j
  looked-less j g =
      ap₂ lt_z (looked-offer j) (l.are ((time_edges ws).head j))
      ∙ key-less (through pairs (time_edges ws) l.far j) (l.far ((time_edges ws).head j))
      (within-le (near-plus (near-all ((time_edges ws).tail j)) (size-near l.fine j g)).small (omega arith))
      (within-le (near-all ((time_edges ws).head j)).small (omega arith))

pub pass-start : {ws : List ℤ} {k : ℕ} {best : List Length} {last : List ℕ} → Looked ws k 0 best last →
    Pass ws k 0 best last no_row
pass-start {ws} {k} l = record {
  looked = l;
  finds = record {
    none = λ e v. let h : l.time v ≤ m_of ws * k + 0 = l.traced.recent v in omega arith;
    listed = λ n. absurd (n refl);
    late = λ n. absurd (n refl);
  };
}

module _ {ws : List ℤ} {k : ℕ} {best : List Length} {last : List ℕ} {i row : ℕ} (p : Pass ws k i best last row)
    (listed : i < m_of ws) where
  abbrev E : Edges (ℤ × ℤ)
  E = time_edges ws

  abbrev l : Looked ws k i best last
  l = p.looked

  abbrev y : ℕ
  y = E.head i

  abbrev d : ℤ × ℤ
  d = through pairs E l.far i

  less-is : {b : Bool} → is_less ws best i ≡ b → betters pairs E l.far i ≡ b
  less-is e = sym (looked-less l (omega arith) i listed) ∙ e

  pub pass_kept : is_less ws best i ≡ false → Pass ws k (suc i) best last row
  pass_kept e = record {
    looked = record {
      fine = l.fine;
      early = l.early;
      time = l.time;
      far = l.far;
      are = l.are;
      near = λ v. near_le (l.near v) (omega arith);
      traced = traced-kept pairs-laws E (m_of ws * k) l.time l.far (last_row last) i l.traced listed (less-is e);
      stands = l.stands;
      best-long = l.best-long;
      last-long = l.last-long;
    };
    finds = p.finds;
  }

  module _ (better : Length) (e : length_of better ≡ key_at best (E.tail i) +ℤ key_of (E.size i))
      (h : is_less ws best i ≡ true) where
    abbrev best' : List Length
    best' = set best y better

    abbrev last' : List ℕ
    last' = set last y i

    abbrev time' : ℕ → ℕ
    time' = put l.time y (suc (m_of ws * k + i))

    abbrev far' : ℕ → ℤ × ℤ
    far' = put l.far y d

    now : ButAt l.time time' y (suc (m_of ws * k + i))
    now = put-put l.time y (suc (m_of ws * k + i))

    farther : ButAt l.far far' y d
    farther = put-put l.far y d

    head-low : y < n_of ws
    head-low = (accepted-ends l.fine).head_in i listed

    put-best : ButAt (length_at best) (length_at best') y better
    put-best = set-put best y better no_rows (omega (arith, head-low, vertices-few l.fine, l.best-long))

    put_last : ButAt (last_row last) (last_row last') y i
    put_last = set-put last y i 0 (omega (arith, head-low, vertices-few l.fine, l.last-long))

    are : (v : ℕ) → Dec (v ≡ y) → key_at best' v ≡ key_of (far' v)
    are v (yes q) =
        ap (key_at best') q ∙ ap length_of put-best.here ∙ e ∙ looked-offer l (omega arith) i
        ∙ sym (ap (λ u. key_of (far' u)) q ∙ ap key_of farther.here)
    are v (no n) = ap length_of (put-best.there v n) ∙ l.are v ∙ sym (ap key_of (farther.there v n))

    near : (v : ℕ) → Dec (v ≡ y) → Near (far' v) (looks_made k (suc i))
    near v (yes q) =
        subst (λ u. Near (far' u) (looks_made k (suc i))) (sym q)
        (subst (λ z. Near z (looks_made k (suc i))) (sym farther.here)
        (near_le (near-plus (l.near (E.tail i)) (size-near l.fine i listed)) (omega arith)))
    near v (no n) =
        subst (λ z. Near z (looks_made k (suc i))) (sym (farther.there v n)) (near_le (l.near v) (omega arith))

    stands : (v : ℕ) → v < most_vertices → Dec (v ≡ y) → last_row last' v ≢ no_row → 0 < time' v
    stands v f (yes q) n = subst (λ u. 0 < time' u) (sym q) (omega (arith, now.here))
    stands v f (no q) n = omega (arith, now.there v q, l.stands v f (λ z. n (put_last.there v q ∙ z)))

    pub pass-taken : Pass ws k (suc i) best' last' i
    pass-taken = record {
      looked = record {
        fine = l.fine;
        early = l.early;
        time = time';
        far = far';
        are = λ v. are v (ℕ_discrete v y);
        near = λ v. near v (ℕ_discrete v y);
        traced = traced-taken pairs-laws E (m_of ws * k) l.time l.far
            (last_row last) i l.traced listed (less-is h)
            _ _ farther put_last;
        stands = λ v f. stands v f (ℕ_discrete v y);
        best-long = length-set best y better ∙ l.best-long;
        last-long = length-set last y i ∙ l.last-long;
      };
      finds = record {
        none = λ z. let o : ⊥ = omega (arith, time-rows-few l.fine) in absurd o;
        listed = λ n. listed;
        late = λ n. omega (arith, now.here);
      };
    }

-- ---- the end of a pass

module _ {ws : List ℤ} {k : ℕ} {best : List Length} {last : List ℕ} {row : ℕ}
    (p : Pass ws k (m_of ws) best last row) where
  abbrev done : Looked ws k (m_of ws) best last
  done = p.looked

  pub looked-more : suc k < most_vertices → Looked ws (suc k) 0 best last
  looked-more h = record {
    fine = done.fine;
    early = h;
    time = done.time;
    far = done.far;
    are = done.are;
    near = λ v. near_le (done.near v) (omega (arith, time-rows-few done.fine));
    traced = subst (λ b. Traced pairs (time_edges ws) b 0 done.time done.far (last_row last))
        (sym (mul-suc (m_of ws) k))
        (traced-pass pairs-laws (time_edges ws) (m_of ws * k) done.time done.far (last_row last) done.traced);
    stands = done.stands;
    best-long = done.best-long;
    last-long = done.last-long;
  }

  settled : Still pairs (time_edges ws) done.far → Settled ws best
  settled s = record {
    can = still-can pairs-laws (time_edges ws) ends _ _ done.time done.far (last_row last) done.traced s;
    are = λ v. done.are v ∙ ap key_of (right v);
    passed = λ v. record { modest = looked-modest done (omega arith) v; low = low v };
    long = done.best-long;
  }
    where
      ends : EndsIn (time_edges ws)
      ends = accepted-ends done.fine

      right : (v : ℕ) → done.far v ≡ distance pairs (time_edges ws) (distances pairs (time_edges ws)) v
      right = still-distance pairs-laws (time_edges ws) ends _ _ done.time done.far (last_row last) done.traced s

      low : (v : ℕ) → key_at best v ≤ℤ pos 0
      low v =
          subst (λ z. z ≤ℤ pos 0) (sym (done.are v))
          (key-low (done.far v) (within-le (near-all done (omega arith) v).small (omega arith)) (done.traced.low v))

  pub pass-settled : row ≡ no_row → Settled ws best
  pass-settled e = settled (traced-still pairs-laws (time_edges ws) (m_of ws * k) done.time done.far (last_row last)
      done.traced (p.finds.none e))

  pub settled-quiet : {b : Bool} → b ≡ true → Quiet ws best b → Settled ws best
  settled-quiet e q = settled (λ i h. sym (looked-less done (omega arith) i h) ∙ subst (Quiet ws best) e q i h)

  pub pass-closing : row ≢ no_row → {v : ℕ} → v ≡ (time_edges ws).head row → Closing ws last k v
  pass-closing n e = rw e (record {
    best = best;
    looked = done;
    vertex = (accepted-ends done.fine).head_in row (p.finds.listed n);
    late = p.finds.late n;
  })
