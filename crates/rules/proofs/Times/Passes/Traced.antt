-- What looking at rows keeps (`Traced` of specs/Times/Traces), in whatever arrays distances are held.
--   traced-start, traced-kept, traced-taken, traced-pass   no look; a row that betters nothing, or its head; the next
--                                                          pass begins
--   traced-still                                           a pass that bettered nothing leaves distances that no row
--                                                          betters
use mathlib.Core.Path.{◌≡◌, refl, sym, ◌∙◌, ap, subst, subst₂}
use mathlib.Core.Bool.{cond}
use mathlib.Core.Logic.{◌≢◌}
use Prim.Native.Nat.{ℕ, suc, ◌+◌, ◌≤◌, ◌<◌}
use native.Mathlib.Omega.{arith}
use native.Mathlib.Decide.{ℕ_discrete, dec_le}
use borrow.Author.Tests.{eq-eqb, ne_eqb}
use lib.Dec.{eqb}
use Rattle.whole.specs.Values.{Values, Lt, Le, Laws}
use Rattle.whole.proofs.Bools.{true-false}
use Rattle.whole.proofs.Values.Laws.{same-le, le-le, lt-le-trans, le_lt_trans, weaken, plus-le, plus-lt}
use Rattle.rules.specs.Times.Walks.{Edges, Walk, stay, on}
use Rattle.rules.specs.Times.Passes.{through}
use Rattle.rules.specs.Times.Traces.{Bettered, Traced}
use Rattle.rules.proofs.Times.Passes.Still.{Still}

-- f' is f but at y, where it is a
pub record ButAt {A : Type 0} (f f' : ℕ → A) (y : ℕ) (a : A) : Type 0 where
  pub here : f' y ≡ a
  pub there : (v : ℕ) → v ≢ y → f' v ≡ f v

pub put : {A : Type 0} → (ℕ → A) → ℕ → A → ℕ → A
put f y a v = cond (eqb v y) a (f v)

pub put-put : {A : Type 0} (f : ℕ → A) (y : ℕ) (a : A) → ButAt f (put f y a) y a
unfolding put
put-put f y a = record {
  here = ap (λ b. cond b a (f y)) (eq-eqb y y refl);
  there = λ v n. ap (λ b. cond b a (f v)) (ne_eqb v y n);
}

module _ {X : Type 0} {𝓥 : Values X} (L : Laws 𝓥) (E : Edges X) where
  open 𝓥 use {nil, plus}

  pub traced-start : (D : ℕ → X) (last : ℕ → ℕ) → ((v : ℕ) → D v ≡ nil) → Traced 𝓥 E 0 0 (λ v. 0) D last
  traced-start D last e = record {
    walk = λ v. (v, 0, subst (Walk 𝓥 E v 0 v) (sym (e v)) stay);
    low = λ v. same-le L (e v);
    recent = λ v. omega arith;
    bettered = λ v h. let z : ⊥ = omega arith in absurd z;
    looked = λ j h. let z : ⊥ = omega arith in absurd z;
    unlooked = λ j h c k. let z : ⊥ = omega arith in absurd z;
  }

  module _ (b : ℕ) (time : ℕ → ℕ) (D : ℕ → X) (last : ℕ → ℕ) where
    pub traced-pass : Traced 𝓥 E b E.count time D last → Traced 𝓥 E (b + E.count) 0 time D last
    traced-pass t = record {
      walk = t.walk;
      low = t.low;
      recent = λ v. omega (arith, t.recent v);
      bettered = t.bettered;
      looked = λ j h. let z : ⊥ = omega arith in absurd z;
      unlooked = λ j h c k. t.looked j c c (omega arith);
    }

    pub traced-still : Traced 𝓥 E b E.count time D last → ((v : ℕ) → time v ≤ b) → Still 𝓥 E D
    traced-still t h j c = t.looked j c c (let q : time (E.tail j) ≤ b = h (E.tail j) in omega arith)

    module _ (i : ℕ) (t : Traced 𝓥 E b i time D last) (listed : i < E.count) where
      abbrev y : ℕ
      y = E.head i

      abbrev x : ℕ
      x = E.tail i

      abbrev d : X
      d = through 𝓥 E D i

      pub traced-kept : Le 𝓥 (D y) d → Traced 𝓥 E b (suc i) time D last
      traced-kept h = record {
        walk = t.walk;
        low = t.low;
        recent = λ v. let q : time v ≤ b + i = t.recent v in omega arith;
        bettered = t.bettered;
        looked = λ j l c k. now j l c k (ℕ_discrete j i);
        unlooked = λ j l c k. t.unlooked j (omega arith) c k;
      }
        where
          now : (j : ℕ) → j < suc i → j < E.count → time (E.tail j) ≤ b + j →
              Dec (j ≡ i) → Le 𝓥 (D (E.head j)) (through 𝓥 E D j)
          now j l c k (yes e) = subst (λ q. Le 𝓥 (D (E.head q)) (through 𝓥 E D q)) (sym e) h
          now j l c k (no n) = t.looked j (omega arith) c k

      -- the row betters its head
      module _ (h : Lt 𝓥 d (D y)) (D' : ℕ → X) (last' : ℕ → ℕ) (p : ButAt D D' y d) (q : ButAt last last' y i) where
        abbrev time' : ℕ → ℕ
        time' = put time y (suc (b + i))

        now : ButAt time time' y (suc (b + i))
        now = put-put time y (suc (b + i))

        later : (v : ℕ) → time v ≤ time' v
        later v = go (ℕ_discrete v y)
          where
            go : Dec (v ≡ y) → time v ≤ time' v
            go (yes e) = subst (λ u. time u ≤ time' u) (sym e) (omega (arith, t.recent y, now.here))
            go (no n) = omega (arith, now.there v n)

        falls : (v : ℕ) → Le 𝓥 (D' v) (D v)
        falls v = go (ℕ_discrete v y)
          where
            go : Dec (v ≡ y) → Le 𝓥 (D' v) (D v)
            go (yes e) = subst (λ u. Le 𝓥 (D' u) (D u)) (sym e) (le-le L (same-le L p.here) (weaken L h))
            go (no n) = same-le L (p.there v n)

        offers : (j : ℕ) → Le 𝓥 (through 𝓥 E D' j) (through 𝓥 E D j)
        offers j = plus-le L (E.size j) (falls (E.tail j))

        -- a row from y offers less than it did
        offers-less : (j : ℕ) → E.tail j ≡ y → Lt 𝓥 (through 𝓥 E D' j) (through 𝓥 E D j)
        offers-less j e =
            plus-lt L (E.size j) (subst (λ u. Lt 𝓥 (D' u) (D u)) (sym e) (le_lt_trans L (same-le L p.here) h))

        offers-same : (j : ℕ) → E.tail j ≢ y → through 𝓥 E D' j ≡ through 𝓥 E D j
        offers-same j n = ap (λ z. plus z (E.size j)) (p.there (E.tail j) n)

        -- the tail was bettered since the row was looked at
        fresh : suc (b + i) ≤ time x + E.count
        fresh = go (dec_le (time x + E.count) (b + i))
          where
            go : Dec (time x + E.count ≤ b + i) → suc (b + i) ≤ time x + E.count
            go (yes k) = true-false h (t.unlooked i (omega arith) listed k)
            go (no n) = omega arith

        at_y : Bettered 𝓥 E time' D' y i
        at_y = record {
          listed = listed;
          leads = refl;
          soon = let k : time x ≤ time' x = later x in omega (arith, fresh, now.here);
          most = le-le L (offers i) (same-le L (sym p.here));
          since = since;
        }
          where
            since : time' y ≤ time' x → Lt 𝓥 (through 𝓥 E D' i) (D' y)
            since k = go (ℕ_discrete x y)
              where
                go : Dec (x ≡ y) → Lt 𝓥 (through 𝓥 E D' i) (D' y)
                go (yes e) = lt-le-trans L (offers-less i e) (same-le L (sym p.here))
                go (no n) = let z : ⊥ = omega (arith, now.here, now.there x n, t.recent x) in absurd z

        off-y : (v : ℕ) → v ≢ y → 0 < time v → Bettered 𝓥 E time' D' v (last v)
        off-y v n l = record {
          listed = o.listed;
          leads = o.leads;
          soon = omega (arith, now.there v n, o.soon, later (E.tail (last v)));
          most = le-le L (offers (last v)) (le-le L o.most (same-le L (sym (p.there v n))));
          since = since;
        }
          where
            o : Bettered 𝓥 E time D v (last v)
            o = t.bettered v l

            since : time' v ≤ time' (E.tail (last v)) → Lt 𝓥 (through 𝓥 E D' (last v)) (D' v)
            since k = lt-le-trans L (go (ℕ_discrete (E.tail (last v)) y)) (same-le L (sym (p.there v n)))
              where
                go : Dec (E.tail (last v) ≡ y) → Lt 𝓥 (through 𝓥 E D' (last v)) (D v)
                go (yes e) = lt-le-trans L (offers-less (last v) e) o.most
                go (no m) =
                    le_lt_trans L (offers (last v))
                    (o.since (omega (arith, now.there v n, now.there (E.tail (last v)) m)))

        bettered' : (v : ℕ) → 0 < time' v → Dec (v ≡ y) → Bettered 𝓥 E time' D' v (last' v)
        bettered' v l (yes e) = subst (λ u. Bettered 𝓥 E time' D' u (last' u)) (sym e)
            (subst (Bettered 𝓥 E time' D' y) (sym q.here) at_y)
        bettered' v l (no n) =
            subst (Bettered 𝓥 E time' D' v) (sym (q.there v n)) (off-y v n (omega (arith, now.there v n)))

        -- a row that bettered nothing still does not, unless it starts at y
        quiet : (j : ℕ) → E.tail j ≢ y → Le 𝓥 (D (E.head j)) (through 𝓥 E D j) →
            Le 𝓥 (D' (E.head j)) (through 𝓥 E D' j)
        quiet j n k = le-le L (falls (E.head j)) (le-le L k (same-le L (sym (offers-same j n))))

        looked' : (j : ℕ) → j < suc i → j < E.count → time' (E.tail j) ≤ b + j →
            Le 𝓥 (D' (E.head j)) (through 𝓥 E D' j)
        looked' j l c k = go (ℕ_discrete j i)
          where
            off : E.tail j ≢ y
            off e = let z : time' (E.tail j) ≡ suc (b + i) = ap time' e ∙ now.here in let w : ⊥ = omega arith in w

            go : Dec (j ≡ i) → Le 𝓥 (D' (E.head j)) (through 𝓥 E D' j)
            go (yes e) =
                same-le L (ap (λ q. D' (E.head q)) e ∙ p.here ∙ sym (ap (through 𝓥 E D) e) ∙ sym (offers-same j off))
            go (no n) = quiet j off (t.looked j (omega arith) c (omega (arith, now.there (E.tail j) off)))

        unlooked' : (j : ℕ) → suc i ≤ j → j < E.count → time' (E.tail j) + E.count ≤ b + j →
            Le 𝓥 (D' (E.head j)) (through 𝓥 E D' j)
        unlooked' j l c k = quiet j off (t.unlooked j (omega arith) c (omega (arith, now.there (E.tail j) off)))
          where
            off : E.tail j ≢ y
            off e = let z : time' (E.tail j) ≡ suc (b + i) = ap time' e ∙ now.here in let w : ⊥ = omega arith in w

        walk' : (v : ℕ) → Dec (v ≡ y) → (u : ℕ) × (k : ℕ) × Walk 𝓥 E u k v (D' v)
        walk' v (yes e) =
            let w = t.walk x in (
              w.0,
              suc w.1,
              subst₂ (Walk 𝓥 E w.0 (suc w.1)) (sym e) (sym (ap D' e ∙ p.here)) (on i listed w.2),
            )
        walk' v (no n) = let w = t.walk v in (w.0, w.1, subst (Walk 𝓥 E w.0 w.1 v) (sym (p.there v n)) w.2)

        pub traced-taken : Traced 𝓥 E b (suc i) (put time y (suc (b + i))) D' last'
        traced-taken = record {
          walk = λ v. walk' v (ℕ_discrete v y);
          low = λ v. le-le L (falls v) (t.low v);
          recent = λ v. recent v (ℕ_discrete v y);
          bettered = λ v l. bettered' v l (ℕ_discrete v y);
          looked = looked';
          unlooked = unlooked';
        }
          where
            recent : (v : ℕ) → Dec (v ≡ y) → time' v ≤ b + suc i
            recent v (yes e) = subst (λ u. time' u ≤ b + suc i) (sym e) (omega (arith, now.here))
            recent v (no n) = omega (arith, now.there v n, t.recent v)
