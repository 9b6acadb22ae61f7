-- The part of the proof of termination that is about arrangements alone: where an arrangement comes twice, two steps S
-- and T clash. X is the type of values, of which nothing is asked; `seat k v` is variable v's seat before step k. Let r
-- be the largest variable that leaves in between, at S. After S it sits at the limit that it took until it enters at
-- some T, or it sits there at the end, so at the start, and enters at some T before S. Either way its value at T is the
-- limit set at S.
use mathlib.Core.Logic.{inl, inr, ◌≢◌, ◌⊎◌}
use mathlib.Core.Option.{Option, none-ne-some, none, some}
use mathlib.Core.Path.{refl, sym, ◌∙◌, ◌≡◌}
use Prim.Native.Nat.{suc, zero, ℕ, ◌+◌, ◌-◌, ◌<◌, ◌≤◌}
use native.Mathlib.Decide.{dec_le, ℕ_discrete}
use native.Mathlib.Omega.{arith}
use Rattle.rules.specs.Facts.Rule.{Swap}

pub none-some : {X : Type 0} {o : Option X} {x : X} → o ≡ none → o ≡ some x → ⊥
none-some {x} p q = none-ne-some x (sym p ∙ q)

is-seated : {X : Type 0} (o : Option X) → (o ≡ none) ⊎ ((x : X) × (o ≡ some x))
is-seated none = inl refl
is-seated (some x) = inr (x, refl)

split : (a b : ℕ) → a ≤ b → (d : ℕ) × (a + d ≡ b)
split a b h = (b - a, omega arith)

module _ {X : Type 0} (seat : ℕ → ℕ → Option X) (leave enter : ℕ → ℕ) (lim : ℕ → X) where
  record Enters (lo hi r : ℕ) (x : X) : Type 0 where
    pub at : ℕ
    pub from : lo ≤ at
    pub upto : at < hi
    pub enters : enter at ≡ r
    pub value : seat at r ≡ some x

  record Leaves (lo hi v : ℕ) : Type 0 where
    pub at : ℕ
    pub from : lo ≤ at
    pub upto : at < hi
    pub leaves : leave at ≡ v

  -- r leaves at S, and enters at T with the value that it got at S; what leaves at T is below r; what is above r and
  -- seated at T is so at S
  pub record ClashingSteps (i j : ℕ) : Type 0 where
    pub S : ℕ
    pub T : ℕ
    pub S-in : (i ≤ S) × (S < j)
    pub T-in : (i ≤ T) × (T < j)
    pub again : enter T ≡ leave S
    pub value : seat T (leave S) ≡ some (lim S)
    pub lower : leave T < leave S
    pub above : (w : ℕ) (x : X) → leave S < w → seat T w ≡ some x → seat S w ≡ some x

  record Highest (lo hi : ℕ) : Type 0 where
    pub at : ℕ
    pub from : lo ≤ at
    pub upto : at < hi
    pub most : (k : ℕ) → lo ≤ k → k < hi → leave k ≤ leave at

  highest : (d i : ℕ) → Highest i (i + suc d)
  highest zero i = record {
    at = i;
    from = omega arith;
    upto = omega arith;
    most = λ k p q. let e : k ≡ i = omega arith in rw e (omega arith);
  }
  highest (suc d) i = pick (highest d (suc i))
    where
      pick : Highest (suc i) (suc i + suc d) → Highest i (i + suc (suc d))
      pick h = go (dec_le (leave i) (leave h.at))
        where
          here-or-later : (k : ℕ) → i ≤ k → k < i + suc (suc d) → (A : Type 0) → (k ≡ i → A) →
              (suc i ≤ k → k < suc i + suc d → A) → A
          here-or-later k p q A f g = cases (ℕ_discrete k i)
            where
              cases : Dec (k ≡ i) → A
              cases (yes e) = f e
              cases (no n) = g (omega arith) (omega arith)

          go : Dec (leave i ≤ leave h.at) → Highest i (i + suc (suc d))
          go (yes l) = record {
            at = h.at;
            from = omega arith;
            upto = omega arith;
            most = λ k p q. here-or-later k p q (leave k ≤ leave h.at) (λ e. rw e l) (h.most k);
          }
          go (no l) = record {
            at = i;
            from = omega arith;
            upto = omega arith;
            most = λ k p q. here-or-later k p q (leave k ≤ leave i) (λ e. rw e (omega arith))
                (λ a b. let m : leave k ≤ leave h.at = h.most k a b in omega arith);
          }

  module _ (i j : ℕ) (steps : (k : ℕ) → i ≤ k → k < j → Swap (seat k) (seat (suc k)) (leave k) (enter k) (lim k)) where
    -- r is seated at a with x: up to a + d it enters, with x, or it sits there with x still
    seated-on : (d a r : ℕ) (x : X) → i ≤ a → a + d ≤ j → seat a r ≡ some x →
        Enters a (a + d) r x ⊎ (seat (a + d) r ≡ some x)
    seated-on zero a r x p q h = inr (let e : a + 0 ≡ a = omega arith in rw e h)
    seated-on (suc d) a r x p q h = go (ℕ_discrete r (enter a))
        (λ h'. seated-on d (suc a) r x (omega arith) (omega arith) h')
      where
        st : Swap (seat a) (seat (suc a)) (leave a) (enter a) (lim a)
        st = steps a p (omega arith)

        not_left : r ≢ leave a
        not_left e = none-some (rw e st.was-basic) h

        later : Enters (suc a) (suc a + d) r x ⊎ (seat (suc a + d) r ≡ some x) →
            Enters a (a + suc d) r x ⊎ (seat (a + suc d) r ≡ some x)
        later (inl t) = inl (record {
          at = t.at;
          from = omega arith;
          upto = omega arith;
          enters = t.enters;
          value = t.value;
        })
        later (inr e) = inr (let z : a + suc d ≡ suc a + d = omega arith in rw z e)

        go : Dec (r ≡ enter a) → (seat (suc a) r ≡ some x →
            Enters (suc a) (suc a + d) r x ⊎ (seat (suc a + d) r ≡ some x)) →
            Enters a (a + suc d) r x ⊎ (seat (a + suc d) r ≡ some x)
        go (yes e) rest = inl (record { at = a; from = omega arith; upto = omega arith; enters = sym e; value = h })
        go (no n) rest = later (rest (st.others r not_left n ∙ h))

    -- v is basic at a: up to a + d it leaves, or is basic there still
    basic-on : (d a v : ℕ) → i ≤ a → a + d ≤ j → seat a v ≡ none → Leaves a (a + d) v ⊎ (seat (a + d) v ≡ none)
    basic-on zero a v p q h = inr (let e : a + 0 ≡ a = omega arith in rw e h)
    basic-on (suc d) a v p q h = go (ℕ_discrete v (leave a)) (λ h'. basic-on d (suc a) v (omega arith) (omega arith) h')
      where
        st : Swap (seat a) (seat (suc a)) (leave a) (enter a) (lim a)
        st = steps a p (omega arith)

        not_entered : v ≢ enter a
        not_entered e = none-some (rw e at h) st.was-seated.1

        later : Leaves (suc a) (suc a + d) v ⊎ (seat (suc a + d) v ≡ none) →
            Leaves a (a + suc d) v ⊎ (seat (a + suc d) v ≡ none)
        later (inl t) = inl (record { at = t.at; from = omega arith; upto = omega arith; leaves = t.leaves })
        later (inr e) = inr (let z : a + suc d ≡ suc a + d = omega arith in rw z e)

        go : Dec (v ≡ leave a) → (seat (suc a) v ≡ none → Leaves (suc a) (suc a + d) v ⊎ (seat (suc a + d) v ≡ none)) →
            Leaves a (a + suc d) v ⊎ (seat (a + suc d) v ≡ none)
        go (yes e) rest = inl (record { at = a; from = omega arith; upto = omega arith; leaves = sym e })
        go (no n) rest = later (rest (st.others v n not_entered ∙ h))

    module _ (same : (v : ℕ) → seat i v ≡ seat j v) (r : ℕ) (most : (k : ℕ) → i ≤ k → k < j → leave k ≤ r) where
      -- above r nothing leaves, so what is basic stays so
      stays-basic : (a b v : ℕ) → i ≤ a → a ≤ b → b ≤ j → r < v → seat a v ≡ none → seat b v ≡ none
      stays-basic a b v p q u h e = go (split a b q)
        where
          go : (d : ℕ) × (a + d ≡ b) → seat b v ≡ none
          go (d, z) = rw z at (cases (basic-on d a v p (omega arith) e))
            where
              cases : Leaves a (a + d) v ⊎ (seat (a + d) v ≡ none) → seat (a + d) v ≡ none
              cases (inl t) =
                  let m : leave t.at ≤ r = most t.at (omega arith) (omega arith) in
                  let l : leave t.at ≡ v = t.leaves in
                  let z : ⊥ = omega arith in absurd z
              cases (inr f) = f

      -- .. and what is seated at the start stays, with its value
      stays-seated : (b v : ℕ) (x : X) → i ≤ b → b ≤ j → r < v → seat i v ≡ some x → seat b v ≡ some x
      stays-seated b v x q u h e = go (split i b q)
        where
          go : (d : ℕ) × (i + d ≡ b) → seat b v ≡ some x
          go (d, z) = rw z at (cases (seated-on d i v x (omega arith) (omega arith) e))
            where
              cases : Enters i (i + d) v x ⊎ (seat (i + d) v ≡ some x) → seat (i + d) v ≡ some x
              cases (inl t) =
                  let st : Swap (seat t.at) (seat (suc t.at)) (leave t.at) (enter t.at)
                  (lim t.at) = steps t.at t.from (omega arith) in
                  let n : seat (suc t.at) v ≡ none = (rw t.enters at st).now-basic in
                  absurd (none-some (stays-basic (suc t.at) j v (omega arith) (omega arith) (omega arith) h n)
                  (sym (same v) ∙ e))
              cases (inr f) = f

      unmoved : (S T w : ℕ) (x : X) → i ≤ S → S < j → i ≤ T → T < j → r < w → seat T w ≡ some x → seat S w ≡ some x
      unmoved S T w x s1 s2 t1 t2 h e = go (is-seated (seat i w))
        where
          go : (seat i w ≡ none) ⊎ ((y : X) × (seat i w ≡ some y)) → seat S w ≡ some x
          go (inl n) = absurd (none-some (stays-basic i T w (omega arith) t1 (omega arith) h n) e)
          go (inr (y, f)) =
              stays-seated S w y s1 (omega arith) h f ∙ sym (stays-seated T w y t1 (omega arith) h f) ∙ e

      -- r leaves at S: it enters somewhere with the value that it got there
      comes_back : (S : ℕ) → i ≤ S → S < j → leave S ≡ r → Enters i j r (lim S)
      comes_back S p q l = go (split (suc S) j q) (split i S p)
        where
          st : Swap (seat S) (seat (suc S)) (leave S) (enter S) (lim S)
          st = steps S p q

          go : (d : ℕ) × (suc S + d ≡ j) → (d : ℕ) × (i + d ≡ S) → Enters i j r (lim S)
          go (d, z) (c, y) = cases (seated-on d (suc S) r (lim S) (omega arith) (omega arith) (rw l at st).set_to)
            where
              before : seat i r ≡ some (lim S) → Enters i (i + c) r (lim S) ⊎ (seat (i + c) r ≡ some (lim S)) →
                  Enters i j r (lim S)
              before f (inl t) = record {
                at = t.at;
                from = t.from;
                upto = omega arith;
                enters = t.enters;
                value = t.value;
              }
              before f (inr g) = absurd (none-some (rw l at st).was-basic (rw y at g))

              cases : Enters (suc S) (suc S + d) r (lim S) ⊎ (seat (suc S + d) r ≡ some (lim S)) → Enters i j r (lim S)
              cases (inl t) = record {
                at = t.at;
                from = omega arith;
                upto = omega arith;
                enters = t.enters;
                value = t.value;
              }
              cases (inr f) = let g : seat i r ≡ some (lim S) = same r ∙ (rw z at f) in
                  before g (seated-on c i r (lim S) (omega arith) (omega arith) g)

    pub clash : i < j → ((v : ℕ) → seat i v ≡ seat j v) → ClashingSteps i j
    clash h same = go (split (suc i) j h)
      where
        go : (d : ℕ) × (suc i + d ≡ j) → ClashingSteps i j
        go (d, z) = found (let y : i + suc d ≡ j = omega arith in rw y at (highest d i))
          where
            found : Highest i j → ClashingSteps i j
            found m = use-it (comes_back same (leave m.at) m.most m.at m.from m.upto refl)
              where
                use-it : Enters i j (leave m.at) (lim m.at) → ClashingSteps i j
                use-it t =
                    let st : Swap (seat t.at) (seat (suc t.at)) (leave t.at) (enter t.at)
                    (lim t.at) = steps t.at t.from t.upto in
                    record {
                      S = m.at;
                      T = t.at;
                      S-in = (m.from, m.upto);
                      T-in = (t.from, t.upto);
                      again = t.enters;
                      value = t.value;
                      lower = below st (m.most t.at t.from t.upto);
                      above = λ w x. unmoved same (leave m.at) m.most m.at t.at w x m.from m.upto
                          t.from t.upto;
                    }
                  where
                    below : Swap (seat t.at) (seat (suc t.at)) (leave t.at) (enter t.at) (lim t.at) →
                        leave t.at ≤ leave m.at → leave t.at < leave m.at
                    below st k = strict (ℕ_discrete (leave t.at) (leave m.at))
                      where
                        strict : Dec (leave t.at ≡ leave m.at) → leave t.at < leave m.at
                        strict (yes e) = absurd (none-some (rw e at st).was-basic t.value)
                        strict (no n) = omega arith
