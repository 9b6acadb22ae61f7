-- The start of the rules: its rows hold, its values are within limits that do not cross, and it is sound where none do.
--   at-start, common-one, seat-start, seated-problem, basic-row    what stands where at the start
--   rowed-start, housed-start, sound-start
--   uncrossed, no-conflict                             limits that do not cross; no crossed limits: `Apart`
use mathlib.Core.Bool.{false}
use mathlib.Core.Option.{Option, none-ne-some, none, some}
use mathlib.Core.Path.{ap, refl, sym, ◌∙◌, ◌≡◌}
use Prim.Native.Nat.{ℕ, ◌+◌, ◌-◌, ◌<◌, ◌≤◌}
use native.Mathlib.Decide.{dec_lt}
use native.Mathlib.Omega.{arith}
use lib.IntN.{*ℤ-zero, pos, zero-*ℤ, ℤ, ◌*ℤ◌}
use Rattle.whole.proofs.Lists.Below.{none_passes}
use Rattle.whole.proofs.Ring.Laws.{*ℤ-idl, *ℤ-idr}
use Rattle.whole.proofs.Numbers.Sums.{sum-front, sum_one, sum_same, sum-zero}
use Rattle.whole.proofs.Lists.Tables.{matrix-at, table_at, table_from-length}
use Rattle.whole.proofs.Values.Laws.{le_refl}
use Rattle.whole.specs.Sums.{sum}
use Rattle.whole.specs.Values.{Laws, Le, Values, whole}
use Rattle.rules.proofs.Run.Begin.{value-so}
use Rattle.rules.proofs.Run.State.{sound-of}
use Rattle.rules.proofs.Tableau.Units.{ge-false, lt-true, problem-row, row-row, same-off, same_self}
use Rattle.rules.specs.Evidence.{Rows}
use Rattle.rules.specs.Problem.{Problem, vars}
use Rattle.rules.specs.Run.{conflict, crossed}
use Rattle.rules.specs.Facts.Run.{StartsAt, at_high, at_low, at-nil}
use Rattle.rules.specs.Facts.State.{Apart, Housed, Rowed, Sound}
use Rattle.rules.specs.Step.{common, same, seat, start, start_entry, start_seat, start_value}
use Rattle.rules.specs.Tableau.{entry}

module _ {X : Type 0} (𝓥 : Values X) where
  module _ (P : Problem X) where
    pub at-start : (v w : ℕ) → v < vars P → w < vars P → entry (start 𝓥 P).tableau v w ≡ start_entry P v w
    unfolding start
    at-start v w h k = matrix-at (vars P) (start_entry P) v w h k

    pub seat-start : (v : ℕ) → v < vars P → seat (start 𝓥 P) v ≡ start_seat 𝓥 P v
    unfolding start
    seat-start v h = table_at (vars P) (start_seat 𝓥 P) none v h

    row_zero : (v w : ℕ) → P.n ≤ v → P.n ≤ w → start_entry P v w ≡ pos 0
    unfolding start_entry
    row_zero v w h k = rw (ge-false h, ge-false k) refl

    pub seated-problem : (v : ℕ) (x : X) → start_seat 𝓥 P v ≡ some x →
        (v < P.n) × (x ≡ start_value 𝓥 (P.lower v) (P.upper v))
    unfolding start_seat
    seated-problem v x e = go (dec_lt v P.n)
      where
        go : Dec (v < P.n) → (v < P.n) × (x ≡ start_value 𝓥 (P.lower v) (P.upper v))
        go (yes h) = let a : some (start_value 𝓥 (P.lower v) (P.upper v)) ≡ some x = rw (lt-true h, start_seat) at e in
            (h, (cc))
        go (no n) = absurd (none-ne-some x (rw (ge-false {a = v} {b = P.n} (omega arith), start_seat) at e))

    pub basic-row : (v : ℕ) → start_seat 𝓥 P v ≡ none → P.n ≤ v
    unfolding start_seat
    basic-row v e = go (dec_lt v P.n)
      where
        go : Dec (v < P.n) → P.n ≤ v
        go (yes h) = absurd (none-ne-some (start_value 𝓥 (P.lower v) (P.upper v))
            (sym (rw (lt-true h, start_seat) at e)))
        go (no n) = omega arith

    columns-start : (w : ℕ) → w < vars P → Rows whole P (λ v. entry (start 𝓥 P).tableau v w)
    columns-start w k i h = at-start (P.n + i) w (omega arith) k ∙ go (dec_lt w P.n)
        ∙ sum_same P.n (λ j. P.coefficient i j *ℤ same j w) _
        (λ j q. ap (λ e. P.coefficient i j *ℤ e) (sym (at-start j w (omega arith) k ∙ problem-row P j w q)))
      where
        go : Dec (w < P.n) → start_entry P (P.n + i) w ≡ sum P.n (λ j. P.coefficient i j *ℤ same j w)
        go (yes q) = row-row P i w q ∙ sym (sum_one P.n w (λ j. P.coefficient i j *ℤ same j w) q
            (λ j g d. rw (same-off j w d) (*ℤ-zero (P.coefficient i j)))
            ∙ (rw (same_self w) (*ℤ-idr (P.coefficient i w))))
        go (no n) = row_zero (P.n + i) w (omega arith) (omega arith)
            ∙ sym (sum-zero P.n (λ j. P.coefficient i j *ℤ same j w)
            (λ j g. rw (same-off j w (λ e. let z : ⊥ = omega arith in z)) (*ℤ-zero (P.coefficient i j))))

    holds-start : (x : ℕ → ℤ) → Rows whole P x → (v : ℕ) → v < vars P →
        common (start 𝓥 P) *ℤ x v ≡ sum (vars P) (λ u. entry (start 𝓥 P).tableau v u *ℤ x u)
    unfolding start
    holds-start x X v h = *ℤ-idl (x v) ∙ go (dec_lt v P.n)
        ∙ sym (sum_same (vars P) _ (λ u. start_entry P v u *ℤ x u) (λ u k. ap (λ e. e *ℤ x u) (at-start v u h k)))
      where
        go : Dec (v < P.n) → x v ≡ sum (vars P) (λ u. start_entry P v u *ℤ x u)
        go (yes q) = sym (sum_one (vars P) v (λ u. start_entry P v u *ℤ x u) h
            (λ u k d. rw (problem-row P v u q, same-off v u (λ e. d (sym e))) (zero-*ℤ (x u)))
            ∙ (rw (problem-row P v v q, same_self v) (*ℤ-idl (x v))))
        go (no n) = row (v - P.n) (let z : P.n + (v - P.n) ≡ v = omega arith in z)
          where
            row : (i : ℕ) → P.n + i ≡ v → x v ≡ sum (vars P) (λ u. start_entry P v u *ℤ x u)
            row i e = rw (← e) (X i (omega arith)
                ∙ sum_same P.n (λ j. P.coefficient i j *ℤ x j) (λ u. start_entry P (P.n + i) u *ℤ x u)
                (λ j q. ap (λ z. z *ℤ x j) (sym (row-row P i j q)))
                ∙ sym (sum-front P.n P.m (λ u. start_entry P (P.n + i) u *ℤ x u)
                (λ u k. rw (row_zero (P.n + i) u (omega arith) k) (zero-*ℤ (x u)))))

  pub uncrossed : (o p : Option X) → crossed 𝓥 o p ≡ false → (l u : X) → o ≡ some l → p ≡ some u → Le 𝓥 l u
  unfolding crossed
  uncrossed o p q l u a b = rw (a, b) at q

  value_low : Laws 𝓥 → (o p : Option X) (l : X) → ((k u : X) → o ≡ some k → p ≡ some u → Le 𝓥 k u) → o ≡ some l →
      Le 𝓥 l (start_value 𝓥 o p)
  value_low law o p l a e = go (value-so 𝓥 o p)
    where
      go : StartsAt 𝓥 o p (start_value 𝓥 o p) → Le 𝓥 l (start_value 𝓥 o p)
      go (at-nil f g z) = rw z (f l e)
      go (at_low k q h z) = let y : l ≡ start_value 𝓥 o p = cc in rw (← y) (le_refl law l)
      go (at_high u q h f z) = rw z (a l u e q)

  value-high : Laws 𝓥 → (o p : Option X) (u : X) → ((k u : X) → o ≡ some k → p ≡ some u → Le 𝓥 k u) → p ≡ some u →
      Le 𝓥 (start_value 𝓥 o p) u
  value-high law o p u a e = go (value-so 𝓥 o p)
    where
      go : StartsAt 𝓥 o p (start_value 𝓥 o p) → Le 𝓥 (start_value 𝓥 o p) u
      go (at-nil f g z) = rw z (g u e)
      go (at_low k q h z) = rw z (a k u q e)
      go (at_high w q h f z) = let y : u ≡ start_value 𝓥 o p = cc in rw (← y) (le_refl law u)

  module _ (P : Problem X) where
    placed : (v : ℕ) (x : X) → v < vars P → seat (start 𝓥 P) v ≡ some x →
        (v < P.n) × (x ≡ start_value 𝓥 (P.lower v) (P.upper v))
    placed v x h e = seated-problem P v x (sym (seat-start P v h) ∙ e)

    pub common-one : common (start 𝓥 P) ≡ pos 1
    unfolding start
    common-one = refl

    pub rowed-start : Rowed 𝓥 P (start 𝓥 P)
    rowed-start = record {
      seats-many = unfold start in (table_from-length 0 (vars P) (start_seat 𝓥 P));
      positive = rw common-one (record { lt = tt });
      columns = columns-start P;
      holds = holds-start P;
      basic-zero = λ v w h k e. at-start P v w h k
          ∙ zeros v w (basic-row P w (sym (seat-start P w k) ∙ e)) (dec_lt v P.n);
      own = λ v x h e. at-start P v v h h ∙ problem-row P v v (placed v x h e).0 ∙ same_self v ∙ sym common-one;
      own-zero = λ v w x h k e d. at-start P v w h k ∙ problem-row P v w (placed v x h e).0
          ∙ same-off v w (λ z. d (sym z));
    }
      where
        zeros : (v w : ℕ) → P.n ≤ w → Dec (v < P.n) → start_entry P v w ≡ pos 0
        zeros v w k (yes q) = problem-row P v w q ∙ same-off v w (λ e. let z : ⊥ = omega arith in z)
        zeros v w k (no n) = row_zero P v w (omega arith) k

    pub housed-start : Laws 𝓥 → Housed 𝓥 P (start 𝓥 P)
    housed-start law = record {
      low = λ v x l h c e k. rw (placed v x h e).1
          (value_low law (P.lower v) (P.upper v) l (uncrossed (P.lower v) (P.upper v) c) k);
      high = λ v x u h c e k. rw (placed v x h e).1
          (value-high law (P.lower v) (P.upper v) u (uncrossed (P.lower v) (P.upper v) c) k);
    }

    pub sound-start : Laws 𝓥 → Apart 𝓥 P → Sound 𝓥 P (start 𝓥 P)
    sound-start law A = sound-of 𝓥 P (start 𝓥 P) A rowed-start (housed-start law)

  -- no conflict at the start: the limits are apart
  pub no-conflict : (P : Problem X) → conflict 𝓥 P ≡ none → Apart 𝓥 P
  unfolding conflict
  no-conflict P e v l u h = uncrossed (P.lower v) (P.upper v)
      ((none_passes (vars P) (λ v. crossed 𝓥 (P.lower v) (P.upper v))).0 e v h) l u
