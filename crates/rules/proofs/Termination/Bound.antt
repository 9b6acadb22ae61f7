-- The count of pivots from a sound state with n seated is below 3^n times the ways to choose n: each arrangement of the
-- run seats as many variables, each at one of three values (its first, its lower limit, its upper limit), and none
-- comes twice.
--   seated-moved   a move seats as many variables
--   below-bound    demand 3, second half, from any sound state
--   bound_some     the bound is above 0: there is a way to choose n of m + n
--   bound-small    and at most a number of the sizes
use mathlib.Core.List.{List, [], ◌∷◌}
use mathlib.Core.Logic.{inl, inr, ◌≢◌}
use mathlib.Core.Option.{Option, none-ne-some, none, some}
use mathlib.Core.Path.{ap, refl, sym, ◌∙◌, ◌≡◌}
use Prim.Native.Nat.{suc, zero, ℕ, ◌+◌, ◌<◌, ◌^◌, ◌≤◌}
use native.Mathlib.Decide.{dec_lt, ℕ_discrete}
use native.Mathlib.Nat.{le_trans, mul-le-mul, mul-pos, one-le-pow, pow-le-pow_right, two-pow-succ}
use native.Mathlib.Omega.{arith}
use lib.ListN.{get_or-eq_default, get_or, length, length-set, set}
use lib.Seq.{get_or-set_other}
use Rattle.whole.proofs.Lists.Tables.{table_at, table_from-length}
use Rattle.whole.specs.Tables.{table}
use Rattle.whole.specs.Values.{Laws, Values}
use Rattle.rules.proofs.Termination.Arrangements.{Fits, OneOf, Three, at-most}
use Rattle.rules.proofs.Step.Entering.{entered, swap}
use Rattle.rules.proofs.Step.Leaving.{left}
use Rattle.rules.proofs.Run.Steady.{sound-after, twice-never}
use Rattle.rules.proofs.Step.Cases.{step-goes}
use Rattle.rules.specs.Problem.{Problem, vars}
use Rattle.rules.specs.Facts.Rule.{Entered, Left, Outside, Swap, too-high, too-low}
use Rattle.rules.specs.Run.{Runs, after, bound, choose, most_count, next}
use Rattle.rules.specs.Sizes.{most_columns, most_rows, most_variables}
use Rattle.rules.specs.Facts.State.{Apart, Rowed, Sound, how_many_seated}
use Rattle.rules.specs.Step.{Leaving, Outcome, Side, State, can, cannot, goes, limit_at, moved, range, seat}
use Rattle.rules.specs.Step.{seated, step}

module _ {X : Type 0} where
  fits : (l : List (Option X)) (cs : List (Three X)) (d : Three X) → length l ≡ length cs →
      ((v : ℕ) (x : X) → get_or l v none ≡ some x → OneOf x (get_or cs v d)) → Fits l cs (how_many_seated l)
  fits [] [] d e f = tt
  fits [] (c ∷ cs) d e f = let z : ⊥ = omega arith in absurd z
  fits (o ∷ l) [] d e f = let z : ⊥ = omega arith in absurd z
  fits (none ∷ l) (c ∷ cs) d e f = fits l cs d (omega arith) (λ v x h. f (suc v) x h)
  fits (some x ∷ l) (c ∷ cs) d e f = (f 0 x refl, fits l cs d (omega arith) (λ v x h. f (suc v) x h))

  one_less : (l : List (Option X)) (w : ℕ) (y : X) → get_or l w none ≡ some y →
      how_many_seated l ≡ suc (how_many_seated (set l w none))
  one_less [] w y e = absurd (none-ne-some y e)
  one_less (none ∷ l) zero y e = absurd (none-ne-some y e)
  one_less (some x ∷ l) zero y e = refl
  one_less (none ∷ l) (suc w) y e = one_less l w y e
  one_less (some x ∷ l) (suc w) y e = ap suc (one_less l w y e)

  one_more_lem : (l : List (Option X)) (q : ℕ) (x : X) → q < length l → get_or l q none ≡ none →
      how_many_seated (set l q (some x)) ≡ suc (how_many_seated l)
  one_more_lem [] q x h e = let z : ⊥ = omega arith in absurd z
  one_more_lem (none ∷ l) zero x h e = refl
  one_more_lem (some y ∷ l) zero x h e = absurd (none-ne-some y (sym e))
  one_more_lem (none ∷ l) (suc q) x h e = one_more_lem l q x (omega arith) e
  one_more_lem (some y ∷ l) (suc q) x h e = ap suc (one_more_lem l q x (omega arith) e)

module _ {X : Type 0} (𝓥 : Values X) where
  -- a variable's three values in a run from s
  abbrev values_of : Problem X → State X → ℕ → Three X
  values_of P s v = record { one = seated 𝓥 (seat s v); two = seated 𝓥 (P.lower v); three = seated 𝓥 (P.upper v) }

  record Among (P : Problem X) (s t : State X) : Type 0 where
    as_many : how_many_seated t.seats ≡ how_many_seated s.seats
    values : (v : ℕ) (x : X) → seat t v ≡ some x → OneOf x (values_of P s v)

  among-start : (P : Problem X) (s : State X) → Among P s s
  unfolding seated
  among-start P s = record { as_many = refl; values = λ v x e. inl (rw e refl) }

  limit-value : (P : Problem X) (s t : State X) (v : ℕ) {σ : Side} {x : X} → Outside 𝓥 P t v σ x →
      OneOf x (values_of P s v)
  unfolding seated
  limit-value P s t v (too-low e h) = inr (inl (rw e refl))
  limit-value P s t v (too-high e h) = inr (inr (rw e refl))

  -- as many are seated after a move
  pub seated-moved : (P : Problem X) (t : State X) → Rowed 𝓥 P t → (r : Leaving X) (w : ℕ) → Left 𝓥 P t r →
      Entered 𝓥 P t r w →
      how_many_seated (moved 𝓥 P t r w).seats ≡ how_many_seated t.seats
  unfolding moved
  seated-moved P t S r w L E =
      one_more_lem (set t.seats w none) r.variable (limit_at 𝓥 P r) (rw (length-set, S.seats-many) L.variable)
      (get_or-set_other t.seats w r.variable none none q-not-w ∙ L.was-basic)
      ∙ sym (one_less t.seats w E.value E.was-seated)
    where
      q-not-w : r.variable ≢ w
      q-not-w e = none-ne-some E.value (sym L.was-basic ∙ (rw (← e) at E.was-seated))

  module _ (P : Problem X) (s t : State X) (S : Sound 𝓥 P t) (A : Among P s t)
      (r : Leaving X) (w : ℕ) (L : Left 𝓥 P t r)
      (E : Entered 𝓥 P t r w) where
    W : Swap (seat t) (seat (moved 𝓥 P t r w)) r.variable w (limit_at 𝓥 P r)
    W = swap 𝓥 P t r w S.rowed.seats-many L E

    among-moved : Among P s (moved 𝓥 P t r w)
    among-moved = record {
      as_many = seated-moved P t S.rowed r w L E ∙ A.as_many;
      values = λ v x e. go v x e (ℕ_discrete v r.variable) (ℕ_discrete v w);
    }
      where
        go : (v : ℕ) (x : X) → seat (moved 𝓥 P t r w) v ≡ some x → Dec (v ≡ r.variable) → Dec (v ≡ w) →
            OneOf x (values_of P s v)
        go v x e (yes z) d =
            let a : some (limit_at 𝓥 P r) ≡ some x = sym W.set_to ∙ (rw z at e) in
            let b : limit_at 𝓥 P r ≡ x = cc in
            rw (z, ← b) (limit-value P s t r.variable L.outside)
        go v x e (no n) (yes z) = absurd (none-ne-some x (sym W.now-basic ∙ (rw z at e)))
        go v x e (no n) (no m) = A.values v x (sym (W.others v n m) ∙ e)

  among_next : (P : Problem X) (s t : State X) (o : Outcome X) → Sound 𝓥 P t → Among P s t → step 𝓥 P t ≡ o →
      Among P s (next t o)
  unfolding next
  among_next P s t can S A e = A
  among_next P s t (cannot ls us) S A e = A
  among_next P s t range S A e = A
  among_next P s t (goes u) S A e = let g = step-goes 𝓥 P t u e in
      rw g.next-is (among-moved P s t S A g.out g.into (left 𝓥 P t g.out g.leaves)
      (entered 𝓥 P t g.out g.into g.enters))

  among-after : Laws 𝓥 → (P : Problem X) (s : State X) → Apart 𝓥 P → Sound 𝓥 P s → (k : ℕ) → Among P s (after 𝓥 P s k)
  unfolding after
  among-after law P s A S zero = among-start P s
  among-after law P s A S (suc k) = among_next P s (after 𝓥 P s k) (step 𝓥 P (after 𝓥 P s k))
      (sound-after 𝓥 law P s A S k) (among-after law P s A S k) refl

  module _ (law : Laws 𝓥) (P : Problem X) (s : State X) (A : Apart 𝓥 P) (S : Sound 𝓥 P s)
      (n : how_many_seated s.seats ≡ P.n) where
    choices : List (Three X)
    choices = table (vars P) (values_of P s)

    many-choices : length choices ≡ vars P
    unfolding choices
    many-choices = table_from-length 0 (vars P) (values_of P s)

    fits_after_lem : (k : ℕ) → Fits (after 𝓥 P s k).seats choices P.n
    unfolding choices
    fits_after_lem k =
        let B = among-after law P s A S k in
        rw (B.as_many ∙ n) at (fits (after 𝓥 P s k).seats choices (values_of P s 0)
        ((sound-after 𝓥 law P s A S k).rowed.seats-many ∙ sym many-choices)
        (λ v x e. one_of v x e (dec_lt v (vars P)) (B.values v x e)))
      where
        one_of : (v : ℕ) (x : X) → seat (after 𝓥 P s k) v ≡ some x → Dec (v < vars P) → OneOf x (values_of P s v) →
            OneOf x (get_or choices v (values_of P s 0))
        one_of v x e (yes h) o = rw (table_at (vars P) (values_of P s) (values_of P s 0) v h) o
        one_of v x e (no h) o = let z : length (after 𝓥 P s k).seats ≡ vars P = (sound-after 𝓥 law P s A S
            k).rowed.seats-many in
            absurd (none-ne-some x
            (sym (get_or-eq_default (after 𝓥 P s k).seats none {n = v} (omega arith)) ∙ e))

    pub below-bound : (k : ℕ) → Runs 𝓥 P s k → k < bound P
    unfolding bound
    below-bound k runs = rw many-choices at (at-most choices P.n (suc k) (λ i. (after 𝓥 P s i).seats) fits_after_lem
        (λ p q h g. twice-never 𝓥 law P s A S p q h (λ i u. runs i (omega arith))))

-- ---- the bound is above 0

power-some : (n : ℕ) → 0 < 3 ^ n
power-some zero = omega arith
power-some (suc n) = let r : 0 < 3 ^ n = power-some n in omega arith

choose-some : (k j : ℕ) → j ≤ k → 0 < choose k j
unfolding choose
choose-some k zero h = omega arith
choose-some zero (suc j) h = let z : ⊥ = omega arith in absurd z
choose-some (suc k) (suc j) h = let r : 0 < choose k j = choose-some k j (omega arith) in omega arith

pub bound_some : {X : Type 0} (P : Problem X) → 0 < bound P
unfolding bound
bound_some P = mul-pos (power-some P.n) (choose-some (vars P) P.n (omega arith))

-- ---- the bound by the sizes

choose-most : (k j : ℕ) → choose k j ≤ 2 ^ k
unfolding choose
choose-most k zero = one-le-pow k 2 (omega arith)
choose-most zero (suc j) = omega arith
choose-most (suc k) (suc j) = let a = choose-most k (suc j) in let b = choose-most k j in omega (arith, two-pow-succ k)

pub bound-small : {X : Type 0} (P : Problem X) → P.m ≤ most_rows → P.n ≤ most_columns → bound P ≤ most_count
unfolding bound
bound-small P h k = mul-le-mul (pow-le-pow_right {n = 3} (omega arith) k)
    (le_trans (choose-most (P.n + P.m) P.n)
    (pow-le-pow_right {n = 2} (omega arith) {j = most_variables} (omega arith)))
