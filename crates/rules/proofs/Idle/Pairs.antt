-- Over pairs, of the answer from any state that is ready: where the verdict is 2, keep the limits that it names and
-- drop any one of them; some pairs meet what is left.
--   named-where      a named limit is the violated one, or its variable has an entry other than 0 in the violated row
--   crossing-met     where limits cross
--   blocked-met      where nothing can move the violated row; no variable then has both its limits named
--   met-from
use mathlib.Core.Bool.{Bool, true, ◌&&◌}
use mathlib.Core.List.{List}
use mathlib.Core.Logic.{inl, inr, ◌≢◌, ◌⊎◌}
use mathlib.Core.Option.{Option, none, some}
use mathlib.Core.Path.{ap, refl, subst, sym, ◌∙◌, ◌≡◌}
use Prim.Native.Nat.{ℕ, ◌<◌}
use native.Mathlib.Decide.{ℕ_discrete}
use native.Mathlib.Omega.{arith}
use lib.IntN.{nat_abs, neg_ℤ, pos, ℤ}
use lib.ListN.{length}
use lib.Signed.{<ℤ_irrefl, <ℤ-≤ℤ_trans, ◌<ℤ◌}
use Rattle.whole.proofs.Values.Beside.{pairs-laws}
use Rattle.whole.proofs.Bools.{and-true}
use Rattle.whole.proofs.Numbers.Order.{<ℤ→≤ℤ, neg-down-back, neg-up-back}
use Rattle.whole.specs.Values.{pairs}
use Rattle.rules.proofs.Idle.Named.{Stopped, crossed-cannot, crossed-named, evidence-cannot, evidence-named}
use Rattle.rules.proofs.Idle.Named.{multipliers_on}
use Rattle.rules.proofs.Answer.Run.{answer-run, crosses-exactly}
use Rattle.rules.proofs.Answer.Cases.{lower-part, upper-part}
use Rattle.rules.proofs.Idle.Alone.{alone-meets}
use Rattle.rules.proofs.Idle.Blocked.{pivot-meets, stay-meets}
use Rattle.rules.proofs.Idle.Kept.{Met, keeping-twice, named-is, other-is}
use Rattle.rules.proofs.Step.Leaving.{left}
use Rattle.rules.proofs.Step.Cases.{Stepped, is-can, is-cannot, is-goes, is-range, stepped}
use Rattle.rules.proofs.Tableau.Relation.{relation-off, relation-own}
use Rattle.rules.specs.Answer.{answer_from, words_of}
use Rattle.rules.specs.Facts.Answer.{laid}
use Rattle.rules.specs.Evidence.{lower_part, upper_part, verdict_of}
use Rattle.rules.specs.Keeping.Idle.{NoBlank, is_named, is_other, multiplier, named, without}
use Rattle.rules.specs.Keeping.Limits.{keeping, limit_of}
use Rattle.rules.specs.Problem.{Problem, vars, word}
use Rattle.rules.specs.Facts.Rule.{Left}
use Rattle.rules.specs.Run.{Ending, after, bound, conflict, ending}
use Rattle.rules.specs.Facts.State.{Ready, Sound}
use Rattle.rules.specs.Step.{Leaving, Outcome, Side, State, above, below, cannot, pull, seat, step}
use Rattle.rules.specs.Tableau.{Tableau, entry, relation}
use Rattle.rules.specs.Facts.Run.{Crosses, TheRun, ended}

-- ---- what is named, of a row that nothing can move

-- no number is stopped on both sides
one_side : (z : ℤ) → Stopped below z → Stopped above z → ⊥
one_side z h k = <ℤ_irrefl (<ℤ-≤ℤ_trans h (<ℤ→≤ℤ k))

-- and 0 on none
not-zero : (σ τ : Side) → Stopped τ (pull σ (pos 0)) → ⊥
unfolding pull
not-zero below below h = <ℤ_irrefl h
not-zero below above h = <ℤ_irrefl h
not-zero above below h = <ℤ_irrefl h
not-zero above above h = <ℤ_irrefl h

-- the violated variable's own entry is minus D, which its violated limit stops
own-side : (d : ℤ) → pos 0 <ℤ d → (σ τ : Side) → Stopped τ (pull σ (neg_ℤ d)) → σ ≡ τ
unfolding pull
own-side d p below below h = refl
own-side d p below above h = absurd (one_side d (neg-down-back d h) p)
own-side d p above below h = absurd (one_side d (neg-down-back d (neg-up-back (neg_ℤ d) h)) p)
own-side d p above above h = refl

named-where : (σ : Side) (r : ℕ) (t : Tableau) → pos 0 <ℤ t.common → (τ : Side) (v : ℕ) →
    Stopped τ (pull σ (relation t r v)) → ((v ≡ r) × (σ ≡ τ)) ⊎ (entry t r v ≢ pos 0)
named-where σ r t p τ v h = go (ℕ_discrete v r)
  where
    go : Dec (v ≡ r) → ((v ≡ r) × (σ ≡ τ)) ⊎ (entry t r v ≢ pos 0)
    go (yes c) = inl (
      c,
      own-side t.common p σ τ
          (subst (λ a. Stopped τ (pull σ a)) (ap (relation t r) c ∙ relation-own t r) h),
    )
    go (no d) = inr (λ z. not-zero σ τ (subst (λ a. Stopped τ (pull σ a)) (relation-off t r v d ∙ z) h))

-- ---- what is left

module _ (P : Problem (ℤ × ℤ)) (a : List ℤ) (σ : Side) (w : ℕ) where
  -- named, and not the one that is dropped
  abbrev on : Side → ℕ → Bool
  on τ v = is_other σ w τ v && is_named (vars P) a τ v

  on-named : (τ : Side) (v : ℕ) → on τ v ≡ true → multiplier (vars P) a τ v ≢ pos 0
  on-named τ v e = named-is (vars P) a τ v (and-true (is_other σ w τ v) (is_named (vars P) a τ v) e).1

  on-other : (τ : Side) (v : ℕ) → on τ v ≡ true → τ ≡ σ → v ≢ w
  on-other τ v e = other-is σ w τ v (and-true (is_other σ w τ v) (is_named (vars P) a τ v) e).0

  left-met : Met pairs (keeping on P) → Met pairs (without σ w (named a P))
  left-met = subst (Met pairs) (sym (keeping-twice (is_other σ w) (is_named (vars P) a) P))

-- ---- limits that cross

module _ (P : Problem (ℤ × ℤ)) (B : NoBlank P) (a : List ℤ) (v : ℕ) (h : v < vars P) (C : Crosses pairs P v)
    (only : (τ : Side) (u : ℕ) → u < vars P → multiplier (vars P) a τ u ≢ pos 0 → u ≡ v) where
  -- the limit on the other side
  abbrev across : Side → ℤ × ℤ
  across below = C.1
  across above = C.0

  same_some : {y z : ℤ × ℤ} → some y ≡ some z → y ≡ z
  same_some e = cc

  is-across : (σ τ : Side) (k : ℤ × ℤ) → (τ ≡ σ → ⊥) → limit_of P τ v ≡ some k → k ≡ across σ
  is-across below below k n e = absurd (n refl)
  is-across below above k n e = same_some (sym e ∙ C.3)
  is-across above below k n e = same_some (sym e ∙ C.2)
  is-across above above k n e = absurd (n refl)

  crossing-met : (σ : Side) (w : ℕ) → w < vars P → multiplier (vars P) a σ w ≢ pos 0 →
      Met pairs (without σ w (named a P))
  crossing-met σ w q n = left-met P a σ w (alone-meets pairs pairs-laws P B v h (across σ) (on P a σ w)
      (λ τ u k p e f. let z : u ≡ v = only τ u p (on-named P a σ w τ u e) in
      (z, is-across σ τ k (λ s. on-other P a σ w τ u e s (z ∙ sym (only σ w q n))) (ap (limit_of P τ) (sym z) ∙ f))))

-- ---- a row that nothing can move

module _ (P : Problem (ℤ × ℤ)) (t : State (ℤ × ℤ)) (S : Sound pairs P t) (a : List ℤ) (r : Leaving (ℤ × ℤ))
    (out : Left pairs P t r)
    (stopped : (τ : Side) (u : ℕ) → u < vars P → multiplier (vars P) a τ u ≢ pos 0 →
    Stopped τ (pull r.side (relation t.tableau r.variable u))) where
  -- a variable with an entry other than 0 is nonbasic
  sits : (v : ℕ) → v < vars P → entry t.tableau r.variable v ≢ pos 0 → (x : ℤ × ℤ) × (seat t v ≡ some x)
  sits v h n = go (seat t v) refl
    where
      go : (o : Option (ℤ × ℤ)) → seat t v ≡ o → (x : ℤ × ℤ) × (seat t v ≡ some x)
      go none e = absurd (n (S.rowed.basic-zero r.variable v out.variable h e))
      go (some x) e = (x, e)

  abbrev Where : Side → ℕ → Type 0
  Where τ v = ((v ≡ r.variable) × (r.side ≡ τ)) ⊎ (entry t.tableau r.variable v ≢ pos 0)

  is-where : (τ : Side) (v : ℕ) → v < vars P → multiplier (vars P) a τ v ≢ pos 0 → Where τ v
  is-where τ v h n = named-where r.side r.variable t.tableau S.rowed.positive τ v (stopped τ v h n)

  -- where both limits of a variable are named, they are one
  both : (τ σ : Side) (v : ℕ) → v < vars P → multiplier (vars P) a τ v ≢ pos 0 → multiplier (vars P) a σ v ≢ pos 0 →
      τ ≡ σ
  both below below v h n m = refl
  both below above v h n m = absurd (one_side _ (stopped below v h n) (stopped above v h m))
  both above below v h n m = absurd (one_side _ (stopped below v h m) (stopped above v h n))
  both above above v h n m = refl

  blocked-met : (σ : Side) (w : ℕ) → w < vars P → multiplier (vars P) a σ w ≢ pos 0 →
      Met pairs (without σ w (named a P))
  blocked-met σ w q n = left-met P a σ w (go (is-where σ w q n))
    where
      -- another limit that is named does not belong to w
      apart : (τ : Side) (v : ℕ) → v < vars P → on P a σ w τ v ≡ true → v ≢ w
      apart τ v h e c = on-other P a σ w τ v e
          (both τ σ w q (λ z. on-named P a σ w τ v e (ap (multiplier (vars P) a τ) c ∙ z)) n) c

      go : Where σ w → Met pairs (keeping (on P a σ w) P)
      go (inl (c, s)) = (
        _,
        _,
        stay-meets pairs pairs-laws P t S r out (on P a σ w) (λ τ v h e.
            stays τ v h e (is-where τ v h (on-named P a σ w τ v e))),
      )
        where
          stays : (τ : Side) (v : ℕ) → v < vars P → on P a σ w τ v ≡ true → Where τ v →
              (x : ℤ × ℤ) × (seat t v ≡ some x)
          stays τ v h e (inl (d, z)) = absurd (apart τ v h e (d ∙ sym c))
          stays τ v h e (inr f) = sits v h f
      go (inr f) = (
        _,
        _,
        pivot-meets pairs pairs-laws P t S r out w q f (on P a σ w) (λ τ v h e.
            moves τ v h e (is-where τ v h (on-named P a σ w τ v e))),
      )
        where
          moves : (τ : Side) (v : ℕ) → v < vars P → on P a σ w τ v ≡ true → Where τ v →
              ((v ≡ r.variable) × (r.side ≡ τ)) ⊎ ((x : ℤ × ℤ) × (seat t v ≡ some x) × (v ≢ w))
          moves τ v h e (inl k) = inl k
          moves τ v h e (inr g) = let (x, y) = sits v h g in inr (x, y, apart τ v h e)

-- ---- the answer

-- the words of an ending with such multipliers, by side
words-named : (P : Problem (ℤ × ℤ)) (e : Ending (ℤ × ℤ)) (ls us : List ℤ) → e.how ≡ cannot ls us → length ls ≡ vars P →
    (τ : Side) (u : ℕ) → u < vars P → multiplier (vars P) (words_of P e) τ u ≡ word (multipliers_on ls us τ) u
unfolding words_of laid
words-named P e ls us q m = go
  where
    is : words_of P e ≡ laid (pos 2) (pos e.pivots) (pos 0) ls us
    is = ap (λ (h : Outcome (ℤ × ℤ)). words_of P (record { how = h; pivots = e.pivots; last = e.last })) q

    go : (τ : Side) (u : ℕ) → u < vars P → multiplier (vars P) (words_of P e) τ u ≡ word (multipliers_on ls us τ) u
    go below u h = ap (λ l. lower_part l u) is ∙ lower-part (pos 2) (pos e.pivots) (pos 0) ls us u (rw m h)
    go above u h =
        ap (λ l. upper_part (vars P) l u) is ∙ upper-part (pos 2) (pos e.pivots) (pos 0) ls us (vars P) u m

-- no other ending has verdict 2
not-two : {A : Type 0} (k : ℕ) → k ≢ 2 → pos k ≡ pos 2 → A
not-two k n e = absurd (n (ap nat_abs e))

module _ (P : Problem (ℤ × ℤ)) (s : State (ℤ × ℤ)) (S : Ready pairs P s) (B : NoBlank P) where
  abbrev Needed : List ℤ → Type 0
  Needed a = (σ : Side) (w : ℕ) → w < vars P → multiplier (vars P) a σ w ≢ pos 0 → Met pairs (without σ w (named a P))

  crossed-from : (v : ℕ) → conflict pairs P ≡ some v → Needed (answer_from P s)
  unfolding answer_from ending
  crossed-from v c =
      let k = (crosses-exactly pairs P v).0 c in
      let (ls, us, e, m) = crossed-cannot pairs (bound P) P s 0 v c in
      crossing-met P B (answer_from P s) v k.0 k.1 (λ τ u q n.
      crossed-named pairs (bound P) P s 0 v c ls us e τ u q (λ z. n (words-named P _ ls us e m τ u q ∙ z)))

  run-from : (R : TheRun P s) → verdict_of (words_of P (ended pairs P s R.count)) ≡ pos 2 →
      Needed (words_of P (ended pairs P s R.count))
  unfolding words_of
  run-from R = go (stepped pairs P t)
    where
      t : State (ℤ × ℤ)
      t = after pairs P s R.count

      at : Outcome (ℤ × ℤ) → List ℤ
      at o = words_of P (record { how = o; pivots = R.count; last = t })

      by : (o : Outcome (ℤ × ℤ)) → step pairs P t ≡ o → (verdict_of (at o) ≡ pos 2 → Needed (at o)) →
          verdict_of (at (step pairs P t)) ≡ pos 2 → Needed (at (step pairs P t))
      by o e f = subst (λ h. verdict_of (at h) ≡ pos 2 → Needed (at h)) (sym e) f

      go : Stepped pairs P t → verdict_of (at (step pairs P t)) ≡ pos 2 → Needed (at (step pairs P t))
      go (is-can q e) = by _ e (λ z. not-two 1 (λ y. let x : ⊥ = omega arith in x) z)
      go (is-cannot r q n e) = by _ e (λ z.
          let (ls, us, f, m) = evidence-cannot (vars P) r.side (relation t.tableau r.variable) in
          blocked-met P t R.sound _ r (left pairs P t r q) (λ τ u h k.
          evidence-named (vars P) r.side (relation t.tableau r.variable) ls us f τ u h (λ y.
          k (words-named P _ ls us f m τ u h ∙ y))))
      go (is-range r w q y f e) = by _ e (λ z. not-two 3 (λ y. let x : ⊥ = omega arith in x) z)
      go (is-goes r w q y f e) = by _ e (λ z. not-two 0 (λ y. let x : ⊥ = omega arith in x) z)

  pub met-from : verdict_of (answer_from P s) ≡ pos 2 → Needed (answer_from P s)
  met-from = go (conflict pairs P) refl
    where
      go : (o : Option ℕ) → conflict pairs P ≡ o → verdict_of (answer_from P s) ≡ pos 2 → Needed (answer_from P s)
      go (some v) c e = crossed-from v c
      go none c e = let R = answer-run P s c S in
          subst Needed (sym R.words) (run-from R (subst (λ a. verdict_of a ≡ pos 2) R.words e))
