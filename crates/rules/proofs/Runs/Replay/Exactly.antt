-- A trace against the run from any state: each answer is given exactly where its facts hold.
--   end-accepted, end-past   where the run is over: a trace that is too, or one with a step more
--   walked           steps that agree are passed
--   replay-told      every trace has an answer whose facts hold
--   replay-is        an answer whose facts hold is the one that is given
--   replay-exactly   both
use mathlib.Core.Logic.{◌↔◌}
use mathlib.Core.Option.{Option, none, some}
use mathlib.Core.Path.{ap, refl, subst, sym, ◌∙◌, ◌≡◌}
use Prim.Native.Nat.{suc, zero, ℕ, ◌+◌, ◌-◌, ◌<◌, ◌≤◌}
use native.Mathlib.Decide.{dec_lt, ℕ_discrete}
use native.Mathlib.Omega.{arith}
use Rattle.whole.specs.Values.{Values}
use Rattle.rules.proofs.Run.Once.{next-after}
use Rattle.rules.proofs.Runs.Replay.Words.{Compares, differs-some, found, same_none}
use Rattle.rules.specs.Facts.Runs.Replay.{SameFront, ReplayIs}
use Rattle.rules.specs.Problem.{Problem}
use Rattle.rules.specs.Run.{Ended, Ends, after}
use Rattle.rules.specs.Runs.Replay.{Replayed, StepWord, TraceStep, accepted, against, at_end, early}
use Rattle.rules.specs.Runs.Replay.{first_wrong, past, replayed_from, step_words, unless, wrong}
use Rattle.rules.specs.Runs.Trace.{run_step}
use Rattle.rules.specs.Step.{Outcome, State, can, cannot, goes, range, step}

module _ {X : Type 0} where
  pub end-accepted : (o : Outcome X) → Ended o → at_end o ≡ accepted
  end-accepted can d = refl
  end-accepted (cannot ls us) d = refl
  end-accepted range d = refl
  end-accepted (goes t) d = absurd d

  pub end-past : (o : Outcome X) (g : State X → Replayed) → Ended o → against o g ≡ past
  end-past can g d = refl
  end-past (cannot ls us) g d = refl
  end-past range g d = refl
  end-past (goes t) g d = absurd d

module _ {X : Type 0} (𝓥 : Values X) (P : Problem X) (s : State X) (c : ℕ) (E : Ends 𝓥 P s c) (f : ℕ → TraceStep)
    (steps : ℕ) where
  abbrev own : ℕ → TraceStep
  own = run_step 𝓥 P s

  abbrev at : ℕ → State X
  at k = after 𝓥 P s k

  abbrev Is : Replayed → Type 0
  Is = ReplayIs c own f steps

  -- ---- what is answered at step k, with so many steps left in the trace

  no_more_lem : (k : ℕ) → k ≡ c → replayed_from 𝓥 P (at k) f k 0 ≡ accepted
  unfolding replayed_from
  no_more_lem k e = end-accepted (step 𝓥 P (at k)) (rw e E.ended)

  still-on : (k : ℕ) → k < c → replayed_from 𝓥 P (at k) f k 0 ≡ early
  unfolding replayed_from
  still-on k h = ap at_end (next-after 𝓥 P s k (E.runs k h))

  over-before : (k more : ℕ) → k ≡ c → replayed_from 𝓥 P (at k) f k (suc more) ≡ past
  unfolding replayed_from
  over-before k more e = end-past (step 𝓥 P (at k)) _ (rw e E.ended)

  one-step : (k more : ℕ) → k < c → replayed_from 𝓥 P (at k) f k (suc more)
      ≡ unless (first_wrong (own k) (f k)) k (replayed_from 𝓥 P (at (suc k)) f (suc k) more)
  unfolding replayed_from
  one-step k more h = ap (λ o. against o (λ t.
      unless (first_wrong (step_words 𝓥 P (at k) t) (f k)) k (replayed_from 𝓥 P t f (suc k) more)))
      (next-after 𝓥 P s k (E.runs k h))

  same_step : (k more : ℕ) → k < c → f k ≡ own k →
      replayed_from 𝓥 P (at k) f k (suc more) ≡ replayed_from 𝓥 P (at (suc k)) f (suc k) more
  same_step k more h e = one-step k more h
      ∙ ap (λ w. unless w k (replayed_from 𝓥 P (at (suc k)) f (suc k) more))
      (ap (first_wrong (own k)) e ∙ same_none (own k))

  other_step : (k more : ℕ) (w : StepWord) → k < c → first_wrong (own k) (f k) ≡ some w →
      replayed_from 𝓥 P (at k) f k (suc more) ≡ wrong k w
  other_step k more w h e = one-step k more h
      ∙ ap (λ o. unless o k (replayed_from 𝓥 P (at (suc k)) f (suc k) more)) e

  -- ---- the answer that is given

  walked : (j : ℕ) → j ≤ c → j ≤ steps → SameFront c own f steps j →
      replayed_from 𝓥 P s f 0 steps ≡ replayed_from 𝓥 P (at j) f j (steps - j)
  unfolding after
  walked zero h k a = ap (replayed_from 𝓥 P s f 0) (let z : steps ≡ steps - 0 = omega arith in z)
  walked (suc j) h k a = walked j (omega arith) (omega arith) (λ i l. a i (omega arith))
      ∙ ap (replayed_from 𝓥 P (at j) f j) (let z : steps - j ≡ suc (steps - suc j) = omega arith in z)
      ∙ same_step j (steps - suc j) (omega arith) (a j (omega arith))

  replay-is : (r : Replayed) → Is r → replayed_from 𝓥 P s f 0 steps ≡ r
  replay-is accepted A = let e = A.as_many in walked steps (omega arith) (omega arith) A.each
      ∙ ap (replayed_from 𝓥 P (at steps) f steps) (let z : steps - steps ≡ 0 = omega arith in z) ∙ no_more_lem steps e
  replay-is early A = let h = A.fewer in walked steps (omega arith) (omega arith) A.each
      ∙ ap (replayed_from 𝓥 P (at steps) f steps) (let z : steps - steps ≡ 0 = omega arith in z) ∙ still-on steps h
  replay-is past A = let h = A.more in walked c (omega arith) (omega arith) A.each
      ∙ ap (replayed_from 𝓥 P (at c) f c) (let z : steps - c ≡ suc (steps - suc c) = omega arith in z)
      ∙ over-before c (steps - suc c) refl
  replay-is (wrong k w) A = let h = A.in-run in let l = A.in-trace in walked k (omega arith) (omega arith) A.each
      ∙ ap (replayed_from 𝓥 P (at k) f k) (let z : steps - k ≡ suc (steps - suc k) = omega arith in z)
      ∙ other_step k (steps - suc k) w h (differs-some w (own k) (f k) A.differs)

  told-from : (more k : ℕ) → k + more ≡ steps → k ≤ c → SameFront c own f steps k →
      Is (replayed_from 𝓥 P (at k) f k more)
  told-from zero k e h a = go (dec_lt k c)
    where
      whole : SameFront c own f steps steps
      whole i l = a i (omega arith)

      go : Dec (k < c) → Is (replayed_from 𝓥 P (at k) f k 0)
      go (yes l) = subst Is (sym (still-on k l)) (record { fewer = omega arith; each = whole })
      go (no n) = subst Is (sym (no_more_lem k (omega arith))) (record { as_many = omega arith; each = whole })
  told-from (suc more) k e h a = go (dec_lt k c) (first_wrong (own k) (f k)) refl (found (own k) (f k))
      (λ l b. told-from more (suc k) (omega arith) l b)
    where
      with-one : f k ≡ own k → SameFront c own f steps (suc k)
      with-one q i l = by (ℕ_discrete i k)
        where
          by : Dec (i ≡ k) → f i ≡ own i
          by (yes z) = rw z q
          by (no n) = a i (omega arith)

      go : Dec (k < c) → (o : Option StepWord) → first_wrong (own k) (f k) ≡ o → Compares o (own k) (f k) →
          (suc k ≤ c → SameFront c own f steps (suc k) → Is (replayed_from 𝓥 P (at (suc k)) f (suc k) more)) →
          Is (replayed_from 𝓥 P (at k) f k (suc more))
      go (yes l) none q d rest = subst Is (sym (same_step k more l (sym d))) (rest (omega arith) (with-one (sym d)))
      go (yes l) (some w) q d rest = subst Is (sym (other_step k more w l q))
          (record { in-run = l; in-trace = omega arith; each = a; differs = d })
      go (no n) o q d rest = let z : k ≡ c = omega arith in subst Is (sym (over-before k more z))
          (record { more = omega arith; each = λ i l. a i (omega arith) })

  replay-told : Is (replayed_from 𝓥 P s f 0 steps)
  unfolding after
  replay-told = told-from steps 0 (omega arith) (omega arith) (λ i l. let z : ⊥ = omega arith in absurd z)

  pub replay-exactly : (r : Replayed) → (replayed_from 𝓥 P s f 0 steps ≡ r) ↔ Is r
  replay-exactly r = (λ e. subst Is e replay-told, replay-is r)
