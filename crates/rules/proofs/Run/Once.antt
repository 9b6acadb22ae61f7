-- The run, of any step: it ends once, slices of it join, and the fuelled `run` answers what it comes to.
--   ends-only, slices-join, next-after, run_is
use mathlib.Core.Path.{refl, ◌∙◌, ◌≡◌}
use Prim.Native.Nat.{suc, zero, ℕ, ◌+◌, ◌<◌, ◌≤◌}
use native.Mathlib.Decide.{dec_lt}
use native.Mathlib.Nat.{add-suc, add-zero}
use native.Mathlib.Omega.{arith}
use Rattle.whole.specs.Values.{Values}
use Rattle.rules.specs.Problem.{Problem}
use Rattle.rules.specs.Run.{Ended, Ends, Moves, after, next, run}
use Rattle.rules.specs.Step.{Outcome, State, can, cannot, goes, range, step}

module _ {X : Type 0} (𝓥 : Values X) where
  moves-not-ended : (o : Outcome X) → Moves o → Ended o → ⊥
  moves-not-ended can m e = m
  moves-not-ended (cannot ls us) m e = m
  moves-not-ended range m e = m
  moves-not-ended (goes t) m e = e

  -- a run ends once
  pub ends-only : (P : Problem X) (s : State X) (k j : ℕ) → Ends 𝓥 P s k → Ends 𝓥 P s j → k ≡ j
  ends-only P s k j a b = go (dec_lt k j) (dec_lt j k)
    where
      go : Dec (k < j) → Dec (j < k) → k ≡ j
      go (yes h) g = absurd (moves-not-ended (step 𝓥 P (after 𝓥 P s k)) (b.runs k h) a.ended)
      go (no h) (yes g) = absurd (moves-not-ended (step 𝓥 P (after 𝓥 P s j)) (a.runs j g) b.ended)
      go (no h) (no g) = omega arith

  -- k steps, then c steps
  slices-join : (P : Problem X) (s : State X) (k c : ℕ) → after 𝓥 P (after 𝓥 P s k) c ≡ after 𝓥 P s (k + c)
  unfolding after
  slices-join P s k zero = rw add-zero refl
  slices-join P s k (suc c) = rw (slices-join P s k c, add-suc) refl

  -- an outcome that moves is `goes` of the next state
  goes-next : (s : State X) (o : Outcome X) → Moves o → o ≡ goes (next s o)
  unfolding next
  goes-next s can m = absurd m
  goes-next s (cannot ls us) m = absurd m
  goes-next s range m = absurd m
  goes-next s (goes t) m = refl

  pub run_end : (f : ℕ) (P : Problem X) (s : State X) (k : ℕ) (o : Outcome X) → step 𝓥 P s ≡ o → Ended o →
      run 𝓥 f P s k ≡ record { how = o; pivots = k; last = s }
  unfolding run
  run_end zero P s k o e h = rw e
  run_end (suc f) P s k can e h = rw (e, run)
  run_end (suc f) P s k (cannot ls us) e h = rw (e, run)
  run_end (suc f) P s k range e h = rw (e, run)
  run_end (suc f) P s k (goes t) e h = absurd h

  pub run_on : (f : ℕ) (P : Problem X) (s t : State X) (k : ℕ) → step 𝓥 P s ≡ goes t →
      run 𝓥 (suc f) P s k ≡ run 𝓥 f P t (suc k)
  unfolding run
  run_on f P s t k e = rw (e, run)

  pub next-after : (P : Problem X) (s : State X) (i : ℕ) → Moves (step 𝓥 P (after 𝓥 P s i)) →
      step 𝓥 P (after 𝓥 P s i) ≡ goes (after 𝓥 P s (suc i))
  unfolding after
  next-after P s i m = goes-next (after 𝓥 P s i) (step 𝓥 P (after 𝓥 P s i)) m

  pub run-from : (d f i k : ℕ) (P : Problem X) (s : State X) → i + d ≡ k → d ≤ f → Ends 𝓥 P s k →
      run 𝓥 f P (after 𝓥 P s i) i ≡ record { how = step 𝓥 P (after 𝓥 P s k); pivots = k; last = after 𝓥 P s k }
  run-from zero f i k P s q h e = let z : i ≡ k = omega arith in rw z (run_end f P (after 𝓥 P s k) k _ refl e.ended)
  run-from (suc d) zero i k P s q h e = let z : ⊥ = omega arith in absurd z
  run-from (suc d) (suc f) i k P s q h e =
      run_on f P (after 𝓥 P s i) (after 𝓥 P s (suc i)) i (next-after P s i (e.runs i (omega arith)))
      ∙ run-from d f (suc i) k P s (omega arith) (omega arith) e

  -- the fuelled run is the run
  pub run_is : (P : Problem X) (s : State X) (f k : ℕ) → k ≤ f → Ends 𝓥 P s k →
      run 𝓥 f P s 0 ≡ record { how = step 𝓥 P (after 𝓥 P s k); pivots = k; last = after 𝓥 P s k }
  unfolding after
  run_is P s f k h e = run-from k f 0 k P s (omega arith) h e
