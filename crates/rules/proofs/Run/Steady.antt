-- A step keeps what is known of a state, so every state of a run from a sound one is sound, and no arrangement comes
-- twice in it.
--   kept-along     what each step that moves keeps, every state of the run has
--   sound-moved, sound-goes, sound-after, rowed-goes, rowed-after
--   twice-never    demand 3, first half, from any sound state
use mathlib.Core.Logic.{inl, inr, ◌≢◌, ◌⊎◌}
use mathlib.Core.Option.{some}
use mathlib.Core.Path.{refl, ◌≡◌}
use Prim.Native.Nat.{suc, zero, ℕ, ◌<◌}
use Rattle.whole.proofs.Values.Laws.{le_refl}
use Rattle.whole.specs.Values.{Laws, Le, Values}
use Rattle.rules.proofs.Step.Entering.{entered}
use Rattle.rules.proofs.Step.Leaving.{left}
use Rattle.rules.proofs.Step.Cases.{step-goes}
use Rattle.rules.proofs.Tableau.Pivot.{rowed-moved, was-some}
use Rattle.rules.proofs.Termination.NoRepeat.{no-arrangement-twice}
use Rattle.rules.specs.Problem.{Problem, vars}
use Rattle.rules.specs.Facts.Rule.{Entered, Left, Outside, too-high, too-low}
use Rattle.rules.specs.Run.{Runs, after, next}
use Rattle.rules.specs.Facts.State.{Apart, Rowed, Sound}
use Rattle.rules.specs.Step.{Leaving, Outcome, Side, State, can, cannot, goes, limit_at, moved, range, seat, step}

module _ {X : Type 0} (𝓥 : Values X) where
  module _ (Law : Laws 𝓥) (P : Problem X) (s : State X) (S : Sound 𝓥 P s) (r : Leaving X) (w : ℕ) (L : Left 𝓥 P s r)
      (E : Entered 𝓥 P s r w)
      (apart : Apart 𝓥 P) where
    abbrev N : ℕ
    N = vars P

    abbrev q : ℕ
    q = r.variable

    limit-low : {σ : Side} {x : X} → Outside 𝓥 P s q σ x → (l : X) → P.lower q ≡ some l → Le 𝓥 l x
    limit-low {x} (too-low e h) l k = let z : l ≡ x = cc in rw z (le_refl Law x)
    limit-low {x} (too-high e h) l k = apart q l x L.variable k e

    limit-high : {σ : Side} {x : X} → Outside 𝓥 P s q σ x → (u : X) → P.upper q ≡ some u → Le 𝓥 x u
    limit-high {x} (too-low e h) u k = apart q x u L.variable e k
    limit-high {x} (too-high e h) u k = let z : u ≡ x = cc in rw z (le_refl Law x)

    sound-moved : Sound 𝓥 P (moved 𝓥 P s r w)
    sound-moved = record {
      rowed = rowed-moved 𝓥 P s S.rowed r w L E;
      lowers = λ v x l h e k. lows v x l h k (was-some 𝓥 P s S.rowed r w L E v x e);
      uppers = λ v x u h e k. highs v x u h k (was-some 𝓥 P s S.rowed r w L E v x e);
    }
      where
        lows : (v : ℕ) (x l : X) → v < N → P.lower v ≡ some l →
            ((v ≡ q) × (x ≡ limit_at 𝓥 P r)) ⊎ ((v ≢ q) × (v ≢ w) × (seat s v ≡ some x)) → Le 𝓥 l x
        lows v x l h k (inl e) = rw e.1 (limit-low L.outside l (rw e.0 at k))
        lows v x l h k (inr e) = S.lowers v x l h e.2 k

        highs : (v : ℕ) (x u : X) → v < N → P.upper v ≡ some u →
            ((v ≡ q) × (x ≡ limit_at 𝓥 P r)) ⊎ ((v ≢ q) × (v ≢ w) × (seat s v ≡ some x)) → Le 𝓥 x u
        highs v x u h k (inl e) = rw e.1 (limit-high L.outside u (rw e.0 at k))
        highs v x u h k (inr e) = S.uppers v x u h e.2 k

  -- ---- every state of a run

  pub rowed-goes : (P : Problem X) (s t : State X) → Rowed 𝓥 P s → step 𝓥 P s ≡ goes t → Rowed 𝓥 P t
  rowed-goes P s t S e =
      let g = step-goes 𝓥 P s t e in
      rw g.next-is (rowed-moved 𝓥 P s S g.out g.into (left 𝓥 P s g.out g.leaves)
      (entered 𝓥 P s g.out g.into g.enters))

  sound-goes : Laws 𝓥 → (P : Problem X) (s t : State X) → Apart 𝓥 P → Sound 𝓥 P s → step 𝓥 P s ≡ goes t →
      Sound 𝓥 P t
  sound-goes law P s t A S e =
      let g = step-goes 𝓥 P s t e in
      rw g.next-is (sound-moved law P s S g.out g.into (left 𝓥 P s g.out g.leaves)
      (entered 𝓥 P s g.out g.into g.enters) A)

  -- what a step that moves keeps, every state of a run has
  pub kept-along : (P : Problem X) (Holds : State X → Type 0) →
      ((s t : State X) → Holds s → step 𝓥 P s ≡ goes t → Holds t) →
      (s : State X) → Holds s → (k : ℕ) → Holds (after 𝓥 P s k)
  unfolding after next
  kept-along P Holds keep s S zero = S
  kept-along P Holds keep s S (suc k) = on (after 𝓥 P s k) (step 𝓥 P (after 𝓥 P s k)) refl
      (kept-along P Holds keep s S k)
    where
      on : (t : State X) (o : Outcome X) → step 𝓥 P t ≡ o → Holds t → Holds (next t o)
      on t can e H = H
      on t (cannot ls us) e H = H
      on t range e H = H
      on t (goes u) e H = keep t u H e

  pub rowed-after : (P : Problem X) (s : State X) → Rowed 𝓥 P s → (k : ℕ) → Rowed 𝓥 P (after 𝓥 P s k)
  rowed-after P = kept-along P (Rowed 𝓥 P) (rowed-goes P)

  pub sound-after : Laws 𝓥 → (P : Problem X) (s : State X) → Apart 𝓥 P → Sound 𝓥 P s → (k : ℕ) →
      Sound 𝓥 P (after 𝓥 P s k)
  sound-after law P s A S = kept-along P (Sound 𝓥 P) (λ s t S e. sound-goes law P s t A S e) s S

  -- demand 3, first half, from any sound start
  pub twice-never : Laws 𝓥 → (P : Problem X) (s : State X) → Apart 𝓥 P → Sound 𝓥 P s → (i j : ℕ) → i < j →
      Runs 𝓥 P s j → (after 𝓥 P s i).seats ≢ (after 𝓥 P s j).seats
  twice-never law P s A S = no-arrangement-twice 𝓥 law P s (sound-after law P s A S)
