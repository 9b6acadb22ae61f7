-- Steps and runs as functions of what is chosen, and lists and searches of mapped things.
--   map_at, map-set, map-table, lowest-mapped
--   by_tests, by_leaving, by_entering, by_step      the functions
--   broken-tested, step-chosen, run-stepped     who is outside, a step and a run are these
use mathlib.Core.Bool.{Bool, false, true}
use mathlib.Core.List.{List, [], ◌∷◌, map}
use mathlib.Core.Option.{Option, none, some}
use mathlib.Core.Path.{ap, refl, ◌∙◌, ◌≡◌}
use Prim.Native.Nat.{ℕ, suc, zero}
use lib.ListN.{get_or, set}
use Rattle.whole.specs.Below.{lowest}
use Rattle.whole.specs.Tables.{table_from}
use Rattle.whole.specs.Values.{Values}
use Rattle.rules.specs.Problem.{Problem, mapped, vars}
use Rattle.rules.specs.Run.{Ending, run}
use Rattle.rules.specs.Step.{Leaving, Outcome, State, above, admit, below, broken, can, cannot, common}
use Rattle.rules.specs.Step.{entering, evidence, goes, leaves, leaving, moved, over, range, scaled, shortfall_of}
use Rattle.rules.specs.Step.{step, under}
use Rattle.rules.specs.Tableau.{relation}

-- ---- lists and searches

module _ {A B : Type 0} (g : A → B) where
  pub map_at : (l : List A) (i : ℕ) (d : A) → get_or (map g l) i (g d) ≡ g (get_or l i d)
  map_at [] i d = refl
  map_at (x ∷ l) zero d = refl
  map_at (x ∷ l) (suc i) d = map_at l i d

  pub map-set : (l : List A) (i : ℕ) (a : A) → map g (set l i a) ≡ set (map g l) i (g a)
  map-set [] i a = refl
  map-set (x ∷ l) zero a = refl
  map-set (x ∷ l) (suc i) a = ap (λ t. g x ∷ t) (map-set l i a)

  pub map-table : (a k : ℕ) (f : ℕ → A) → map g (table_from a k f) ≡ table_from a k (λ i. g (f i))
  unfolding table_from
  map-table a zero f = refl
  map-table a (suc k) f = ap (λ t. g (f a) ∷ t) (map-table (suc a) k f)

  pub lowest-mapped : (k : ℕ) (f : ℕ → Option A) → lowest k (λ v. mapped g (f v)) ≡ mapped g (lowest k f)
  unfolding lowest mapped
  lowest-mapped zero f = refl
  lowest-mapped (suc k) f = go (lowest k f) refl (lowest-mapped k f)
    where
      go : (o : Option A) → lowest k f ≡ o → lowest k (λ v. mapped g (f v)) ≡ mapped g (lowest k f) →
          lowest (suc k) (λ v. mapped g (f v)) ≡ mapped g (lowest (suc k) f)
      go none e q = let z : lowest k (λ v. mapped g (f v)) ≡ none = q ∙ ap (mapped g) e in rw (z, e) refl
      go (some a) e q = let z : lowest k (λ v. mapped g (f v)) ≡ some (g a) = q ∙ ap (mapped g) e in rw (z, e) refl

-- ---- what is chosen

module _ {X : Type 0} (𝓥 : Values X) where
  -- whether a variable is outside, by the two tests
  unfoldable pub by_tests : Bool → Bool → Leaving X → Leaving X → Option (Leaving X)
  by_tests true b l u = some l
  by_tests false true l u = some u
  by_tests false false l u = none

  pub broken-tested : (P : Problem X) (s : State X) (v : ℕ) → broken 𝓥 P s v none
      ≡ by_tests (under 𝓥 (common s) (scaled 𝓥 P s v) (P.lower v)) (over 𝓥 (common s) (scaled 𝓥 P s v) (P.upper v))
      (leaves v below (shortfall_of 𝓥 P s v below)) (leaves v above (shortfall_of 𝓥 P s v above))
  unfolding broken by_tests
  broken-tested P s v = go (under 𝓥 (common s) (scaled 𝓥 P s v) (P.lower v)) refl
      (over 𝓥 (common s) (scaled 𝓥 P s v) (P.upper v)) refl
    where
      go : (a : Bool) → under 𝓥 (common s) (scaled 𝓥 P s v) (P.lower v) ≡ a → (b : Bool) →
          over 𝓥 (common s) (scaled 𝓥 P s v) (P.upper v) ≡ b → broken 𝓥 P s v none
          ≡ by_tests (under 𝓥 (common s) (scaled 𝓥 P s v) (P.lower v)) (over 𝓥 (common s) (scaled 𝓥 P s v) (P.upper v))
          (leaves v below (shortfall_of 𝓥 P s v below)) (leaves v above (shortfall_of 𝓥 P s v above))
      go true p b q = rw (p, broken) refl
      go false p true q = rw (p, broken) (rw q refl)
      go false p false q = rw (p, broken) (rw q refl)

  -- a step, by who leaves and who enters
  unfoldable pub by_entering : Problem X → State X → Leaving X → Option ℕ → Outcome X
  by_entering P s r none = evidence (vars P) r.side (relation s.tableau r.variable)
  by_entering P s r (some w) = admit (vars P) (moved 𝓥 P s r w)

  unfoldable pub by_leaving : Problem X → State X → Option (Leaving X) → Outcome X
  by_leaving P s none = can
  by_leaving P s (some r) = by_entering P s r (entering 𝓥 P s r)

  pub step-chosen : (P : Problem X) (s : State X) → step 𝓥 P s ≡ by_leaving P s (leaving 𝓥 P s)
  unfolding step by_leaving by_entering
  step-chosen P s = go (leaving 𝓥 P s) refl
    where
      go : (o : Option (Leaving X)) → leaving 𝓥 P s ≡ o → step 𝓥 P s ≡ by_leaving P s (leaving 𝓥 P s)
      go none p = rw (p, step) refl
      go (some r) p = by (entering 𝓥 P s r) refl
        where
          by : (o : Option ℕ) → entering 𝓥 P s r ≡ o → step 𝓥 P s ≡ by_leaving P s (leaving 𝓥 P s)
          by none q = rw (p, step) (rw q refl)
          by (some w) q = rw (p, step) (rw q refl)

  -- a run, by what its first step comes to
  unfoldable pub by_step : ℕ → Problem X → State X → ℕ → Outcome X → Ending X
  by_step f P s k can = record { how = can; pivots = k; last = s }
  by_step f P s k (cannot ls us) = record { how = cannot ls us; pivots = k; last = s }
  by_step f P s k range = record { how = range; pivots = k; last = s }
  by_step f P s k (goes t) = run 𝓥 f P t (suc k)

  pub run-stepped : (f : ℕ) (P : Problem X) (s : State X) (k : ℕ) → run 𝓥 (suc f) P s k ≡ by_step f P s k (step 𝓥 P s)
  unfolding run by_step
  run-stepped f P s k = go (step 𝓥 P s) refl
    where
      go : (o : Outcome X) → step 𝓥 P s ≡ o → run 𝓥 (suc f) P s k ≡ by_step f P s k (step 𝓥 P s)
      go can e = rw (e, run) refl
      go (cannot ls us) e = rw (e, run) refl
      go range e = rw (e, run) refl
      go (goes t) e = rw (e, run) refl
