-- One step, mapped.
--   leaving-through, entering-through, moved-through, step_through
use mathlib.Core.Bool.{Bool, cond, false, true}
use mathlib.Core.Option.{Option, none, some}
use mathlib.Core.Path.{ap, ap₂, fun_ext, refl, sym, ◌∙◌, ◌≡◌}
use Prim.Native.Nat.{ℕ}
use lib.IntN.{ℤ}
use lib.ListN.{set}
use Rattle.whole.specs.Below.{lowest}
use Rattle.whole.specs.Values.{Values}
use Rattle.rules.proofs.Plain.Keeps.{Keeps, leaving_through, outcome_through, state_through, problem_through}
use Rattle.rules.proofs.Plain.Choices.{broken-tested, by_entering, by_tests, by_leaving, lowest-mapped, map-set}
use Rattle.rules.proofs.Plain.Choices.{step-chosen}
use Rattle.rules.proofs.Plain.Tests.{over-through, scaled-through, seat-through, seated-through}
use Rattle.rules.proofs.Plain.Tests.{shortfall-through, suits-through, under-through}
use Rattle.rules.specs.Problem.{Problem, mapped, vars}
use Rattle.rules.specs.Step.{Leaving, Side, State, above, admit, below, broken, common, entering, evidence}
use Rattle.rules.specs.Step.{leaves, leaving, limit_at, moved, over, pull, scaled, seat, shortfall_by}
use Rattle.rules.specs.Step.{shortfall_of, step, suits, under}
use Rattle.rules.specs.Tableau.{entry, pivot, small}

module _ {X Y : Type 0} (𝓧 : Values X) (𝓨 : Values Y) (h : X → Y) (K : Keeps 𝓧 𝓨 h) where
  by_tests-through : (a b : Bool) (l u : Leaving X) →
      by_tests 𝓨 a b (leaving_through h l) (leaving_through h u) ≡ mapped (leaving_through h) (by_tests 𝓧 a b l u)
  unfolding by_tests mapped
  by_tests-through true b l u = refl
  by_tests-through false true l u = refl
  by_tests-through false false l u = refl

  outside-through : (P : Problem X) (s : State X) (v : ℕ) →
      broken 𝓨 (problem_through h P) (state_through h s) v none ≡ mapped (leaving_through h) (broken 𝓧 P s v none)
  outside-through P s v =
      broken-tested 𝓨 (problem_through h P) (state_through h s) v
      ∙ ap (λ z. by_tests 𝓨 (under 𝓨 d z (mapped h l)) (over 𝓨 d z (mapped h u)) (low z) (high z))
      (scaled-through 𝓧 𝓨 h K P s v)
      ∙ ap₂ (λ a b. by_tests 𝓨 a b (low (h x)) (high (h x))) (under-through 𝓧 𝓨 h K d x l) (over-through 𝓧 𝓨 h K d x u)
      ∙ ap₂ (λ y z. by_tests 𝓨 (under 𝓧 d x l) (over 𝓧 d x u) (leaves v below y) (leaves v above z))
      (shortfall-through 𝓧 𝓨 h K d x l u below) (shortfall-through 𝓧 𝓨 h K d x l u above)
      ∙ by_tests-through (under 𝓧 d x l) (over 𝓧 d x u)
      (leaves v below (shortfall_of 𝓧 P s v below)) (leaves v above (shortfall_of 𝓧 P s v above))
      ∙ ap (mapped (leaving_through h)) (sym (broken-tested 𝓧 P s v))
    where
      d : ℤ
      d = common s

      x : X
      x = scaled 𝓧 P s v

      l : Option X
      l = P.lower v

      u : Option X
      u = P.upper v

      low : Y → Leaving Y
      low z = leaves v below (shortfall_by 𝓨 d z (mapped h l) (mapped h u) below)

      high : Y → Leaving Y
      high z = leaves v above (shortfall_by 𝓨 d z (mapped h l) (mapped h u) above)

  broken-through : (P : Problem X) (s : State X) (v : ℕ) (o : Option X) →
      broken 𝓨 (problem_through h P) (state_through h s) v (mapped h o) ≡ mapped (leaving_through h) (broken 𝓧 P s v o)
  unfolding mapped broken
  broken-through P s v (some x) = refl
  broken-through P s v none = outside-through P s v

  leaving-through : (P : Problem X) (s : State X) →
      leaving 𝓨 (problem_through h P) (state_through h s) ≡ mapped (leaving_through h) (leaving 𝓧 P s)
  unfolding leaving
  leaving-through P s =
      ap (lowest (vars P)) (fun_ext (λ v.
      ap (broken 𝓨 (problem_through h P) (state_through h s) v) (seat-through 𝓧 𝓨 h K s v)
      ∙ broken-through P s v (seat s v)))
      ∙ lowest-mapped (leaving_through h) (vars P) (λ v. broken 𝓧 P s v (seat s v))

  entering-through : (P : Problem X) (s : State X) (r : Leaving X) →
      entering 𝓨 (problem_through h P) (state_through h s) (leaving_through h r) ≡ entering 𝓧 P s r
  unfolding entering
  entering-through P s r = ap (lowest (vars P)) (fun_ext (λ w.
      ap (λ b. cond b (some w) none)
      (ap (λ o. suits 𝓨 (a w) o (mapped h (P.lower w)) (mapped h (P.upper w))) (seat-through 𝓧 𝓨 h K s w)
      ∙ suits-through 𝓧 𝓨 h K (a w) (seat s w) (P.lower w) (P.upper w))))
    where
      a : ℕ → ℤ
      a w = pull r.side (entry s.tableau r.variable w)

  limit-through : (P : Problem X) (v : ℕ) (σ : Side) (x : X) →
      limit_at 𝓨 (problem_through h P) (leaves v σ (h x)) ≡ h (limit_at 𝓧 P (leaves v σ x))
  unfolding limit_at
  limit-through P v below x = seated-through 𝓧 𝓨 h K (P.lower v)
  limit-through P v above x = seated-through 𝓧 𝓨 h K (P.upper v)

  moved-through : (P : Problem X) (s : State X) (r : Leaving X) (w : ℕ) →
      moved 𝓨 (problem_through h P) (state_through h s) (leaving_through h r) w ≡ state_through h (moved 𝓧 P s r w)
  unfolding moved mapped
  moved-through P s r w = ap (λ l. record { tableau = pivot (vars P) s.tableau r.variable w; seats = l })
      (ap₂ (λ l y. set l r.variable (some y)) (sym (map-set (mapped h) s.seats w none))
      (limit-through P r.variable r.side r.shortfall)
      ∙ sym (map-set (mapped h) (set s.seats w none) r.variable (some (limit_at 𝓧 P r))))

  admit-through : (N : ℕ) (s : State X) → admit N (state_through h s) ≡ outcome_through h (admit N s)
  unfolding admit outcome_through
  admit-through N s = go (small N s.tableau) refl
    where
      go : (b : Bool) → small N s.tableau ≡ b → admit N (state_through h s) ≡ outcome_through h (admit N s)
      go true e = rw (e, admit) refl
      go false e = rw (e, admit) refl

  by_entering-through : (P : Problem X) (s : State X) (r : Leaving X) (o : Option ℕ) →
      by_entering 𝓨 (problem_through h P) (state_through h s) (leaving_through h r) o
      ≡ outcome_through h (by_entering 𝓧 P s r o)
  unfolding by_entering evidence outcome_through
  by_entering-through P s r none = refl
  by_entering-through P s r (some w) =
      ap (admit (vars P)) (moved-through P s r w) ∙ admit-through (vars P) (moved 𝓧 P s r w)

  by_leaving-through : (P : Problem X) (s : State X) (o : Option (Leaving X)) →
      by_leaving 𝓨 (problem_through h P) (state_through h s) (mapped (leaving_through h) o)
      ≡ outcome_through h (by_leaving 𝓧 P s o)
  unfolding by_leaving mapped outcome_through
  by_leaving-through P s none = refl
  by_leaving-through P s (some r) =
      ap (by_entering 𝓨 (problem_through h P) (state_through h s) (leaving_through h r)) (entering-through P s r)
      ∙ by_entering-through P s r (entering 𝓧 P s r)

  pub step_through : (P : Problem X) (s : State X) →
      step 𝓨 (problem_through h P) (state_through h s) ≡ outcome_through h (step 𝓧 P s)
  step_through P s =
      step-chosen 𝓨 (problem_through h P) (state_through h s)
      ∙ ap (by_leaving 𝓨 (problem_through h P) (state_through h s)) (leaving-through P s)
      ∙ by_leaving-through P s (leaving 𝓧 P s) ∙ ap (outcome_through h) (sym (step-chosen 𝓧 P s))
