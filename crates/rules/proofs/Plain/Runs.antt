-- The start, the run and a check, mapped.
--   start-through, run-through, ending-through
use mathlib.Core.Bool.{Bool, cond, false, true}
use mathlib.Core.Option.{Option, none, some}
use mathlib.Core.Path.{ap, fun_ext, refl, sym, ◌∙◌, ◌≡◌}
use Prim.Native.Nat.{ℕ, suc, zero}
use lib.Dec.{ltb}
use lib.IntN.{pos}
use Rattle.whole.specs.Below.{lowest}
use Rattle.whole.specs.Tables.{matrix, table}
use Rattle.whole.specs.Values.{Values}
use Rattle.rules.proofs.Answer.Run.{spending-crossed, spending-run}
use Rattle.rules.proofs.Plain.Keeps.{Keeps, ending_through, outcome_through, state_through, problem_through}
use Rattle.rules.proofs.Plain.Choices.{by_step, map-table, run-stepped}
use Rattle.rules.proofs.Plain.Tests.{crossed-through}
use Rattle.rules.proofs.Plain.Steps.{step_through}
use Rattle.rules.specs.Problem.{Problem, mapped, vars}
use Rattle.rules.specs.Run.{bound, conflict, ending, run, spending}
use Rattle.rules.specs.Step.{Outcome, State, can, cannot, goes, range, start, start_entry, start_seat}
use Rattle.rules.specs.Step.{start_value, step}

module _ {X Y : Type 0} (𝓧 : Values X) (𝓨 : Values Y) (h : X → Y) (K : Keeps 𝓧 𝓨 h) where
  -- ---- the run

  run-through : (f : ℕ) (P : Problem X) (s : State X) (k : ℕ) →
      run 𝓨 f (problem_through h P) (state_through h s) k ≡ ending_through h (run 𝓧 f P s k)
  unfolding run by_step outcome_through
  run-through zero P s k =
      ap (λ o. record { how = o; pivots = k; last = state_through h s }) (step_through 𝓧 𝓨 h K P s)
  run-through (suc f) P s k =
      run-stepped 𝓨 f (problem_through h P) (state_through h s) k
      ∙ ap (by_step 𝓨 f (problem_through h P) (state_through h s) k) (step_through 𝓧 𝓨 h K P s)
      ∙ go (step 𝓧 P s) (λ t. run-through f P t (suc k))
      ∙ ap (ending_through h) (sym (run-stepped 𝓧 f P s k))
    where
      go : (o : Outcome X) →
          ((t : State X) → run 𝓨 f (problem_through h P) (state_through h t) (suc k)
          ≡ ending_through h (run 𝓧 f P t (suc k))) →
          by_step 𝓨 f (problem_through h P) (state_through h s) k (outcome_through h o)
          ≡ ending_through h (by_step 𝓧 f P s k o)
      go can rest = refl
      go (cannot ls us) rest = refl
      go range rest = refl
      go (goes t) rest = rest t

  conflict-through : (P : Problem X) → conflict 𝓨 (problem_through h P) ≡ conflict 𝓧 P
  unfolding conflict
  conflict-through P = ap (lowest (vars P)) (fun_ext (λ v.
      ap (λ b. cond b (some v) none) (crossed-through 𝓧 𝓨 h K (P.lower v) (P.upper v))))

  spending-through : (b : ℕ) (P : Problem X) (s : State X) (k : ℕ) →
      spending 𝓨 b (problem_through h P) (state_through h s) k ≡ ending_through h (spending 𝓧 b P s k)
  unfolding outcome_through
  spending-through b P s k = go (conflict 𝓧 P) refl
    where
      go : (o : Option ℕ) → conflict 𝓧 P ≡ o →
          spending 𝓨 b (problem_through h P) (state_through h s) k ≡ ending_through h (spending 𝓧 b P s k)
      go none e =
          spending-run 𝓨 (problem_through h P) (conflict-through P ∙ e) b (state_through h s) k
          ∙ run-through b P s k ∙ ap (ending_through h) (sym (spending-run 𝓧 P e b s k))
      go (some v) e =
          spending-crossed 𝓨 (problem_through h P) v (conflict-through P ∙ e) b (state_through h s) k
          ∙ ap (ending_through h) (sym (spending-crossed 𝓧 P v e b s k))

  pub ending-through : (P : Problem X) (s : State X) →
      ending 𝓨 (problem_through h P) (state_through h s) ≡ ending_through h (ending 𝓧 P s)
  unfolding ending bound
  ending-through P s = spending-through (bound P) P s 0

  -- ---- the start

  either-through : (b : Bool) (x y : X) → cond b (h x) (h y) ≡ h (cond b x y)
  either-through true x y = refl
  either-through false x y = refl

  -- u, where it is below 0, and else 0
  down-through : (u : X) → cond (𝓨.less (h u) 𝓨.nil) (h u) 𝓨.nil ≡ h (cond (𝓧.less u 𝓧.nil) u 𝓧.nil)
  down-through u =
      ap (λ z. cond (𝓨.less (h u) z) (h u) z) (sym K.keeps-nil)
      ∙ ap (λ b. cond b (h u) (h 𝓧.nil)) (K.keeps-less u 𝓧.nil) ∙ either-through (𝓧.less u 𝓧.nil) u 𝓧.nil

  -- l, where it is above 0, and else another value
  up-through : (l y : X) → cond (𝓨.less 𝓨.nil (h l)) (h l) (h y) ≡ h (cond (𝓧.less 𝓧.nil l) l y)
  up-through l y =
      ap (λ z. cond (𝓨.less z (h l)) (h l) (h y)) (sym K.keeps-nil)
      ∙ ap (λ b. cond b (h l) (h y)) (K.keeps-less 𝓧.nil l) ∙ either-through (𝓧.less 𝓧.nil l) l y

  value-through : (l u : Option X) → start_value 𝓨 (mapped h l) (mapped h u) ≡ h (start_value 𝓧 l u)
  unfolding start_value mapped
  value-through none none = sym K.keeps-nil
  value-through none (some u) = down-through u
  value-through (some l) none =
      ap (cond (𝓨.less 𝓨.nil (h l)) (h l)) (sym K.keeps-nil) ∙ up-through l 𝓧.nil
  value-through (some l) (some u) =
      ap (cond (𝓨.less 𝓨.nil (h l)) (h l)) (down-through u)
      ∙ up-through l (cond (𝓧.less u 𝓧.nil) u 𝓧.nil)

  seat-start : (P : Problem X) (v : ℕ) → start_seat 𝓨 (problem_through h P) v ≡ mapped h (start_seat 𝓧 P v)
  unfolding start_seat mapped
  seat-start P v =
      ap (λ x. cond (ltb v P.n) (some x) none) (value-through (P.lower v) (P.upper v)) ∙ by (ltb v P.n)
    where
      by : (b : Bool) → cond b (some (h (start_value 𝓧 (P.lower v) (P.upper v)))) none
          ≡ mapped h (cond b (some (start_value 𝓧 (P.lower v) (P.upper v))) none)
      by true = refl
      by false = refl

  pub start-through : (P : Problem X) → start 𝓨 (problem_through h P) ≡ state_through h (start 𝓧 P)
  unfolding start start_entry
  start-through P = ap
      (λ l. record { tableau = record { common = pos 1; rows = matrix (vars P) (start_entry P) }; seats = l })
      (ap (table (vars P)) (fun_ext (seat-start P)) ∙ sym (map-table (mapped h) 0 (vars P) (start_seat 𝓧 P)))
