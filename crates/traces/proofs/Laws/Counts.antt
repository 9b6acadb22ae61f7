-- How many pivots the run of a problem has.
--   counts_all      with pivots enough to spend, the code counts those of the run
--   moves_before    before the last of them the run goes on, and no limits cross
use mathlib.Core.Option.{Option, none, some}
use mathlib.Core.Path.{ap, refl, sym, ◌∙◌, ◌≡◌}
use Prim.Native.Nat.{ℕ, ◌<◌, ◌≤◌}
use native.Mathlib.Omega.{arith}
use lib.IntN.{ℤ}
use Rattle.whole.proofs.Values.Beside.{pairs-laws}
use Rattle.whole.specs.Values.{pairs}
use Rattle.rules.proofs.Termination.Bound.{bound-small}
use Rattle.rules.specs.Run.{most_count}
use Rattle.rules.proofs.Answer.Run.{answer-run, ending-crossed, ending-run}
use Rattle.rules.proofs.Run.Start.{no-conflict}
use Rattle.rules.proofs.Run.State.{ready-sound}
use Rattle.rules.proofs.Runs.Session.Sliced.{spending-enough}
use Rattle.rules.proofs.Termination.Ends.{ready-start}
use Rattle.rules.specs.Facts.Run.{TheRun}
use Rattle.rules.specs.Facts.State.{Ready}
use Rattle.rules.specs.Problem.{Problem}
use Rattle.rules.specs.Run.{Ending, Moves, after, bound, conflict, ending}
use Rattle.rules.specs.Runs.Slices.{begun, continued}
use Rattle.rules.specs.Step.{start, step}
use Rattle.tableau.specs.declared.Tableau.{Tableau}
use Rattle.solver.proofs.Laws.Stands.Slices.{holds_more}
use Rattle.solver.specs.Spend.{Holds, spent_at}

module _ (P : Problem (ℤ × ℤ)) where
  ready : Ready pairs P (start pairs P)
  ready = ready-start pairs pairs-laws P

  pub counts_all : (t : Tableau) → Holds (begun pairs P) t 0 → (b : ℕ) → most_count ≤ b →
      (spent_at t 0 b).count ≡ (ending pairs P (start pairs P)).pivots
  unfolding begun continued
  counts_all t H b h = sym (holds_more H b).count-is
      ∙ ap (λ (e : Ending (ℤ × ℤ)). e.pivots) (spending-enough pairs pairs-laws P (start pairs P) ready b enough)
    where
      enough : bound P ≤ b
      enough = let z = bound-small P H.stands.sized.few-rows H.stands.sized.few-columns in omega (arith, z, h)

  pub moves_before : (k : ℕ) → k < (ending pairs P (start pairs P)).pivots →
      (conflict pairs P ≡ none) × Moves (step pairs P (after pairs P (start pairs P) k))
  moves_before k h = go (conflict pairs P) refl
    where
      go : (o : Option ℕ) → conflict pairs P ≡ o →
          (conflict pairs P ≡ none) × Moves (step pairs P (after pairs P (start pairs P) k))
      go (some v) e =
          let q = ap (λ (x : Ending (ℤ × ℤ)). x.pivots) (ending-crossed pairs P (start pairs P) v e) in
          let z : ⊥ = omega (arith, q, h) in absurd z
      go none e = (e, T.ends.runs k (let z = count-is in omega (arith, z, h)))
        where
          T : TheRun P (start pairs P)
          T = answer-run P (start pairs P) e ready

          count-is : (ending pairs P (start pairs P)).pivots ≡ T.count
          count-is = ap (λ (x : Ending (ℤ × ℤ)). x.pivots) (ending-run pairs pairs-laws P (start pairs P) e
              (ready-sound pairs P (start pairs P) (no-conflict pairs P e) ready) ready.seated-many
              T.count T.ends)
