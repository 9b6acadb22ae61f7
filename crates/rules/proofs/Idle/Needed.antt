-- Each limit that a "cannot" names is needed: keep them, drop any one of them, and some fractions meet the rest.
--   no-blanks            accepted words have no blank row
--   nothing-idle-from    of the answer from any state that is ready
--   nothing-idle         of the answer to accepted words
use mathlib.Core.List.{List}
use mathlib.Core.Logic.{◌≢◌}
use mathlib.Core.Path.{ap, subst, sym, ◌∙◌, ◌≡◌}
use Prim.Native.Nat.{ℕ, ◌<◌}
use lib.IntN.{pos, ℤ}
use Rattle.whole.proofs.Values.Beside.{pairs-laws}
use Rattle.whole.specs.Values.{pairs}
use Rattle.rules.proofs.Termination.Ends.{ready-start}
use Rattle.rules.proofs.Evidence.Satisfied.{pairs-satisfied}
use Rattle.rules.proofs.Idle.Kept.{Met, keeping-inner}
use Rattle.rules.proofs.Idle.Pairs.{met-from}
use Rattle.rules.specs.Answer.{answer, answer_from}
use Rattle.rules.specs.Evidence.{Satisfiable, verdict_of}
use Rattle.rules.specs.Keeping.Idle.{NoBlank, is_named, is_other, multiplier, named, without}
use Rattle.rules.specs.Keeping.Limits.{keeping}
use Rattle.rules.specs.Limit.{Limit}
use Rattle.rules.specs.Problem.{Problem, inner, problem, vars}
use Rattle.rules.specs.Refusal.{Accepted}
use Rattle.rules.specs.Sizes.{most_rows}
use Rattle.rules.specs.Facts.State.{Ready}
use Rattle.rules.specs.Step.{Side, State, start}

-- what is left, read as pairs
left-inner : (P : Problem Limit) (a : List ℤ) (σ : Side) (w : ℕ) →
    inner (without σ w (named a P)) ≡ without σ w (named a (inner P))
left-inner P a σ w =
    keeping-inner (is_other σ w) (named a P) ∙ ap (keeping (is_other σ w)) (keeping-inner (is_named (vars P) a) P)

module _ (P : Problem Limit) (s : State (ℤ × ℤ)) (R : Ready pairs (inner P) s) (B : NoBlank P) where
  pub nothing-idle-from : verdict_of (answer_from (inner P) s) ≡ pos 2 → (σ : Side) (w : ℕ) → w < vars P →
      multiplier (vars P) (answer_from (inner P) s) σ w ≢ pos 0 →
      Satisfiable (without σ w (named (answer_from (inner P) s) P))
  nothing-idle-from e σ w h n =
      let a : List ℤ = answer_from (inner P) s in
      let (d, x, M) = subst (Met pairs) (sym (left-inner P a σ w)) (met-from (inner P) s R B e σ w h n) in
      pairs-satisfied (without σ w (named a P)) d x M

pub no-blanks : (ws : List ℤ) → Accepted most_rows ws → NoBlank (problem ws)
unfolding problem
no-blanks ws A = A.no-blank

pub nothing-idle : (ws : List ℤ) → Accepted most_rows ws → verdict_of (answer ws) ≡ pos 2 → (σ : Side) (w : ℕ) →
    w < vars (problem ws) → multiplier (vars (problem ws)) (answer ws) σ w ≢ pos 0 →
    Satisfiable (without σ w (named (answer ws) (problem ws)))
unfolding answer
nothing-idle ws A = nothing-idle-from (problem ws) (start pairs (inner (problem ws)))
    (ready-start pairs pairs-laws (inner (problem ws))) (no-blanks ws A)
