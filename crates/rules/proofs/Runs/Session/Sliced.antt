-- A check is one slice with pivots enough.
--   spending-enough    with as many pivots to spend as the bound, or more, the run comes to its end
--   check-sliced       so one continue from the session's state answers as a check does, and comes to what it keeps
use mathlib.Core.List.{[]}
use mathlib.Core.Option.{Option, none, some}
use mathlib.Core.Path.{ap, refl, sym, ◌∙◌, ◌≡◌}
use Prim.Native.Nat.{ℕ, ◌≤◌}
use native.Mathlib.Omega.{arith}
use lib.IntN.{ℤ}
use Rattle.whole.proofs.Values.Beside.{pairs-laws}
use Rattle.whole.specs.Values.{Laws, Values, pairs}
use Rattle.rules.proofs.Answer.Run.{ending-crossed, ending-run, spending-crossed, spending-run}
use Rattle.rules.proofs.Run.Once.{run_is}
use Rattle.rules.proofs.Run.Start.{no-conflict}
use Rattle.rules.proofs.Run.State.{ready-sound}
use Rattle.rules.proofs.Runs.Session.Fair.{fair-ready}
use Rattle.rules.proofs.Runs.Slices.{answer-by, sliced}
use Rattle.rules.proofs.Termination.Bound.{below-bound}
use Rattle.rules.proofs.Termination.Ends.{ends}
use Rattle.rules.specs.Facts.Runs.Session.{Fair}
use Rattle.rules.specs.Facts.Runs.Slices.{Sliced, first_slice}
use Rattle.rules.specs.Facts.State.{Ready}
use Rattle.rules.specs.Problem.{Problem}
use Rattle.rules.specs.Run.{bound, conflict, ending, spending}
use Rattle.rules.specs.Runs.Session.{Session, check_answer, live_of, rested}
use Rattle.rules.specs.Runs.Slices.{continued, continued_by, slice_answer}
use Rattle.rules.specs.Step.{State}

pub spending-enough : {X : Type 0} (𝓥 : Values X) → Laws 𝓥 → (P : Problem X) (s : State X) → Ready 𝓥 P s → (b : ℕ) →
    bound P ≤ b → spending 𝓥 b P s 0 ≡ ending 𝓥 P s
spending-enough 𝓥 law P s R b h = go (conflict 𝓥 P) refl
  where
    go : (o : Option ℕ) → conflict 𝓥 P ≡ o → spending 𝓥 b P s 0 ≡ ending 𝓥 P s
    go (some v) e = spending-crossed 𝓥 P v e b s 0 ∙ sym (ending-crossed 𝓥 P s v e)
    go none e =
        let S = ready-sound 𝓥 P s (no-conflict 𝓥 P e) R in
        let (k, E) = ends 𝓥 law P s (no-conflict 𝓥 P e) S R.seated-many in
        let l = below-bound 𝓥 law P s (no-conflict 𝓥 P e) S R.seated-many k E.runs in
        spending-run 𝓥 P e b s 0 ∙ run_is 𝓥 P s b k (omega arith) E
        ∙ sym (ending-run 𝓥 law P s e S R.seated-many k E)

module _ (A : Session (ℤ × ℤ)) (F : Fair pairs A) (b : ℕ) (enough : bound A.given ≤ b) where
  ready : Ready pairs (live_of A) A.state
  ready = fair-ready pairs A F

  pub check-sliced : (slice_answer (first_slice (live_of A) A.state) b ≡ some (check_answer A))
      × ((continued pairs (first_slice (live_of A) A.state) b).state ≡ (rested pairs A).state)
  unfolding bound continued continued_by check_answer rested
  check-sliced = (
    (let S : Sliced (live_of A) A.state = sliced (live_of A) A.state ready in
        let l = S.below in answer-by (live_of A) A.state S [] b (omega arith)),
    ap (λ e. e.last) (spending-enough pairs pairs-laws (live_of A) A.state ready b enough),
  )
