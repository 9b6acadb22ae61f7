-- The refusal of a problem's own trace: that of the problem where there is one, else 7 where the room is too short,
-- else none.
--   traced-problem, traced-short, traced-fine    what is told in each case
--   traced-keeps    a refusal keeps what stood there
use mathlib.Core.List.{List, [], ◌∷◌}
use mathlib.Core.Logic.{◌≢◌}
use mathlib.Core.Path.{◌≡◌, ap, refl, sym, ◌∙◌}
use Prim.Native.Nat.{ℕ, zero, suc, ◌*◌, ◌<◌, ◌≤◌}
use lib.Dec.{ltb}
use lib.IntN.{ℤ}
use Rattle.whole.proofs.Tells.{tells-false, tells-lt, tells-true}
use Rattle.rules.specs.Refusal.{first, problem_refusal, problem_tests}
use Rattle.rules.specs.Runs.Trace.{run_count, trace_length, trace_output, trace_refusal}
use Rattle.rules.specs.Sizes.{most_rows}
use Rattle.rules.proofs.Refusal.Exactly.{numbered}
use Rattle.rules.proofs.Refusal.First.{first-hit, first-kept, first-passed, first-skip}
use Rattle.traces.specs.Traces.{traced_as}

module _ (ws : List ℤ) (room : ℕ) where
  after-problem : problem_refusal ws ≡ 0 → trace_refusal ws room ≡ first ((ltb room (trace_length ws), 7) ∷ [])
  unfolding trace_refusal problem_refusal
  after-problem e =
      first-passed 10 (problem_tests most_rows ws) ((ltb room (trace_length ws), 7) ∷ []) (numbered most_rows ws) e

  pub traced-problem : (k : ℕ) → k ≡ problem_refusal ws → k ≢ 0 →
      record { refused = k; count = 0 } ≡ traced_as (trace_refusal ws room) ws
  unfolding trace_refusal problem_refusal
  traced-problem zero e n = absurd (n refl)
  traced-problem (suc k) e n = ap (λ j. traced_as j ws)
      (sym (first-kept (problem_tests most_rows ws) ((ltb room (trace_length ws), 7) ∷ []) k (sym e)))

  pub traced-short : problem_refusal ws ≡ 0 → room < trace_length ws →
      record { refused = 7; count = 0 } ≡ traced_as (trace_refusal ws room) ws
  traced-short e h = ap (λ j. traced_as j ws)
      (sym (after-problem e ∙ first-hit 7 [] (tells-true (tells-lt room (trace_length ws)) h)))

  pub traced-fine : problem_refusal ws ≡ 0 → trace_length ws ≤ room → (count : ℕ) → count ≡ run_count ws →
      record { refused = 0; count = 3 * count } ≡ traced_as (trace_refusal ws room) ws
  unfolding first
  traced-fine e h count q = ap (λ (c : ℕ). record { refused = 0; count = 3 * c }) q ∙ ap (λ j. traced_as j ws)
      (sym (after-problem e ∙ first-skip 7 [] (tells-false (tells-lt room (trace_length ws)) h)))

  pub traced-keeps : (k : ℕ) → k ≢ 0 → (before : List ℕ) → before ≡ trace_output k ws before
  traced-keeps zero n before = absurd (n refl)
  traced-keeps (suc k) n before = refl
