-- The refusal of a trace: that of the problem where there is one, else 51 where words are left over, else none; and the
-- numbers of an answer.
--   refused-problem, refused-left-over, refused-none    what is answered in each case
--   told-as    what is told of an answer is what the rules tell
use mathlib.Core.List.{List, [], ◌∷◌}
use mathlib.Core.Logic.{◌≢◌}
use mathlib.Core.Path.{◌≡◌, ap, refl, sym, ◌∙◌}
use Prim.Native.Nat.{ℕ, zero, suc, ◌%◌}
use native.Mathlib.Omega.{arith}
use lib.IntN.{ℤ}
use lib.ListN.{length}
use Rattle.std.proofs.Common.{Result, Ok, Err, IfOk}
use Rattle.whole.proofs.Tells.{tells-eq, tells-false, tells-not, tells-true}
use Rattle.rules.specs.Refusal.{first, problem_refusal, problem_tests}
use Rattle.rules.specs.Runs.Replay.{bad_trace, replay_refusal}
use Rattle.rules.specs.Runs.Replay as rules
use Rattle.rules.specs.Sizes.{most_rows}
use Rattle.rules.proofs.Refusal.Exactly.{numbered}
use Rattle.rules.proofs.Refusal.First.{first-hit, first-kept, first-passed, first-skip}
use Rattle.refusals.specs.declared.Refusal.{Refusal}
use Rattle.refusals.specs.Numbers.{number_of, told_by}
use Rattle.refusals.proofs.Refused.{number-some}
use Rattle.replay.specs.declared.Replayed.{Replayed}
use Rattle.replay.specs.Replay.{replayed_by, told_as, told_of}

module _ (ws : List ℤ) (trace : List ℕ) where
  after-problem : problem_refusal ws ≡ 0 → replay_refusal ws trace ≡ first ((bad_trace trace, 51) ∷ [])
  unfolding replay_refusal problem_refusal
  after-problem e = first-passed 10 (problem_tests most_rows ws) ((bad_trace trace, 51) ∷ []) (numbered most_rows ws) e

  pub refused-problem : (k : ℕ) → k ≡ problem_refusal ws → k ≢ 0 → k ≡ replay_refusal ws trace
  unfolding replay_refusal problem_refusal
  refused-problem zero e n = absurd (n refl)
  refused-problem (suc k) e n = sym (first-kept (problem_tests most_rows ws) ((bad_trace trace, 51) ∷ []) k (sym e))

  pub refused-left-over : problem_refusal ws ≡ 0 → length trace % 3 ≢ 0 → 51 ≡ replay_refusal ws trace
  unfolding bad_trace
  refused-left-over e n =
      sym (after-problem e ∙ first-hit 51 [] (tells-true (tells-not (tells-eq (length trace % 3) 0)) n))

  pub refused-none : problem_refusal ws ≡ 0 → length trace % 3 ≡ 0 → 0 ≡ replay_refusal ws trace
  unfolding bad_trace first
  refused-none e z =
      sym (after-problem e ∙ first-skip 51 [] (tells-false (tells-not (tells-eq (length trace % 3) 0)) z))

-- the answer, and the number of its refusal
abbrev pub in_number : Result Replayed Refusal → Result Replayed ℕ
in_number (Ok x) = Ok x
in_number (Err x) = Err (number_of x)

pub told-as : (a : Result Replayed Refusal) (k : ℕ) (r : rules.Replayed) → told_by a ≡ k →
    IfOk a (λ x. x ≡ replayed_by r) → told_of (in_number a) ≡ told_as k r
told-as (Ok x) zero r e h = ap (λ y. told_of (Ok y)) h
told-as (Ok x) (suc k) r e h = let z : ⊥ = omega arith in absurd z
told-as (Err x) zero r e h = absurd (number-some x e)
told-as (Err x) (suc k) r e h = ap (λ n. record { number = n; word = 0; step = 0 }) e
