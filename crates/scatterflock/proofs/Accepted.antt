-- What the solver and the check of a session leave is what the checker accepts, and what is traced is what a replay
-- accepts, over the functions' promises alone.
--   solved-accepted    the output of `scatterflock_solve` with verdict 1 or 2, handed to `scatterflock_check`, gives 8
--   solved-wide        .. and so it does, put into wide form, handed to `scatterflock_check_wide`
--   times-checked      the output of `scatterflock_times`, handed to `scatterflock_check_times`, gives 8
--   trace-replayed     the words that `scatterflock_trace` wrote, handed to `scatterflock_replay`, give 0
--   session-accepted   so does that of `scatterflock_session_check`, beside the words without the limits that are off
use mathlib.Core.List.{List, ◌++◌}
use mathlib.Core.Logic.{inl, inr, ◌≢◌, ◌⊎◌}
use mathlib.Core.Path.{ap, ap₂, refl, subst, sym, ◌∙◌, ◌≡◌}
use Prim.Native.Nat.{ℕ, ◌<◌}
use native.Mathlib.Omega.{arith}
use lib.IntN.{pos, ℤ}
use lib.ListN.{get_or-append, drop, length, take}
use Rattle.whole.specs.Values.{pairs}
use Rattle.rules.proofs.Evidence.Own.Accepted.{written-accepted}
use Rattle.rules.proofs.Runs.Replay.Own.{trace-front, traced-accepted}
use Rattle.rules.proofs.Runs.Session.Checked.{shaped-checked}
use Rattle.rules.proofs.Runs.Session.Demands.{eight-checked, fair-words}
use Rattle.rules.proofs.Times.Own.{times-own}
use Rattle.rules.proofs.Wide.Narrow.{wide-of-narrow}
use Rattle.rules.specs.Answer.{written}
use Rattle.rules.specs.Evidence.{checked, verdict_of}
use Rattle.rules.specs.Facts.Answer.{Decided}
use Rattle.rules.specs.Keeping.Words.{live_words}
use Rattle.rules.specs.Problem.{inner, problem, vars_of}
use Rattle.rules.specs.Refusal.{Accepted, refusal}
use Rattle.rules.specs.Runs.Replay.{accepted, replay_refusal, replayed_words}
use Rattle.rules.specs.Runs.Session.{Handed, Session, check_answer, check_length, check_output, is_on}
use Rattle.rules.specs.Runs.Trace.{own_step, run_count, trace_length, trace_output, trace_refusal, trace_words}
use Rattle.rules.specs.Sizes.{most_rows}
use Rattle.rules.specs.Times.Answer.{Timed}
use Rattle.rules.specs.Times.Check.{checked_times}
use Rattle.rules.specs.Wide.{checked_wide, wide_form}
use Rattle.replay.specs.declared.Told.{Told}
use Rattle.replay.specs.Replay.{told_as}
use Rattle.session.specs.declared.Checked.{Checked}
use Rattle.session.specs.Sessions.{CheckMeans}
use Rattle.traces.specs.declared.Traced.{Traced}
use Rattle.traces.specs.Traces.{traced_as}

not-range : (a : List ℤ) → Decided a → verdict_of a ≢ pos 3
not-range a (inl e) q = let z : pos 1 ≡ pos 3 = sym e ∙ q in let n : ◌≡◌ {A = ℕ} 1 3 = cc in absurd (omega arith)
not-range a (inr e) q = let z : pos 2 ≡ pos 3 = sym e ∙ q in let n : ◌≡◌ {A = ℕ} 2 3 = cc in absurd (omega arith)

-- `number` and `after` are what the solver promises of `before`, `judged` what the checker promises of `after`
pub solved-accepted : (ws before after : List ℤ) (number judged : ℕ) →
    number ≡ refusal ws (length before) → after ≡ written number ws before → judged ≡ checked ws after →
    number ≡ 0 → Decided after → judged ≡ 8
solved-accepted ws before after number judged n o j z d =
    j ∙ ap (checked ws) left
    ∙ written-accepted ws before (sym n ∙ z) (not-range (written 0 ws before) (subst Decided left d))
  where
    left : after ≡ written 0 ws before
    left = o ∙ ap (λ k. written k ws before) z

pub solved-wide : (ws before after : List ℤ) (number judged : ℕ) →
    number ≡ refusal ws (length before) → after ≡ written number ws before →
    judged ≡ checked_wide ws (wide_form (vars_of ws) after) → number ≡ 0 → Decided after → judged ≡ 8
solved-wide ws before after number judged n o j z d =
    j ∙ wide-of-narrow ws after (solved-accepted ws before after number (checked ws after) n o refl z d)

-- `number` and `after` are what the solver of time rows promises of `before`, `judged` what the checker promises
pub times-checked : (ws before after : List ℤ) (number judged : ℕ) →
    Timed ws before number after → judged ≡ checked_times ws after → number ≡ 0 → judged ≡ 8
times-checked ws before after number judged x j z =
    j ∙ times-own ws before after (subst (λ k. Timed ws before k after) z x)

-- `r` and `after` are what the trace of these words promises of `before`, `told` what a replay promises of the words
-- that were written
pub trace-replayed : (ws : List ℤ) (before after : List ℕ) (r : Traced) (told : Told) →
    r ≡ traced_as (trace_refusal ws (length before)) ws → after ≡ trace_output r.refused ws before →
    told ≡ told_as (replay_refusal ws (take r.count after)) (replayed_words ws (take r.count after)) →
    r.refused ≡ 0 → told ≡ record { number = 0; word = 0; step = 0 }
trace-replayed ws before after r told n o j z = j ∙ ap told_of_lem front
    ∙ ap₂ (λ k a. told_as k a) accepted-own.0 accepted-own.1
  where
    told_of_lem : List ℕ → Told
    told_of_lem trace = told_as (replay_refusal ws trace) (replayed_words ws trace)

    fine : trace_refusal ws (length before) ≡ 0
    fine = sym (ap (λ (x : Traced). x.refused) n) ∙ z

    count-is : r.count ≡ trace_length ws
    count-is = ap (λ (x : Traced). x.count) (n ∙ ap (λ k. traced_as k ws) fine)

    front : take r.count after ≡ trace_words (run_count ws) (own_step ws)
    front = ap₂ take count-is (o ∙ ap (λ k. trace_output k ws before) z) ∙ trace-front ws before

    accepted-own : (replay_refusal ws (trace_words (run_count ws) (own_step ws)) ≡ 0)
        × (replayed_words ws (trace_words (run_count ws) (own_step ws)) ≡ accepted)
    accepted-own = traced-accepted ws (length before) fine

-- the verdict of an answer with more words behind it is the answer's
decided-front : (a rest : List ℤ) → 0 < length a → Decided (a ++ rest) → Decided a
decided-front a rest h d = subst (λ v. (v ≡ pos 1) ⊎ (v ≡ pos 2)) (get_or-append a rest (pos 0) 0 h) d

-- `r` and `after` are what the check of a session that was handed back promises of `before`
module _ (ws : List ℤ) (W : Accepted most_rows ws) (A : Session (ℤ × ℤ)) (H : Handed pairs (inner (problem ws)) A) where
  pub session-accepted : (before after : List ℤ) (r : Checked) (judged : ℕ) → CheckMeans A before r after →
      judged ≡ checked (live_words (is_on A) ws) after → r.refused ≡ 0 → Decided after → judged ≡ 8
  session-accepted before after r judged M j z d =
      j ∙ ap (checked (live_words (is_on A) ws)) left
      ∙ eight-checked ws W A H rest (decided-front (check_answer A) rest some_words (subst Decided left d))
    where
      rest : List ℤ
      rest = drop (check_length A) before

      left : after ≡ check_answer A ++ rest
      left = M.output ∙ ap (λ k. check_output k A before) z

      some_words : 0 < length (check_answer A)
      some_words = let n = (shaped-checked A (fair-words ws W A H)).many in omega arith
