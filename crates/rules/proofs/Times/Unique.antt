-- What the promise of `times` leaves open, and what it does not.
--   times-only      two allowed results are equal, but where no times meet all rows each may name its own bad cycle:
--                   `Free`
--   answer-long     the answer has 2 + 2n words
--   times-length    the output is as long as before
--   times-past      words past 2 + 2n are as they were
--   times-kept      a refusal keeps every word of the output
use mathlib.Core.Path.{◌≡◌, refl, sym, ◌∙◌, ap}
use mathlib.Core.Bool.{true, false, cond}
use mathlib.Core.List.{List, ◌∷◌, ◌++◌, map}
use mathlib.Core.Logic.{◌⊎◌, ◌≢◌, inl, inr}
use Prim.Native.Nat.{ℕ, zero, suc, ◌*◌}
use native.Mathlib.Omega.{arith}
use lib.IntN.{ℤ, pos}
use lib.ListN.{length, drop, length-append, length-drop, length-map, length-replicate}
use lib.Seq.{drop-append_seam}
use Rattle.whole.specs.Values.{pairs}
use Rattle.whole.proofs.Bools.{either}
use Rattle.whole.proofs.Values.Beside.{pairs-laws}
use Rattle.rules.specs.Problem.{n_of}
use Rattle.rules.specs.Times.Passes.{distances, can_meet}
use Rattle.rules.specs.Times.Cycle.{BadCycle}
use Rattle.rules.specs.Times.Words.{times_length, AcceptedTimes, time_edges}
use Rattle.rules.specs.Times.Answer.{plain_time, small_time, times_of, cycle_words, times_answer, times_written, Timed}
use Rattle.rules.proofs.Times.Decide.{cycle-short, distances-long}
use Rattle.rules.proofs.Times.Refused.{accepted-ends, times-accepted-exactly}

-- where two results that it allows may differ: each names a bad cycle
pub record Free (ws : List ℤ) (r : ℕ) (rows other : List ℕ) : Type 0 where
  pub answered : r ≡ 0
  pub cannot : can_meet pairs (time_edges ws) ≡ false
  pub bad : BadCycle pairs (time_edges ws) rows
  pub other-bad : BadCycle pairs (time_edges ws) other

-- the answer, by whether times meet all rows
pub answer-can : (ws : List ℤ) (rows : List ℕ) → can_meet pairs (time_edges ws) ≡ true →
    times_answer ws rows ≡ pos 1 ∷ pos (n_of ws) ∷ times_of ws
unfolding times_answer
answer-can ws rows e =
    ap (λ b. cond b (pos 1 ∷ pos (n_of ws) ∷ times_of ws)
    (pos 2 ∷ pos (length rows) ∷ cycle_words (2 * n_of ws) rows)) e

pub answer-cannot : (ws : List ℤ) (rows : List ℕ) → can_meet pairs (time_edges ws) ≡ false →
    times_answer ws rows ≡ pos 2 ∷ pos (length rows) ∷ cycle_words (2 * n_of ws) rows
unfolding times_answer
answer-cannot ws rows e =
    ap (λ b. cond b (pos 1 ∷ pos (n_of ws) ∷ times_of ws)
    (pos 2 ∷ pos (length rows) ∷ cycle_words (2 * n_of ws) rows)) e

kept_same : (k : ℕ) (ws : List ℤ) (rows other : List ℕ) (before : List ℤ) →
    times_written (suc k) ws rows before ≡ times_written (suc k) ws other before
unfolding times_written
kept_same k ws rows other before = refl

met-same : (ws : List ℤ) (rows other : List ℕ) (before : List ℤ) → can_meet pairs (time_edges ws) ≡ true →
    times_written 0 ws rows before ≡ times_written 0 ws other before
unfolding times_written
met-same ws rows other before e =
    ap (λ l. l ++ drop (times_length ws) before) (answer-can ws rows e ∙ sym (answer-can ws other e))

pub times-only : (ws before : List ℤ) (r q : ℕ) (a c : List ℤ) (x : Timed ws before r a) (y : Timed ws before q c) →
    (r ≡ q) × ((a ≡ c) ⊎ Free ws r x.rows y.rows)
times-only ws before r q a c x y = (same, go r refl (either (can_meet pairs (time_edges ws))))
  where
    same : r ≡ q
    same = x.refused ∙ sym y.refused

    as-r : c ≡ times_written r ws y.rows before
    as-r = y.written ∙ ap (λ k. times_written k ws y.rows before) (sym same)

    -- where the rows are not written
    written : (k : ℕ) → r ≡ k → times_written k ws x.rows before ≡ times_written k ws y.rows before → a ≡ c
    written k e f = x.written ∙ ap (λ j. times_written j ws x.rows before) e ∙ f
        ∙ ap (λ j. times_written j ws y.rows before) (sym e) ∙ sym as-r

    go : (k : ℕ) → r ≡ k → (can_meet pairs (time_edges ws) ≡ true) ⊎ (can_meet pairs (time_edges ws) ≡ false) →
        (a ≡ c) ⊎ Free ws r x.rows y.rows
    go (suc k) e t = inl (written (suc k) e (kept_same k ws x.rows y.rows before))
    go zero e (inl t) = inl (written 0 e (met-same ws x.rows y.rows before t))
    go zero e (inr t) =
        inr (record { answered = e; cannot = t; bad = x.named e t; other-bad = y.named (sym same ∙ e) t })

-- ---- the output's length, and what is past the answer

-- each half of the times has a word for each vertex
pub half-long : {ws : List ℤ} {room : ℕ} → AcceptedTimes ws room → (part : ℤ × ℤ → ℤ) →
    length (map part (distances pairs (time_edges ws))) ≡ n_of ws
half-long {ws} A part =
    length-map (distances pairs (time_edges ws)) part ∙ distances-long pairs-laws (time_edges ws) (accepted-ends A)

pub times_long : {ws : List ℤ} {room : ℕ} → AcceptedTimes ws room → length (times_of ws) ≡ 2 * n_of ws
unfolding times_of
times_long {ws} A =
    length-append (map plain_time (distances pairs (time_edges ws))) (map small_time (distances pairs (time_edges ws)))
    ∙ omega (arith, half-long A plain_time, half-long A small_time)

pub cycle-long : {ws : List ℤ} {room : ℕ} → AcceptedTimes ws room → (rows : List ℕ) →
    BadCycle pairs (time_edges ws) rows → length (cycle_words (2 * n_of ws) rows) ≡ 2 * n_of ws
unfolding cycle_words
cycle-long {ws} A rows b =
    simp (length-append, length-map, length-replicate)
    (omega (arith, cycle-short (time_edges ws) rows (accepted-ends A) b.cycle))

answer-long : {ws : List ℤ} {room : ℕ} → AcceptedTimes ws room → (rows : List ℕ) →
    (can_meet pairs (time_edges ws) ≡ false → BadCycle pairs (time_edges ws) rows) →
    length (times_answer ws rows) ≡ times_length ws
answer-long {ws} A rows b = go (either (can_meet pairs (time_edges ws)))
  where
    go : (can_meet pairs (time_edges ws) ≡ true) ⊎ (can_meet pairs (time_edges ws) ≡ false) →
        length (times_answer ws rows) ≡ times_length ws
    go (inl e) = ap length (answer-can ws rows e) ∙ omega (arith, times_long A)
    go (inr e) = ap length (answer-cannot ws rows e) ∙ omega (arith, cycle-long A rows (b e))

pub times-length : (ws before : List ℤ) (r : ℕ) (after : List ℤ) → Timed ws before r after →
    length after ≡ length before
unfolding times_written
times-length ws before r after x = go r refl
  where
    go : (k : ℕ) → r ≡ k → length after ≡ length before
    go (suc k) e = ap length (x.written ∙ ap (λ j. times_written j ws x.rows before) e)
    go zero e =
        let A = (times-accepted-exactly ws (length before)).0 (sym x.refused ∙ e) in
        ap length (x.written ∙ ap (λ j. times_written j ws x.rows before) e)
        ∙ length-append (times_answer ws x.rows) (drop (times_length ws) before)
        ∙ omega (arith, answer-long A x.rows (x.named e), length-drop (times_length ws) before, A.roomy)

pub times-past : (ws before : List ℤ) (r : ℕ) (after : List ℤ) → Timed ws before r after →
    drop (times_length ws) after ≡ drop (times_length ws) before
unfolding times_written
times-past ws before r after x = go r refl
  where
    go : (k : ℕ) → r ≡ k → drop (times_length ws) after ≡ drop (times_length ws) before
    go (suc k) e = ap (drop (times_length ws)) (x.written ∙ ap (λ j. times_written j ws x.rows before) e)
    go zero e =
        let A : AcceptedTimes ws (length before) =
        (times-accepted-exactly ws (length before)).0 (sym x.refused ∙ e) in
        let l : length (times_answer ws x.rows) ≡ times_length ws = answer-long A x.rows (x.named e) in
        ap (drop (times_length ws)) (x.written ∙ ap (λ j. times_written j ws x.rows before) e)
        ∙ ap (λ n. drop n (times_answer ws x.rows ++ drop (times_length ws) before)) (sym l)
        ∙ drop-append_seam (times_answer ws x.rows) (drop (times_length ws) before)

pub times-kept : (ws before : List ℤ) (r : ℕ) (after : List ℤ) → Timed ws before r after → r ≢ 0 → after ≡ before
unfolding times_written
times-kept ws before r after x n = x.written ∙ go r n
  where
    go : (k : ℕ) → k ≢ 0 → times_written k ws x.rows before ≡ before
    go zero m = absurd (m refl)
    go (suc k) m = refl
