-- The two answers: what was written is what `times` promises for accepted words.
--   timed-refused      a refusal
--   timed-met          settled distances, and their times written
--   closed-gathering   the rows of a cycle are small numbers
--   timed-unmet        a bad cycle, and its rows written
use mathlib.Core.Path.{◌≡◌, refl, sym, ◌∙◌, ap, ap₂}
use mathlib.Core.Bool.{false}
use mathlib.Core.List.{List, [], ◌∷◌, ◌++◌, map}
use Prim.Native.Nat.{ℕ, zero, suc, ◌*◌, ◌-◌, ◌≤◌}
use native.Mathlib.Omega.{arith}
use lib.IntN.{ℤ, pos}
use lib.ListN.{length, take, drop, replicate}
use lib.Seq.{length-slice}
use Rattle.whole.specs.Values.{pairs}
use Rattle.whole.proofs.Values.Beside.{pairs-laws}
use Rattle.whole.proofs.Bools.{true-false}
use Rattle.rules.specs.Sizes.{most_vertices}
use Rattle.rules.specs.Problem.{n_of}
use Rattle.rules.specs.Times.Passes.{can_meet}
use Rattle.rules.specs.Times.Words.{times_length, time_refusal, AcceptedTimes, time_edges}
use Rattle.rules.specs.Times.Answer.{times_of, cycle_words, times_written, Timed}
use Rattle.rules.proofs.Times.Passes.Closed.{slice_at}
use Rattle.rules.proofs.Times.Decide.{cycle-short, bad-cannot}
use Rattle.rules.proofs.Times.Unique.{answer-can, answer-cannot}
use Rattle.rules.proofs.Times.Refused.{vertices-few, time-rows-few, accepted-ends, times-accepted-exactly}
use Rattle.lengths.specs.declared.answer.Halves.{Halves}
use Rattle.lengths.specs.declared.answer.Way.{Way}
use Rattle.lengths.specs.declared.Length.{Length}
use Rattle.lengths.specs.Answer.{Gathering, rows_of, output}
use Rattle.lengths.specs.Lengths.{plain_part, small_part}
use Rattle.lengths.proofs.Laws.Words.{words_take, words-twice, take-replicate}
use Rattle.timerows.proofs.Laws.Fine.{fine_of}
use Rattle.times.specs.Steps.{Settled, Closed}
use Rattle.times.proofs.Laws.Parts.{plain-times-are, small-times-are}

-- a refusal keeps the output
pub timed-refused : (ws before : List ℤ) (r : ℕ) → r ≡ time_refusal ws (length before) →
    (r ≡ 0 → ⊥) → Timed ws before r before
unfolding times_written
timed-refused ws before zero e n = absurd (n refl)
timed-refused ws before (suc r) e n = record { refused = e; rows = []; written = refl; named = λ z. absurd (n z) }

-- the halves of times, and of a cycle
abbrev pub halves_of : List Length → Halves
halves_of best = record { plain = map plain_part best; small = map small_part best }

abbrev pub halves-round : Way → Halves
halves-round w = record { plain = cycle_words most_vertices (rows_of w); small = replicate most_vertices (pos 0) }

module _ (ws before : List ℤ) (A : AcceptedTimes ws (length before)) where
  unrefused : 0 ≡ time_refusal ws (length before)
  unrefused = sym ((times-accepted-exactly ws (length before)).1 A)

  pub timed-met : (best : List Length) (after : List ℤ) (n : ℕ) → n ≡ n_of ws → Settled ws best →
      after ≡ output (pos 1) n (halves_of best) n before → Timed ws before 0 after
  unfolding times_written times_of
  timed-met best after n e s w = record {
    refused = unrefused;
    rows = [];
    written = w ∙ ap (λ k. output (pos 1) k (halves_of best) k before) e
        ∙ ap₂ (λ p q. pos 1 ∷ pos (n_of ws) ∷ (p ++ q) ++ drop (times_length ws) before)
        (plain-times-are ws (fine_of A) best s) (small-times-are ws (fine_of A) best s)
        ∙ ap (λ t. t ++ drop (times_length ws) before) (sym (answer-can ws [] s.can));
    named = λ z f. true-false s.can f;
  }

  module _ (w : Way) (long : length w.path ≡ most_vertices) (c : Closed ws w) where
    rows_long : length (rows_of w) ≡ w.to - w.from
    rows_long = length-slice w.from w.to w.path (omega (arith, c.in_path))

    pub closed-gathering : Gathering w
    closed-gathering = record {
      in_order = c.in_order;
      in_path = c.in_path;
      listed = λ k h. rw (sym (slice_at w.from w.to k w.path h))
          (omega (arith, c.bad.cycle.listed k (omega (arith, rows_long)), time-rows-few A));
    }

    pub timed-unmet : (after : List ℤ) (n : ℕ) → n ≡ n_of ws →
        after ≡ output (pos 2) (w.to - w.from) (halves-round w) n before →
        Timed ws before 0 after
    unfolding times_written
    timed-unmet after n e f = record {
      refused = unrefused;
      rows = rows_of w;
      written = f
          ∙ ap₂ (λ k q. output (pos 2) q (halves-round w) k before) e (sym rows_long)
          ∙ ap (λ t. pos 2 ∷ pos (length (rows_of w)) ∷ t ++ drop (times_length ws) before) words
          ∙ ap (λ t. t ++ drop (times_length ws) before) (sym (answer-cannot ws (rows_of w) cannot));
      named = λ z g. c.bad;
    }
      where
        short : length (rows_of w) ≤ n_of ws
        short = cycle-short (time_edges ws) (rows_of w) (accepted-ends A) c.bad.cycle

        words : take (n_of ws) (cycle_words most_vertices (rows_of w)) ++ take (n_of ws)
            (replicate most_vertices (pos 0))
            ≡ cycle_words (2 * n_of ws) (rows_of w)
        words =
            ap₂ (λ p q. p ++ q) (words_take (rows_of w) (n_of ws) short (vertices-few A))
            (take-replicate (n_of ws) most_vertices (pos 0) (vertices-few A))
            ∙ sym (words-twice (rows_of w) (n_of ws) short)

        cannot : can_meet pairs (time_edges ws) ≡ false
        cannot = bad-cannot pairs-laws (time_edges ws) (accepted-ends A) (rows_of w) c.bad
