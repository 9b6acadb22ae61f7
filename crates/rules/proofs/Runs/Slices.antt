-- A run cut anywhere is the run.
--   spent-to, cut-at         i pivots on with b to spend: at i + b pivots, or at the end of the run
--   told-ended, told-moves   where a step ends the run the words are told, and else nothing
--   answer-whole, answer-short     the answer comes with the last pivot, and is that of the uncut run; none comes
--                                  before
--   conflict-slice           crossed limits: finished at 0
--   sliced                   all of it, of any problem and state from which a check may start, crossed limits or not
--   cut_by, answer-by, none-by     continues one after the other, however the numbers are chosen
--   finished-again           a finished state stays, and answers the same
--   slices-only              once the numbers reach the end, the state is the same
--   on-way-start, on-way-more    every state that is handed back is on the way of its run
--   on-way-rowed, on-way-below     .. and what follows
--   on-way-apart             some pivots on, no limits cross
--   sliced-words, cut-answer       of words
-- `cut_at`, `Sliced` and `OnWay` are in specs/Facts/Runs/Slices.
use mathlib.Core.List.{List, [], ◌∷◌}
use mathlib.Core.Option.{Option, none, some}
use mathlib.Core.Path.{ap, refl, subst, sym, ◌∙◌, ◌≡◌}
use Prim.Native.Nat.{min, suc, zero, ℕ, ◌+◌, ◌-◌, ◌<◌, ◌≤◌}
use native.Mathlib.Decide.{dec_lt}
use native.Mathlib.Nat.{add-zero}
use native.Mathlib.Omega.{arith}
use lib.IntN.{pos, ℤ}
use Rattle.whole.proofs.Values.Beside.{pairs-laws}
use Rattle.whole.specs.Values.{Values, pairs}
use Rattle.rules.proofs.Answer.Run.{answer-crossed, answer-run, ending-crossed, spending-crossed, spending-run}
use Rattle.rules.proofs.Run.Once.{next-after, run-from, run_on}
use Rattle.rules.proofs.Run.Steady.{rowed-after}
use Rattle.rules.proofs.Termination.Bound.{bound_some}
use Rattle.rules.proofs.Termination.Ends.{ready-start}
use Rattle.rules.specs.Answer.{answer, answer_from, words_of}
use Rattle.rules.specs.Facts.Run.{TheRun, ended}
use Rattle.rules.specs.Facts.Runs.Slices.{OnWay, Sliced, cut, cut_at, first_slice, all_pivots}
use Rattle.rules.specs.Facts.State.{Ready, Rowed}
use Rattle.rules.specs.Problem.{Problem, inner, problem, word}
use Rattle.rules.specs.Run.{Ended, Ending, Ends, Moves, after, bound, conflict, run, spending}
use Rattle.rules.specs.Runs.Slices.{Slice, begun, continued, continued_by, slice_answer, told}
use Rattle.rules.specs.Step.{Outcome, State, can, cannot, goes, range, start}

module _ {X : Type 0} (𝓥 : Values X) (P : Problem X) (s : State X) where
  module _ (k : ℕ) (E : Ends 𝓥 P s k) where
    run-cut : (f i : ℕ) → i + f ≤ k → run 𝓥 f P (after 𝓥 P s i) i ≡ ended 𝓥 P s (i + f)
    unfolding run
    run-cut zero i h = ap (ended 𝓥 P s) (sym (add-zero i))
    run-cut (suc f) i h =
        run_on 𝓥 f P (after 𝓥 P s i) (after 𝓥 P s (suc i)) i (next-after 𝓥 P s i (E.runs i (omega arith)))
        ∙ run-cut f (suc i) (omega arith) ∙ ap (ended 𝓥 P s) (let z : suc i + f ≡ i + suc f = omega arith in z)

    module _ (c : conflict 𝓥 P ≡ none) where
      -- with b to spend at i pivots, the run comes to i + b, or to its end
      pub spent-to : (b i : ℕ) → i ≤ k → spending 𝓥 b P (after 𝓥 P s i) i ≡ ended 𝓥 P s (min k (i + b))
      spent-to b i g = spending-run 𝓥 P c b (after 𝓥 P s i) i ∙ go (dec_lt k (i + b))
        where
          go : Dec (k < i + b) → run 𝓥 b P (after 𝓥 P s i) i ≡ ended 𝓥 P s (min k (i + b))
          go (yes h) = run-from 𝓥 (k - i) b i k P s (omega arith) (omega arith) E
              ∙ ap (ended 𝓥 P s) (let z : k ≡ min k (i + b) = omega arith in z)
          go (no h) = run-cut b i (omega arith) ∙ ap (ended 𝓥 P s) (let z : i + b ≡ min k (i + b) = omega arith in z)

      pub cut-at : (b i : ℕ) → i ≤ k → continued 𝓥 (cut_at 𝓥 P s i) b ≡ cut_at 𝓥 P s (min k (i + b))
      unfolding continued
      cut-at b i g = ap (λ (e : Ending X). record { problem = P; state = e.last; count = e.pivots }) (spent-to b i g)

  -- where limits cross no pivot is made
  module _ (v : ℕ) (e : conflict 𝓥 P ≡ some v) (k : ℕ) where
    abbrev here : Slice X
    here = record { problem = P; state = s; count = k }

    crossed-stays : (b : ℕ) → continued 𝓥 here b ≡ here
    unfolding continued
    crossed-stays b = ap (λ (d : Ending X). record { problem = P; state = d.last; count = d.pivots })
        (spending-crossed 𝓥 P v e b s k)

-- ---- the answer

pub told-ended : (P : Problem (ℤ × ℤ)) (o : Outcome (ℤ × ℤ)) (k : ℕ) (s : State (ℤ × ℤ)) → Ended o →
    told P (record { how = o; pivots = k; last = s }) ≡ some (words_of P (record { how = o; pivots = k; last = s }))
unfolding told
told-ended P can k s e = refl
told-ended P (cannot ls us) k s e = refl
told-ended P range k s e = refl
told-ended P (goes t) k s e = absurd e

pub told-moves : (P : Problem (ℤ × ℤ)) (o : Outcome (ℤ × ℤ)) (k : ℕ) (s : State (ℤ × ℤ)) → Moves o →
    told P (record { how = o; pivots = k; last = s }) ≡ none
unfolding told
told-moves P can k s e = absurd e
told-moves P (cannot ls us) k s e = absurd e
told-moves P range k s e = absurd e
told-moves P (goes t) k s e = refl

module _ (P : Problem (ℤ × ℤ)) (s : State (ℤ × ℤ)) (T : TheRun P s) (b i : ℕ) (g : i ≤ T.count) where
  spent : spending pairs b P (after pairs P s i) i ≡ ended pairs P s (min T.count (i + b))
  spent = spent-to pairs P s T.count T.ends T.uncrossed b i g

  answer-whole : T.count ≤ i + b → slice_answer (cut_at pairs P s i) b ≡ some (answer_from P s)
  unfolding slice_answer
  answer-whole h = let z : min T.count (i + b) ≡ T.count = omega arith in
      ap (told P) (spent ∙ ap (ended pairs P s) z)
      ∙ told-ended P _ T.count _ T.ends.ended ∙ ap some (sym T.words)

  answer-short : i + b < T.count → slice_answer (cut_at pairs P s i) b ≡ none
  unfolding slice_answer
  answer-short h = let z : min T.count (i + b) ≡ i + b = omega arith in ap (told P) (spent ∙ ap (ended pairs P s) z)
      ∙ told-moves P _ (i + b) _ (T.ends.runs (i + b) h)

-- ---- of any problem and state

module _ (P : Problem (ℤ × ℤ)) (s : State (ℤ × ℤ)) where
  of-run : TheRun P s → Sliced P s
  of-run T = record {
    count = T.count;
    word-1 = T.word-1;
    below = T.below;
    moves = cut-at pairs P s T.count T.ends T.uncrossed;
    answers = answer-whole P s T;
    goes_on = λ b i h. answer-short P s T b i (omega arith) h;
  }

  module _ (v : ℕ) (e : conflict pairs P ≡ some v) where
    -- finished at 0
    pub conflict-slice : (b : ℕ) →
        (continued pairs (first_slice P s) b ≡ first_slice P s) ×
        (slice_answer (first_slice P s) b ≡ some (answer_from P s))
    unfolding slice_answer answer_from
    conflict-slice b = (
      crossed-stays pairs P s v e 0 b,
      ap (told P) (spending-crossed pairs P v e b s 0) ∙ told-ended P _ 0 s tt
          ∙ ap (λ d. some (words_of P d)) (sym (ending-crossed pairs P s v e)),
    )

    of-crossed : Sliced P s
    unfolding after
    of-crossed = record {
      count = 0;
      word-1 = ap (λ a. word a 1) (answer-crossed P s v e);
      below = bound_some P;
      moves = λ b i h. let z : i ≡ 0 = omega arith in ap (λ j. continued pairs (cut P s j) b) z ∙ (conflict-slice b).0
          ∙ ap (cut P s) (let y : 0 ≡ min 0 (i + b) = omega arith in y);
      answers = λ b i h k. let z : i ≡ 0 = omega arith in ap (λ j. slice_answer (cut P s j) b) z ∙ (conflict-slice b).1;
      goes_on = λ b i h. let z : ⊥ = omega arith in absurd z;
    }

  pub sliced : Ready pairs P s → Sliced P s
  sliced R = go (conflict pairs P) refl
    where
      go : (o : Option ℕ) → conflict pairs P ≡ o → Sliced P s
      go none e = of-run (answer-run P s e R)
      go (some v) e = of-crossed v e

  module _ (S : Sliced P s) where
    -- however the numbers are chosen
    from-by : (bs : List ℕ) (i : ℕ) → i ≤ S.count →
        continued_by pairs (cut P s i) bs ≡ cut P s (min S.count (i + all_pivots bs))
    unfolding continued_by
    from-by [] i h = ap (cut P s) (let z : i ≡ min S.count (i + 0) = omega arith in z)
    from-by (b ∷ bs) i h = ap (λ A. continued_by pairs A bs) (S.moves b i h)
        ∙ from-by bs (min S.count (i + b)) (omega arith)
        ∙ ap (cut P s) (let z : min S.count (min S.count (i + b) + all_pivots bs)
        ≡ min S.count (i + (b + all_pivots bs)) = omega arith in z)

    pub cut_by : (bs : List ℕ) → continued_by pairs (first_slice P s) bs ≡ cut P s (min S.count (all_pivots bs))
    unfolding after
    cut_by bs = from-by bs 0 (omega arith)
        ∙ ap (λ j. cut P s (min S.count j)) (let z : 0 + all_pivots bs ≡ all_pivots bs = omega arith in z)

    pub answer-by : (bs : List ℕ) (b : ℕ) → S.count ≤ all_pivots bs + b →
        slice_answer (continued_by pairs (first_slice P s) bs) b ≡ some (answer_from P s)
    answer-by bs b h = ap (λ A. slice_answer A b) (cut_by bs)
        ∙ S.answers b (min S.count (all_pivots bs)) (omega arith) (omega arith)

    pub none-by : (bs : List ℕ) (b : ℕ) → all_pivots bs + b < S.count →
        slice_answer (continued_by pairs (first_slice P s) bs) b ≡ none
    none-by bs b h = ap (λ A. slice_answer A b) (cut_by bs) ∙ S.goes_on b (min S.count (all_pivots bs)) (omega arith)

    pub finished-again : (b : ℕ) →
        (continued pairs (cut P s S.count) b ≡ cut P s S.count)
        × (slice_answer (cut P s S.count) b ≡ some (answer_from P s))
    finished-again b = let z : min S.count (S.count + b) ≡ S.count = omega arith in
        (S.moves b S.count (omega arith) ∙ ap (cut P s) z, S.answers b S.count (omega arith) (omega arith))

    pub slices-only : (bs cs : List ℕ) → S.count ≤ all_pivots bs → S.count ≤ all_pivots cs →
        continued_by pairs (first_slice P s) bs ≡ continued_by pairs (first_slice P s) cs
    slices-only bs cs h k = let z : min S.count (all_pivots bs) ≡ min S.count (all_pivots cs) = omega arith in
        cut_by bs ∙ ap (cut P s) z ∙ sym (cut_by cs)

-- ---- a state on the way of its run: what every state has that a start or a continue hands back

pub on-way-start : (P : Problem (ℤ × ℤ)) (s : State (ℤ × ℤ)) → Ready pairs P s → OnWay (first_slice P s)
unfolding after
on-way-start P s R = record { from = s; ready = R; run = sliced P s R; state-is = refl; reached = omega arith }

module _ (S : Slice (ℤ × ℤ)) (W : OnWay S) where
  abbrev P : Problem (ℤ × ℤ)
  P = S.problem

  abbrev way : ℕ → Slice (ℤ × ℤ)
  way = cut_at pairs P W.from

  slice_is : S ≡ way S.count
  slice_is = ap (λ x. record { problem = P; state = x; count = S.count }) W.state-is

  pub on-way-rowed : Rowed pairs P S.state
  on-way-rowed = rw W.state-is (rowed-after pairs P W.from W.ready.rowed S.count)

  pub on-way-below : S.count < bound P
  on-way-below = let a = W.reached in let b = W.run.below in omega arith

  pub on-way-apart : (v : ℕ) → conflict pairs P ≡ some v → S.count ≡ 0
  on-way-apart v e =
      let none_made : pos 0 ≡ pos W.run.count = sym (ap (λ l. word l 1) (answer-crossed P W.from v e))
      ∙ W.run.word-1 in let z : 0 ≡ W.run.count = cc in let h = W.reached in omega arith

  continued-is : (b : ℕ) → continued pairs S b ≡ way (min W.run.count (S.count + b))
  continued-is b = ap (λ A. continued pairs A b) slice_is ∙ W.run.moves b S.count W.reached

  pub on-way-more : (b : ℕ) → OnWay (continued pairs S b)
  on-way-more b = subst OnWay (sym (continued-is b))
      (record { from = W.from; ready = W.ready; run = W.run; state-is = refl; reached = omega arith })

-- ---- of words

module _ (ws : List ℤ) where
  pub sliced-words : Sliced (inner (problem ws)) (start pairs (inner (problem ws)))
  sliced-words = sliced (inner (problem ws)) (start pairs (inner (problem ws)))
      (ready-start pairs pairs-laws (inner (problem ws)))

  -- the words of the uncut run, and its count
  pub cut-answer : (bs : List ℕ) (b : ℕ) → sliced-words.count ≤ all_pivots bs + b →
      slice_answer (continued_by pairs (begun pairs (inner (problem ws))) bs) b ≡ some (answer ws)
  unfolding begun answer
  cut-answer = answer-by (inner (problem ws)) (start pairs (inner (problem ws))) sliced-words
