-- Whatever a run answers with verdict 1 or 2 is accepted, with any words after it.
--   Decided            the verdict is 1 or 2
--   step-judged        the words of a step's outcome, from any sound state that is kept
--   answer-judged      the answer of a check from any state that is ready and kept
--   answer-accepted    of accepted words: the checker's number is 8
--   answer-not-range   the same of any verdict but out of range
--   written-accepted   what the solver leaves in an output, handed to the checker as it is, gives 8
use mathlib.Core.List.{List, ◌++◌}
use mathlib.Core.Logic.{inl, inr, ◌≢◌, ◌⊎◌}
use mathlib.Core.Option.{Option, none, some}
use mathlib.Core.Path.{refl, subst, sym, ◌∙◌, ◌≡◌}
use Prim.Native.Nat.{ℕ, ◌*◌, ◌+◌, ◌<◌, ◌≤◌}
use native.Mathlib.Omega.{arith}
use lib.IntN.{pos, ℤ}
use lib.ListN.{get_or-append, drop, length}
use Rattle.whole.proofs.Values.Beside.{pairs-laws}
use Rattle.whole.specs.Numbers.{Within}
use Rattle.whole.specs.Values.{pairs}
use Rattle.rules.proofs.Answer.Run.{answer-crossed, answer-run, crosses-exactly}
use Rattle.rules.proofs.Termination.Ends.{ready-start}
use Rattle.rules.proofs.Evidence.Own.Can.{can-shown}
use Rattle.rules.proofs.Evidence.Own.Cannot.{cannot-shown}
use Rattle.rules.proofs.Evidence.Checked.{checked-accepted}
use Rattle.rules.proofs.Evidence.Own.Crossed.{crossed-shown, mapped-some}
use Rattle.rules.proofs.Evidence.Own.Seats.{values-after, values-start}
use Rattle.rules.proofs.Evidence.Own.Words.{Judged, can-words, cannot-words}
use Rattle.rules.proofs.Run.Numbers.{kept-after, kept-begin}
use Rattle.rules.proofs.Step.Leaving.{left}
use Rattle.rules.proofs.Step.Cases.{Stepped, is-can, is-cannot, is-goes, is-range, stepped}
use Rattle.rules.proofs.Refusal.Accepted.{inset-within, lower-within, n-few, outset-within, upper-within}
use Rattle.rules.proofs.Refusal.Exactly.{accepted-exactly, answered-exactly}
use Rattle.rules.proofs.Answer.Shape.{answer-shaped}
use Rattle.rules.specs.Answer.{answer, answer_from, words_of, written}
use Rattle.rules.specs.Facts.Answer.{Decided, Shape, laid, shape-can, shape-cannot, shape-range}
use Rattle.rules.specs.Evidence.{checked, verdict_of}
use Rattle.rules.specs.Limit.{Limit, lower_pair, upper_pair}
use Rattle.rules.specs.Problem.{Problem, inner, answer_length, problem, vars, vars_of}
use Rattle.rules.specs.Refusal.{Accepted, problem_refusal, refusal}
use Rattle.rules.specs.Run.{after, conflict}
use Rattle.rules.specs.Sizes.{largest_limit, most_columns, most_rows}
use Rattle.rules.specs.Facts.State.{Kept, Ready, Sound}
use Rattle.rules.specs.Step.{Outcome, State, common, evidence, same, seat, start, step}

undecided : {A : Type 0} (v : ℕ) → v ≢ 1 → v ≢ 2 → (pos v ≡ pos 1) ⊎ (pos v ≡ pos 2) → A
undecided v n m (inl d) = let z : v ≡ 1 = cc in absurd (n z)
undecided v n m (inr d) = let z : v ≡ 2 = cc in absurd (m z)

-- ---- values: limits, or 0

-- a value of the run: a limit's pair, or 0
abbrev pub LimitSized : ℤ × ℤ → Type 0
LimitSized x = Within x.0 largest_limit × Within x.1 1

module _ (P : Problem Limit) where
  pub low-modest : ((v : ℕ) (l : Limit) → v < vars P → P.lower v ≡ some l → Within l.plain largest_limit) →
      (v : ℕ) (x : ℤ × ℤ) → v < vars P → (inner P).lower v ≡ some x → LimitSized x
  low-modest f v x h e = let (l, p, q) = mapped-some lower_pair (P.lower v) x e in
      rw q (f v l h p, inset-within l.strict)

  pub high-modest : ((v : ℕ) (u : Limit) → v < vars P → P.upper v ≡ some u → Within u.plain largest_limit) →
      (v : ℕ) (x : ℤ × ℤ) → v < vars P → (inner P).upper v ≡ some x → LimitSized x
  high-modest f v x h e = let (u, p, q) = mapped-some upper_pair (P.upper v) x e in
      rw q (f v u h p, outset-within u.strict)

-- ---- one step

module _ (P : Problem Limit) (s : State (ℤ × ℤ)) (rest : List ℤ) (S : Sound pairs (inner P) s)
    (K : Kept pairs (inner P) s) (few : P.n ≤ most_columns)
    (values : (v : ℕ) (x : ℤ × ℤ) → seat s v ≡ some x → LimitSized x) where
  -- what an outcome at s answers, where it decides
  abbrev Right : ℕ → Outcome (ℤ × ℤ) → Type 0
  Right k o = let a : List ℤ = words_of (inner P) (record { how = o; pivots = k; last = s }) in
      Decided a → Judged P (a ++ rest)

  step-judged : (k : ℕ) → Right k (step pairs (inner P) s)
  unfolding words_of evidence laid
  step-judged k = go (stepped pairs (inner P) s)
    where
      by-step : (o : Outcome (ℤ × ℤ)) → step pairs (inner P) s ≡ o → Right k o → Right k (step pairs (inner P) s)
      by-step o e r = subst (Right k) (sym e) r

      go : Stepped pairs (inner P) s → Right k (step pairs (inner P) s)
      go (is-can q e) = by-step _ e (λ d. can-words P (pos k) rest (common s) _ _
          (can-shown P s S K few values q))
      go (is-cannot r q n e) =
          by-step _ e (λ d. cannot-words P (pos k) rest _ _
          (cannot-shown P s S.rowed K r (left pairs (inner P) s r q) n))
      go (is-range r w q n f e) =
          by-step _ e (undecided 3 (λ e. let z : ⊥ = omega arith in z) (λ e. let z : ⊥ = omega arith in z))
      go (is-goes r w q n f e) =
          by-step _ e (undecided 0 (λ e. let z : ⊥ = omega arith in z) (λ e. let z : ⊥ = omega arith in z))

-- ---- the answer, from any state that is ready and kept

module _ (P : Problem Limit) (s : State (ℤ × ℤ)) (rest : List ℤ) (few : P.n ≤ most_columns)
    (low : (v : ℕ) (l : Limit) → v < vars P → P.lower v ≡ some l → Within l.plain largest_limit)
    (high : (v : ℕ) (u : Limit) → v < vars P → P.upper v ≡ some u → Within u.plain largest_limit)
    (values : (v : ℕ) (x : ℤ × ℤ) → seat s v ≡ some x → LimitSized x) (R : Ready pairs (inner P) s)
    (K : Kept pairs (inner P) s)
  where
    pub answer-judged : Decided (answer_from (inner P) s) → Judged P (answer_from (inner P) s ++ rest)
    unfolding laid
    answer-judged = go (conflict pairs (inner P)) refl
      where
        go : (o : Option ℕ) → conflict pairs (inner P) ≡ o → Decided (answer_from (inner P) s) →
            Judged P (answer_from (inner P) s ++ rest)
        go none e = let T = answer-run (inner P) s e R in
            rw T.words (step-judged P (after pairs (inner P) s T.count) rest T.sound
            (kept-after pairs (inner P) s R.rowed K T.count) few
            (values-after pairs (inner P) LimitSized (low-modest P low)
            (high-modest P high) s R.rowed values T.count)
            T.count)
        go (some v) e = let c = (crosses-exactly pairs (inner P) v).0 e in
            rw (answer-crossed (inner P) s v e) (λ d. cannot-words P (pos 0) rest (same v) (same v)
            (crossed-shown P v c.0 c.1))

-- ---- accepted words

module _ (ws rest : List ℤ) (A : Accepted most_rows ws) where
  -- whatever is answered with verdict 1 or 2 gets 8
  pub answer-accepted : Decided (answer ws) → checked ws (answer ws ++ rest) ≡ 8
  unfolding answer problem_refusal problem
  answer-accepted d = (checked-accepted ws (answer ws ++ rest)).1
      ((accepted-exactly most_rows ws).1 A, J.enough, J.judged)
    where
      P : Problem Limit
      P = problem ws

      J : Judged P (answer ws ++ rest)
      J = answer-judged P (start pairs (inner P)) rest (n-few A) (lower-within A) (upper-within A)
          (values-start pairs (inner P) LimitSized (low-modest P (lower-within A)) (high-modest P (upper-within A))
          (record { within = omega arith }, record { within = omega arith }))
          (ready-start pairs pairs-laws (inner P)) (kept-begin A) d

  -- .. that is, with any verdict but out of range
  answer-not-range : verdict_of (answer ws) ≢ pos 3 → checked ws (answer ws ++ rest) ≡ 8
  answer-not-range n = go (answer-shaped ws).shape
    where
      go : Shape (vars_of ws) (answer ws) → checked ws (answer ws ++ rest) ≡ 8
      go (shape-can v d) = answer-accepted (inl v)
      go (shape-cannot v d) = answer-accepted (inr v)
      go (shape-range v d z) = absurd (n v)

-- what the solver leaves in an output with room enough: any verdict but out of range gets 8
pub written-accepted : (ws before : List ℤ) → refusal ws (length before) ≡ 0 → verdict_of (written 0 ws before) ≢ pos
    3 →
    checked ws (written 0 ws before) ≡ 8
unfolding written
written-accepted ws before e n = answer-not-range ws (drop (answer_length ws) before)
    ((answered-exactly ws (length before)).0 e).0
    (λ q. n (get_or-append (answer ws) (drop (answer_length ws) before) (pos 0) 0 some_word ∙ q))
  where
    some_word : 0 < length (answer ws)
    some_word = let m : length (answer ws) ≡ 3 + 2 * vars_of ws = (answer-shaped ws).many in omega arith
