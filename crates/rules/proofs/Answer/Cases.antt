-- The four answers there are, with what each knows: crossed limits, or the state at which the run ends.
--   verdict-word, denominator-word, lower-part, upper-part, laid-length    the parts of its words, `laid`
--   answered       `Answered` of specs/Facts/Answer, of any state that is ready
use mathlib.Core.List.{List, ◌++◌, ◌∷◌}
use mathlib.Core.Logic.{◌≢◌}
use mathlib.Core.Option.{Option, none, some}
use mathlib.Core.Path.{ap, refl, subst, sym, ◌∙◌, ◌≡◌}
use Prim.Native.Nat.{suc, ℕ, ◌*◌, ◌+◌, ◌<◌}
use native.Mathlib.Omega.{arith}
use lib.IntN.{nat_abs, pos, ℤ}
use lib.ListN.{get_or-append, length, length-append, replicate, replicate-append-replicate}
use lib.Seq.{get_or-append-add}
use Rattle.whole.specs.Values.{pairs}
use Rattle.rules.proofs.Answer.Run.{answer-crossed, answer-run}
use Rattle.rules.proofs.Step.Blame.{cannot-blames}
use Rattle.rules.proofs.Run.Steady.{rowed-after}
use Rattle.rules.proofs.Step.Cases.{Stepped, is-can, is-cannot, is-goes, is-range, stepped}
use Rattle.rules.specs.Answer.{answer_from, words_of}
use Rattle.rules.specs.Facts.Answer.{Answered, can-at, cannot-at, crossing, laid, range_at}
use Rattle.rules.specs.Evidence.{lower_part, upper_part, verdict_of}
use Rattle.rules.specs.Problem.{Problem, vars, word}
use Rattle.rules.specs.Run.{Ended, after, conflict}
use Rattle.rules.specs.Facts.State.{Ready, Rowed}
use Rattle.rules.specs.Step.{Outcome, State, evidence, step}
use Rattle.rules.specs.Facts.Run.{TheRun, ended}

module _ (a b c : ℤ) (xs ys : List ℤ) where
  pub verdict-word : word (laid a b c xs ys) 0 ≡ a
  unfolding laid
  verdict-word = refl

  pub denominator-word : word (laid a b c xs ys) 2 ≡ c
  unfolding laid
  denominator-word = refl

  pub laid-length : (N : ℕ) → length xs ≡ N → length ys ≡ N → length (laid a b c xs ys) ≡ 3 + 2 * N
  unfolding laid
  laid-length N p q = simp (length-append) (omega arith)

  pub lower-part : (v : ℕ) → v < length xs → lower_part (laid a b c xs ys) v ≡ word xs v
  unfolding laid
  lower-part v h = let z : 3 + v ≡ suc (suc (suc v)) = omega arith in rw z (get_or-append xs ys (pos 0) v h)

  pub upper-part : (N v : ℕ) → length xs ≡ N → upper_part N (laid a b c xs ys) v ≡ word ys v
  unfolding laid
  upper-part N v e = let z : 3 + N + v ≡ suc (suc (suc (length xs + v))) = omega arith in
      rw z (get_or-append-add xs ys v (pos 0))

module _ (P : Problem (ℤ × ℤ)) (s : State (ℤ × ℤ)) where
  words-at : (k : ℕ) (o : Outcome (ℤ × ℤ)) → step pairs P (after pairs P s k) ≡ o →
      words_of P (ended pairs P s k) ≡ words_of P (record { how = o; pivots = k; last = after pairs P s k })
  words-at k o e = ap (λ (h : Outcome (ℤ × ℤ)). words_of P (record { how = h; pivots = k; last = after pairs P s k })) e

  zeros : replicate (2 * vars P) (pos 0) ≡ replicate (vars P) (pos 0) ++ replicate (vars P) (pos 0)
  zeros = ap (λ k. replicate k (pos 0)) (let z : 2 * vars P ≡ vars P + vars P = omega arith in z)
      ∙ sym (replicate-append-replicate (vars P) (vars P) (pos 0))

  of-run : Rowed pairs P s → (R : TheRun P s) → Stepped pairs P (after pairs P s R.count) → Answered P s
  unfolding laid words_of evidence
  of-run S R (is-can q e) = can-at R q (R.words ∙ words-at R.count _ e)
  of-run S R (is-cannot r q n e) = cannot-at R _ _
      (cannot-blames pairs P (after pairs P s R.count) _ _ (rowed-after pairs P s S R.count) e)
      (R.words ∙ words-at R.count _ e)
  of-run S R (is-range r w q y f e) = range_at R e
      (R.words ∙ words-at R.count _ e ∙ ap (λ l. pos 3 ∷ pos R.count ∷ pos 0 ∷ l) zeros)
  of-run S R (is-goes r w q y f e) = absurd (subst Ended e R.ends.ended)

  pub answered : Ready pairs P s → Answered P s
  unfolding laid
  answered S = go (conflict pairs P) refl
    where
      go : (o : Option ℕ) → conflict pairs P ≡ o → Answered P s
      go (some v) e = crossing v e (answer-crossed P s v e)
      go none e = let R = answer-run P s e S in of-run S.rowed R (stepped pairs P (after pairs P s R.count))

  -- the answer has one verdict
  pub other-verdict : {A : Type 0} (j k : ℕ) (b c : ℤ) (xs ys : List ℤ) → j ≢ k →
      answer_from P s ≡ laid (pos k) b c xs ys → verdict_of (answer_from P s) ≡ pos j → A
  other-verdict j k b c xs ys n z e = absurd
      (n (ap nat_abs (sym e ∙ ap (λ a. word a 0) z ∙ verdict-word (pos k) b c xs ys)))
