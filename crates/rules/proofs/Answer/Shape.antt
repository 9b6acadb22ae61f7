-- The shape of an answer: 3 + 2N words, a verdict 1, 2 or 3, never 0; word 2 and the zeros as docs/RULES.md says for
-- each.
--   shaped          `Shaped` of specs/Facts/Answer, of the answer from any state that is ready
--   answer-shaped   of the answer to any words
--   never-zero      no verdict is 0
use mathlib.Core.List.{List}
use mathlib.Core.Logic.{◌≢◌}
use mathlib.Core.Path.{◌∙◌, ◌≡◌}
use Prim.Native.Nat.{ℕ, ◌<◌}
use lib.IntN.{pos, ℤ}
use lib.ListN.{get_or-replicate, length, length-replicate, replicate}
use lib.Signed.{◌<ℤ◌}
use Rattle.whole.proofs.Bools.{zero_one}
use Rattle.whole.proofs.Values.Beside.{pairs-laws}
use Rattle.whole.proofs.Lists.Tables.{table-length}
use Rattle.whole.specs.Values.{pairs}
use Rattle.rules.proofs.Answer.Cases.{answered, denominator-word, laid-length, lower-part, upper-part}
use Rattle.rules.proofs.Answer.Cases.{verdict-word}
use Rattle.rules.proofs.Termination.Ends.{ready-start}
use Rattle.rules.specs.Answer.{answer, answer_from}
use Rattle.rules.specs.Facts.Answer.{Answered, Shape, Shaped, can-at, cannot-at, crossing, laid, range_at}
use Rattle.rules.specs.Facts.Answer.{shape-can}
use Rattle.rules.specs.Facts.Answer.{shape-cannot, shape-range}
use Rattle.rules.specs.Evidence.{verdict_of}
use Rattle.rules.specs.Problem.{Problem, inner, problem, vars, vars_of, word}
use Rattle.rules.specs.Run.{after}
use Rattle.rules.specs.Facts.State.{Ready}
use Rattle.rules.specs.Step.{State, same, scaled, start}

module _ (N : ℕ) where
  abbrev zeros : List ℤ
  zeros = replicate N (pos 0)

  zeros-many : length zeros ≡ N
  zeros-many = length-replicate N (pos 0)

  zero-at : (v : ℕ) → v < N → word zeros v ≡ pos 0
  zero-at v h = get_or-replicate N v (pos 0) (pos 0) h

  laid-can : (k d : ℤ) (xs ys : List ℤ) → pos 0 <ℤ d → length xs ≡ N → length ys ≡ N → Shaped N (laid (pos 1) k d xs ys)
  laid-can k d xs ys h e f = record {
    many = laid-length (pos 1) k d xs ys N e f;
    shape = shape-can (verdict-word (pos 1) k d xs ys) (rw (denominator-word (pos 1) k d xs ys) h);
  }

  laid-cannot : (k : ℤ) (xs ys : List ℤ) → length xs ≡ N → length ys ≡ N → Shaped N (laid (pos 2) k (pos 0) xs ys)
  laid-cannot k xs ys e f = record {
    many = laid-length (pos 2) k (pos 0) xs ys N e f;
    shape = shape-cannot (verdict-word (pos 2) k (pos 0) xs ys) (denominator-word (pos 2) k (pos 0) xs ys);
  }

  laid-range : (k : ℤ) → Shaped N (laid (pos 3) k (pos 0) zeros zeros)
  laid-range k = record {
    many = laid-length (pos 3) k (pos 0) zeros zeros N zeros-many zeros-many;
    shape = shape-range (verdict-word (pos 3) k (pos 0) zeros zeros) (denominator-word (pos 3) k (pos 0) zeros zeros)
        (λ v l. (
          lower-part (pos 3) k (pos 0) zeros zeros v (rw zeros-many l) ∙ zero-at v l,
          upper-part (pos 3) k (pos 0) zeros zeros N v zeros-many ∙ zero-at v l,
        ));
  }

module _ (P : Problem (ℤ × ℤ)) (s : State (ℤ × ℤ)) where
  of-answered : Answered P s → Shaped (vars P) (answer_from P s)
  of-answered (crossing v c e) = rw e (laid-cannot (vars P) (pos 0) _ _ (table-length (vars P) (same v))
      (table-length (vars P) (same v)))
  of-answered (can-at R q e) = rw e (laid-can (vars P) _ _ _ _ R.sound.rowed.positive
      (table-length (vars P) (λ v. (scaled pairs P (after pairs P s R.count) v).0))
      (table-length (vars P) (λ v. (scaled pairs P (after pairs P s R.count) v).1)))
  of-answered (cannot-at R ls us b e) = rw e
      (laid-cannot (vars P) _ ls us b.blame.many-lowers b.blame.many-uppers)
  of-answered (range_at R b e) = rw e (laid-range (vars P) _)

  pub shaped : Ready pairs P s → Shaped (vars P) (answer_from P s)
  shaped S = of-answered (answered P s S)

pub answer-shaped : (ws : List ℤ) → Shaped (vars_of ws) (answer ws)
unfolding answer problem
answer-shaped ws = shaped (inner (problem ws)) (start pairs (inner (problem ws)))
    (ready-start pairs pairs-laws (inner (problem ws)))

pub never-zero : {N : ℕ} {a : List ℤ} → Shaped N a → verdict_of a ≢ pos 0
never-zero {N} {a} S e = go S.shape
  where
    go : Shape N a → ⊥
    go (shape-can v d) = zero_one (let z : ◌≡◌ {A = ℕ} 0 1 = cc in z)
    go (shape-cannot v d) = zero_one (let z : ◌≡◌ {A = ℕ} 0 1 = cc in z)
    go (shape-range v d z) = zero_one (let z : ◌≡◌ {A = ℕ} 0 1 = cc in z)
