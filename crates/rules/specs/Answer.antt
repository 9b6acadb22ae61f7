-- docs/RULES.md, "Refusal numbers and their order": the words of an answer. Word 0 is the verdict, word 1 the pivots,
-- word 2 the denominator.
use Rattle.std.specs.Prelude.{List, ◌∷◌, ◌++◌, ℕ, zero, suc, ◌*◌, ℤ, pos, replicate, drop}
use Rattle.whole.specs.Tables.{table}
use Rattle.whole.specs.Values.{pairs}
use Rattle.rules.specs.Problem.{Problem, vars, inner, problem, answer_length}
use Rattle.rules.specs.Step.{State, can, cannot, range, goes, common, scaled, start}
use Rattle.rules.specs.Run.{Ending, ending}

-- 0, for a run whose fuel ran out, is no verdict of the rules: proofs/Answer/Shape.antt shows that no answer has it
unfoldable pub words_of : Problem (ℤ × ℤ) → Ending (ℤ × ℤ) → List ℤ
words_of P e = let N : ℕ = vars P in elim e.how [
  | can ↦ pos 1 ∷ pos e.pivots ∷ common e.last
      ∷ table N (λ v. (scaled pairs P e.last v).0) ++ table N (λ v. (scaled pairs P e.last v).1)
  | cannot ls us ↦ pos 2 ∷ pos e.pivots ∷ pos 0 ∷ ls ++ us
  | range ↦ pos 3 ∷ pos e.pivots ∷ pos 0 ∷ replicate (2 * N) (pos 0)
  | goes t ↦ pos 0 ∷ pos e.pivots ∷ pos 0 ∷ replicate (2 * N) (pos 0)
]

-- the answer of a check from any state
unfoldable pub answer_from : Problem (ℤ × ℤ) → State (ℤ × ℤ) → List ℤ
answer_from P s = words_of P (ending pairs P s)

-- the answer to accepted words
unfoldable pub answer : List ℤ → List ℤ
answer ws = let P : Problem (ℤ × ℤ) = inner (problem ws) in answer_from P (start pairs P)

-- what stands in the output afterwards: a refusal keeps it; answered, the answer and then the words that were there
unfoldable pub written : ℕ → List ℤ → List ℤ → List ℤ
written zero ws before = answer ws ++ drop (answer_length ws) before
written (suc k) ws before = before
