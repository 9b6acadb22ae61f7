-- docs/RULES.md, "Refusal numbers and their order", "Answered output": what every answer is.
--   Shaped      how many words it has, its verdict, word 2 and the zeros, as the table has them
--   Answered    the four answers there are, with what each knows: crossed limits, or the state at which the run ends
--   Decided     "can" or "cannot"
use Rattle.std.specs.Prelude.{List, ◌++◌, ◌∷◌, ◌⊎◌, ◌≡◌, ℕ, ◌*◌, ◌+◌, ◌<◌, pos, ℤ, length, replicate, ◌<ℤ◌}
use Rattle.std.proofs.Math.Option.{none, some}
use Rattle.whole.specs.Tables.{table}
use Rattle.whole.specs.Values.{pairs}
use Rattle.rules.specs.Answer.{answer_from}
use Rattle.rules.specs.Facts.Blame.{Blamed}
use Rattle.rules.specs.Evidence.{denominator_of, lower_part, upper_part, verdict_of}
use Rattle.rules.specs.Problem.{Problem, vars}
use Rattle.rules.specs.Run.{after, conflict}
use Rattle.rules.specs.Step.{State, common, leaving, range, same, scaled, step}
use Rattle.rules.specs.Facts.Run.{TheRun}

-- ---- its shape, of N variables

pub data Shape (N : ℕ) (a : List ℤ) : Type 0 where
  -- can: a denominator above 0
  shape-can : verdict_of a ≡ pos 1 → pos 0 <ℤ denominator_of a → Shape N a
  shape-cannot : verdict_of a ≡ pos 2 → denominator_of a ≡ pos 0 → Shape N a
  -- out of range: zeros
  shape-range : verdict_of a ≡ pos 3 → denominator_of a ≡ pos 0 →
      ((v : ℕ) → v < N → (lower_part a v ≡ pos 0) × (upper_part N a v ≡ pos 0)) → Shape N a

pub record Shaped (N : ℕ) (a : List ℤ) : Type 0 where
  pub many : length a ≡ 3 + 2 * N
  pub shape : Shape N a

-- its verdict is 1 or 2
abbrev pub Decided : List ℤ → Type 0
Decided a = (verdict_of a ≡ pos 1) ⊎ (verdict_of a ≡ pos 2)

-- ---- its words

-- verdict, count, word 2, and two words for each variable
unfoldable pub laid : ℤ → ℤ → ℤ → List ℤ → List ℤ → List ℤ
laid a b c xs ys = a ∷ b ∷ c ∷ (xs ++ ys)

-- of a problem, from a state: crossed limits with multipliers 1 and 1; "can" with the values over D; "cannot" with the
-- multipliers of specs/Facts/Blame; out of range with zeros
pub data Answered (P : Problem (ℤ × ℤ)) (s : State (ℤ × ℤ)) : Type 0 where
  crossing : (v : ℕ) → conflict pairs P ≡ some v →
      answer_from P s ≡ laid (pos 2) (pos 0) (pos 0) (table (vars P) (same v)) (table (vars P) (same v)) → Answered P s
  can-at : (R : TheRun P s) → leaving pairs P (after pairs P s R.count) ≡ none →
      answer_from P s ≡ laid (pos 1) (pos R.count) (common (after pairs P s R.count))
      (table (vars P) (λ v. (scaled pairs P (after pairs P s R.count) v).0))
      (table (vars P) (λ v. (scaled pairs P (after pairs P s R.count) v).1)) → Answered P s
  cannot-at : (R : TheRun P s) (ls us : List ℤ) → Blamed pairs P (after pairs P s R.count) ls us →
      answer_from P s ≡ laid (pos 2) (pos R.count) (pos 0) ls us → Answered P s
  range_at : (R : TheRun P s) → step pairs P (after pairs P s R.count) ≡ range →
      answer_from P s ≡ laid (pos 3) (pos R.count) (pos 0) (replicate (vars P) (pos 0)) (replicate (vars P) (pos 0)) →
      Answered P s
