-- docs/RULES.md, "The run", where no limit is strict: the run over whole numbers, and its words. They are the answer's
-- (proofs/Plain/Answer.antt), so what is said of pairs changes nothing where there is no mark.
use Rattle.std.specs.Prelude.{List, ◌∷◌, ◌++◌, ℕ, ◌*◌, ◌<◌, ℤ, pos, replicate, ◌≤ℤ◌}
use Rattle.whole.specs.Tables.{table}
use Rattle.whole.specs.Values.{whole}
use Rattle.rules.specs.Limit.{Limit}
use Rattle.rules.specs.Problem.{Problem, kind, mapped, problem, vars, vars_of}
use Rattle.rules.specs.Run.{Ending, ending}
use Rattle.rules.specs.Step.{can, cannot, common, goes, range, scaled, start}

-- no limit is marked: kinds 0 to 3
abbrev pub Unmarked : List ℤ → Type 0
Unmarked ws = (v : ℕ) → v < vars_of ws → kind ws v ≤ℤ pos 3

-- the limits as whole numbers
abbrev pub plainly : Problem Limit → Problem ℤ
plainly P = record {
  n = P.n;
  m = P.m;
  coefficient = P.coefficient;
  lower = λ v. mapped (λ l. l.plain) (P.lower v);
  upper = λ v. mapped (λ u. u.plain) (P.upper v);
}

-- the second half of "can" is 0
unfoldable pub plain_words : Problem ℤ → Ending ℤ → List ℤ
plain_words P e = let N : ℕ = vars P in elim e.how [
  | can ↦ pos 1 ∷ pos e.pivots ∷ common e.last ∷ table N (scaled whole P e.last) ++ replicate N (pos 0)
  | cannot ls us ↦ pos 2 ∷ pos e.pivots ∷ pos 0 ∷ ls ++ us
  | range ↦ pos 3 ∷ pos e.pivots ∷ pos 0 ∷ replicate (2 * N) (pos 0)
  | goes t ↦ pos 0 ∷ pos e.pivots ∷ pos 0 ∷ replicate (2 * N) (pos 0)
]

unfoldable pub plain_answer : List ℤ → List ℤ
plain_answer ws = let P : Problem ℤ = plainly (problem ws) in plain_words P (ending whole P (start whole P))
